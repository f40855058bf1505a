-- What a search finds is listed, and nothing else is.
use mathlib.Core.Path.{ap, ◌∙◌}
use Prim.Native.Nat.{ℕ}
use Rattle.std.proofs.Common.{Option, is_some}
use Rattle.ngrams.specs.declared.Key.{Key}
use Rattle.ngrams.specs.Grams.{words_of, latest_with}
use Rattle.ngrams.proofs.Keys.{words_few}
use Rattle.language.proofs.Scores.{some_is}
use Rattle.language.proofs.is_listed.Goals as goal

pub returns : goal.returns
returns c =
    let a = c.args in
    c.is_some.ensures
    ∙ ap (λ (o : Option ℕ). is_some o) c.find.ensures
    ∙ ap (λ (key : Key). is_some (latest_with a.index.now key a.m.count)) c.requires.key_value
    ∙ some_is c.requires.model.listing (words_of a.key) (words_few a.key)
