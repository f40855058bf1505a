-- The triple's own score, or what its shorter histories give.
use native.Mathlib.Omega.{arith}
use mathlib.Core.Path.{ap, ◌∙◌}
use mathlib.Core.List.{[], ◌∷◌}
use Rattle.std.proofs.Common.{Some, None}
use mir.Facts.{to_z-of_z}
use mir.Syntax.{w64}
use mir.Val.{SFits}
use Rattle.laws.proofs.Linear.{told}
use Rattle.meaning.specs.Derivation.{backed_off}
use Rattle.ngrams.specs.Grams.{grams_in}
use Rattle.language.specs.Language.{latest_score}
use Rattle.language.proofs.Scores.{score_listed, unlisted_triple}
use borrow.Author.Rules.{rules}
use Rattle.language.proofs.triple_score.Goals as goal

pub returns-in_default : goal.returns-in_default
unfolding backed_off
returns-in_default c =
    to_z-of_z {w = w64} (told {w = w64} c.unlisted.type_inv)
    ∙ c.unlisted.ensures
    ∙ unlisted_triple c.args.m.unseen (grams_in c.args.index.now c.args.m.count) c.args.v c.args.w c.args.y
    ∙ score_listed c.requires.listing (c.args.v ∷ c.args.w ∷ c.args.y ∷ []) (omega arith) _ None
    (c.in_default.ensures ∙ ap (latest_score c.args.index.now c.args.m.count) c.triple.ensures)

fit : (c : goal.In-Some) → SFits w64 c.in-Some.s
fit c = search rules

pub returns : goal.returns
unfolding backed_off
returns c =
    to_z-of_z {w = w64} (fit c)
    ∙ score_listed c.requires.listing (c.args.v ∷ c.args.w ∷ c.args.y ∷ []) (omega arith) _ (Some c.in-Some.s)
    (c.in-Some.ensures ∙ ap (latest_score c.args.index.now c.args.m.count) c.triple.ensures)
