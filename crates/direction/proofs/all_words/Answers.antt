-- What `all` gives over the numbers, each tested as the number that it is.
use Prim.Native.Nat.{ℕ}
use mathlib.Core.Path.{sym, ◌∙◌}
use mathlib.Core.Bool.{Bool}
use lib.IntN.{pos}
use Rattle.std.proofs.Common.{rules, tests}
use Rattle.std.proofs.lemmas.Iterator.{YieldsList-from_slice}
use Rattle.std.proofs.lemmas.Iterator.Search.{all_from_yields_List}
use Rattle.laws.proofs.Lists.{all_map}
use Rattle.meaning.specs.Direction.{is_direction_word}
use Rattle.lines.proofs.Lines.{all_is}
use Rattle.direction.proofs.all_words.Goals as goal

-- a number of a direction is a word
abbrev is_word_number : ℕ → Bool
is_word_number n = is_direction_word (pos n)

pub returns : goal.returns
returns c =
    let numbers = c.args.direction.now in
    all_from_yields_List is_word_number _ _ c.all.result c.all.ensures.ran (YieldsList-from_slice numbers cc) (λ x b q k. search (rules, tests))
    ∙ all_is is_word_number numbers ∙ sym (all_map is_direction_word pos numbers)
