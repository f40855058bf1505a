-- What the search finds is one of the records, so its weight stands in the list.
use mathlib.Core.Path.{ap, ◌∙◌}
use native.Mathlib.Omega.{arith}
use mir.Facts.{to_z-of_z}
use mir.Syntax.{w64}
use Prim.Native.Nat.{ℕ}
use lib.IntN.{pos}
use Rattle.std.proofs.Common.{Option, option_map, unwrap_or}
use Rattle.laws.proofs.Linear.{told}
use Rattle.ngrams.specs.Grams.{weight_at}
use Rattle.language.specs.Language.{latest_weight}
use Rattle.language.proofs.Scores.{found_lt}
use Rattle.language.proofs.weight_of.Goals as goal

pub weight_at-requires : goal.weight_at-requires
weight_at-requires c = omega (arith, found_lt c.args.index.now c.args.count c.args.key c.in-Some.ensures, c.requires.room.parts)

pub returns-in-Some : goal.returns-in-Some
unfolding latest_weight
returns-in-Some c = to_z-of_z {w = w64} (told {w = w64} c.weight_at.type_inv) ∙ c.weight_at.ensures ∙ ap (λ (o : Option ℕ). unwrap_or (option_map (weight_at c.args.index.now) o) (pos 0)) c.in-Some.ensures

pub returns-in-None : goal.returns-in-None
unfolding latest_weight
returns-in-None c = ap (λ (o : Option ℕ). unwrap_or (option_map (weight_at c.args.index.now) o) (pos 0)) c.in-None.ensures
