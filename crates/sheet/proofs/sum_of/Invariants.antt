-- The sum of the directions passed.
use mathlib.Core.Path.{◌≡◌}
use mathlib.Core.List.{map}
use Rattle.laws.specs.Lists.{numbers_from, sumℤ}
use Rattle.sheet.specs.Rows.{number_at}
use Rattle.sheet.proofs.sum_of.Given as goal

abbrev pub invariant-loop-k : goal.invariant-loop-k
invariant-loop-k l = l.sum ≡ sumℤ (map (number_at l.answers l.place) (numbers_from 0 l.k))
