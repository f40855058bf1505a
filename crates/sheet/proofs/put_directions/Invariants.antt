-- The N lines of the directions passed are put.
use mathlib.Core.List.{map}
use Rattle.laws.specs.Lists.{concat}
use Rattle.meaning.specs.Sheet.{direction_lines, printed}
use Rattle.decimals.specs.Put.{Put}
use Rattle.sheet.specs.Rows.{rows_in}
use Rattle.sheet.proofs.put_directions.Given as goal

abbrev pub invariant-loop-k : goal.invariant-loop-k
invariant-loop-k l = Put (concat (map printed (direction_lines 1 (rows_in l.answers l.k)))) 0 l.next l.initial.out l.out
