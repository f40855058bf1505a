-- The line is read a field at a time (InRow): its last field ends it; where a field is not as it should be, or the text ends before, there is no such line.
use Prim.Native.Nat.{◌-◌}
use lib.ListN.{length}
use Rattle.text.proofs.InRow.{InRow}
use Rattle.text.proofs.read_row.Given as goal

abbrev pub invariant-loop-end : goal.invariant-loop-end
invariant-loop-end l = InRow l.text l.at l.initial.row l.row l.line l.count l.end

abbrev pub decreases-loop-end : goal.decreases-loop-end
decreases-loop-end l = length l.text - l.end
