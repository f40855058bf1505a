-- The line is read a field at a time (Reading): a byte 10 or the text's end ends it.
use Prim.Native.Nat.{◌-◌}
use lib.ListN.{length}
use Rattle.tokens.proofs.Reading.{Reading}
use Rattle.tokens.proofs.scan.read_line.Given as goal

abbrev pub invariant-loop-next : goal.invariant-loop-next
invariant-loop-next l = Reading l.text l.at l.initial.places l.places l.count l.next

abbrev pub decreases-loop-next : goal.decreases-loop-next
decreases-loop-next l = length l.text - l.next
