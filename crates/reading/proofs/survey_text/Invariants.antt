-- The lines before `at` are good and noted, and with those that are left they are all lines (Walk); each line takes some bytes, so the text comes to its end. A line that the row has no place for is not whole.
use Prim.Native.Nat.{◌-◌}
use lib.ListN.{length}
use Rattle.reading.proofs.Walk.{Walked}
use Rattle.reading.proofs.survey_text.Given as goal

abbrev pub invariant-loop-at : goal.invariant-loop-at
invariant-loop-at l = Walked l.text l.initial.index l.survey l.tally l.index l.row l.count l.at

abbrev pub decreases-loop-at : goal.decreases-loop-at
decreases-loop-at l = length l.text - l.at
