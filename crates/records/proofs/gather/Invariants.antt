-- After i turns the first i records were taken, and the loop ends at the 33rd or at the last.
use Rattle.std.proofs.Common.{◌≡◌, take}
use Rattle.records.specs.Plain.{steps_of}
use Rattle.records.proofs.gather.Given as goal

abbrev pub invariant-loop-step : goal.invariant-loop-step
invariant-loop-step l = steps_of l.plain ≡ take l.step-index l.step-items
