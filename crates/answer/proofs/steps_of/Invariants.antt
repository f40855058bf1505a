-- One number after the other.
use mathlib.Core.Path.{◌≡◌}
use mathlib.Core.List.{map}
use lib.ListN.{take}
use Rattle.records.specs.Plain.{steps_of}
use Rattle.ways.specs.Codes.{step_of}
use Rattle.answer.proofs.steps_of.Given as goal

abbrev pub invariant-loop-number : goal.invariant-loop-number
invariant-loop-number l = (l.plain.count ≡ l.number-index) × (steps_of l.plain ≡ map step_of (take l.number-index l.way))
