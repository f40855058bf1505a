-- The lines of the steps passed are put.
use mathlib.Core.List.{map}
use lib.ListN.{take}
use Rattle.laws.specs.Lists.{concat}
use Rattle.meaning.specs.Render.{printed_step}
use Rattle.records.specs.Plain.{steps_of}
use Rattle.printing.specs.Lines.{plain_of}
use Rattle.decimals.specs.Put.{Put}
use Rattle.printing.proofs.put_steps.Given as goal

abbrev pub invariant-loop-i : goal.invariant-loop-i
invariant-loop-i l = Put (concat (map printed_step (take l.i (steps_of (plain_of l.plain l.count))))) l.at l.next l.initial.out l.out
