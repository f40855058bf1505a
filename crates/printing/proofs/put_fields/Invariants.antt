-- The fields of the numbers passed are put.
use mathlib.Core.List.{map}
use lib.ListN.{take}
use Rattle.laws.specs.Lists.{concat}
use Rattle.decimals.specs.Put.{Put, field}
use Rattle.printing.proofs.put_fields.Given as goal

abbrev pub invariant-loop-number : goal.invariant-loop-number
invariant-loop-number l = Put (concat (map field (take l.number-index l.numbers))) l.at l.next l.initial.out l.out
