-- The E lines of the answers passed are put.
use mathlib.Core.List.{map}
use Rattle.laws.specs.Lists.{concat, numbers_from}
use Rattle.decimals.specs.Put.{Put}
use Rattle.sheet.specs.Rows.{rows_in, count_line}
use Rattle.sheet.proofs.put_answers.Given as goal

abbrev pub invariant-loop-answer : goal.invariant-loop-answer
invariant-loop-answer l = Put (concat (map (count_line (rows_in l.answers l.count)) (numbers_from 0 l.answer))) l.at l.next l.initial.out l.out
