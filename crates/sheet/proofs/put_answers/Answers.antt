-- The E lines of the answers passed are put.
use Prim.Native.Nat.{ℕ, suc, ◌+◌, ◌≤◌}
use native.Mathlib.Omega.{arith}
use mathlib.Core.Path.{◌≡◌, ap, ◌∙◌}
use mathlib.Core.List.{map}
use Rattle.laws.specs.Lists.{concat, numbers_from}
use Rattle.meaning.specs.Sheet.{largest}
use Rattle.decimals.proofs.Laws.{put_is}
use Rattle.sheet.specs.Rows.{rows_in, count_line}
use Rattle.sheet.proofs.Rows.{largest_small}
use Rattle.sheet.proofs.Lengths.{answers_short, occurred_lines}
use Rattle.sheet.proofs.Going.{answer_more}
use Rattle.sheet.proofs.put_answers.Goals as goal

pub put_answer-next-requires-clause-answer_bound : goal.put_answer-next-requires-clause-answer_bound
put_answer-next-requires-clause-answer_bound c =
    let l = c.loop-answer in
    let f = c.requires.fits in
    let small : l.answer ≤ 34 = omega (arith, c.largest_of-most.ensures, largest_small c.args.count f) in
    (omega (arith, c.largest_of-most.ensures, largest_small c.args.count f), omega (arith, l.invariant.end, l.invariant.same, answers_short c.args.answers.now c.args.count 0 l.answer f.few (omega arith)))

pub loop-answer-preserved : goal.loop-answer-preserved
loop-answer-preserved c = answer_more (rows_in c.args.answers.now c.args.count) c.loop-answer.answer c.loop-answer.invariant c.put_answer-next.ensures

pub returns-2 : goal.returns-2
returns-2 c =
    let l = c.loop-answer in
    let rows = rows_in c.args.answers.now c.args.count in
    let e : l.answer + 1 ≡ suc (largest rows) = omega (arith, c.largest_of-most.ensures) in
    put_is (ap (λ (n : ℕ). concat (map (count_line rows) (numbers_from 0 n))) e ∙ occurred_lines rows) (answer_more rows l.answer l.invariant c.put_answer-next.ensures)
