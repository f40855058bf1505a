-- The three parts of an answer, one after the other.
use mathlib.Core.Path.{sym}
use native.Mathlib.Omega.{arith}
use Rattle.decimals.proofs.Laws.{put_is, put_then}
use Rattle.printing.proofs.Lines.{answer_is, answer_long}
use Rattle.printing.proofs.put_answer.Goals as goal

pub put_counts-steps-requires-clause-a_in_bounds : goal.put_counts-steps-requires-clause-a_in_bounds
put_counts-steps-requires-clause-a_in_bounds c = omega (arith, answer_long c.args.a c.args.plain.now c.args.words.now)

pub put_steps-line-requires-clause-count_in_bounds_2 : goal.put_steps-line-requires-clause-count_in_bounds_2
put_steps-line-requires-clause-count_in_bounds_2 c = let put = c.put_counts-steps.ensures in
    omega (arith, answer_long c.args.a c.args.plain.now c.args.words.now, put)

pub put_words-requires-clause-words_in_bounds : goal.put_words-requires-clause-words_in_bounds
put_words-requires-clause-words_in_bounds c = let put = c.put_counts-steps.ensures in
    omega (arith, answer_long c.args.a c.args.plain.now c.args.words.now, put, c.put_steps-line.ensures)

pub returns : goal.returns
returns c =
    let put = c.put_counts-steps.ensures in
    put_is (sym (answer_is c.args.a c.args.plain.now c.args.words.now))
    (put_then (put_then put c.put_steps-line.ensures) c.put_words.ensures)
