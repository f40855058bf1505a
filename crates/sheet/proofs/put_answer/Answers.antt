-- An answer that did not occur puts nothing; the two numbers of an E line fit, and are put as a line.
use Prim.Native.Nat.{ℕ, ◌≤◌}
use native.Mathlib.Omega.{arith}
use mathlib.Core.Path.{◌≡◌, sym, ap, ◌∙◌}
use lib.ListN.{length}
use Rattle.meaning.specs.Render.{printed_line}
use Rattle.meaning.specs.Sheet.{count_of}
use Rattle.decimals.proofs.Laws.{put_is}
use Rattle.sheet.specs.Rows.{rows_in}
use Rattle.sheet.proofs.Rows.{count_small}
use Rattle.sheet.proofs.Lengths.{its_line, answer_short}
use Rattle.sheet.proofs.Numbers.{two_held}
use borrow.Author.Rules.{rules}
use Rattle.sheet.proofs.put_answer.Goals as goal
use Rattle.sheet.proofs.put_answer.Goals.{Start}

found-small : (s : Start) {found : ℕ} → found ≡ count_of (rows_in s.args.answers.now s.args.count) s.args.answer → found ≤ 64
found-small s e = omega (arith, s.requires.fits.few, count_small s.args.answers.now s.args.count s.args.answer)

pub overflow_cast-numbers-2 : goal.overflow_cast-numbers-2
overflow_cast-numbers-2 c = search (rules, found-small (goal.at.overflow_cast-numbers-2 c).Start c.count_of-found.ensures)

pub put_line-requires : goal.put_line-requires
put_line-requires c = let n = c.count_of-found in let line = its_line (rows_in c.args.answers.now c.args.count) c.args.answer n.ensures (omega (arith, c.if-found-eq0.false)) in
    rw (two_held c.args.answer n.result (omega arith) (found-small (goal.at.put_line-requires c).Start n.ensures))
    (omega (arith, ap length line, answer_short c.args.answers.now c.args.count c.args.answer c.requires.fits.few c.requires.answer_bound.0))

pub returns : goal.returns
returns c = let n = c.count_of-found in let line = its_line (rows_in c.args.answers.now c.args.count) c.args.answer n.ensures (omega (arith, c.if-found-eq0.false)) in
    let few = found-small (goal.at.returns c).Start n.ensures in
    put_is (ap (printed_line 69) (two_held c.args.answer n.result (omega arith) few) ∙ sym line) c.put_line.ensures
