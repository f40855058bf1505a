-- The lines before the walk's place are noted, and with those that are left they are all lines.
use mathlib.Core.Path.{◌≡◌, sym, ap, ◌∙◌}
use native.Mathlib.Omega.{arith}
use lib.ListN.{length}
use borrow.Author.Rules.{rules}
use Rattle.book.proofs.Cuts.{passed_line, line_broken, line_long}
use Rattle.book.proofs.Walk.{walk_start, walk_next, walk_end}
use Rattle.book.proofs.loaded.survey_loaded.Goals as goal

pub loop-at-init : goal.loop-at-init
loop-at-init c =
    let front : c.into_iter-at-iterator.result.at ≡ 0 = search rules in
    (search rules, sym front, rw (front, c.fresh-acc.ensures, c.requires) (walk_start c.args.book.now c.args.index.now))

pub overflow_add-end : goal.overflow_add-end
overflow_add-end c =
    let p = passed_line c.in-Some.at c.in-Some.line c.loop-at.invariant.0 c.in-Some.ensures.steps.1 in
    omega (arith, p.1, p.0.inside, ap length p.2, line_long _ _ _ p.0)

pub loop-at-preserved : goal.loop-at-preserved
loop-at-preserved c =
    let i = c.loop-at.invariant in
    let s = c.in-Some.ensures.steps in
    let p = passed_line c.in-Some.at c.in-Some.line i.0 s.1 in
    let said = c.note_line-acc.ensures in
    (s.0 ∙ i.0, omega (arith, p.1, p.3, ap length p.2, line_long _ _ _ p.0), rw (said.value, said.tally_after, said.index_after, p.2, p.3) (walk_next i.2 p.0))

pub returns-then-end-book : goal.returns-then-end-book
returns-then-end-book c =
    let i = c.loop-at.invariant in
    let s = c.in-None.ensures.steps in
    sym i.2.asked ∙ line_broken c.args.book.now c.loop-at.at-iterator.at (rw i.1 at c.if-end-book.true) (sym (rw i.0 at s.1.0))

pub returns : goal.returns
returns c =
    let i = c.loop-at.invariant in
    walk_end i.2 (rw i.1 at c.if-end-book.false)
