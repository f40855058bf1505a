-- The entry sought is the `left`-th P line from the walk's place on; every line is whole, so the walk comes to the list's end.
use mathlib.Core.Path.{sym, ◌∙◌}
use Rattle.book.proofs.Cuts.{passed_line, passed_all}
use Rattle.book.proofs.Sought.{sought_here, sought_other, sought_later, sought_end}
use Rattle.book.proofs.target.find_entry.Goals as goal

pub returns-then-left-eq1 : goal.returns-then-left-eq1
returns-then-left-eq1 c =
    let i = c.loop-at.invariant in
    let p = passed_line c.in-Some.at c.in-Some.field-0-1 i.0 c.in-Some.ensures.steps.1 in
    rw p.1 (sought_here i.1 p.0 (rw p.1 at (sym c.is_entry_at.ensures ∙ c.if-is_entry_at.true)) c.if-left-eq1.true)

pub loop-at-preserved-then-is_entry_at : goal.loop-at-preserved-then-is_entry_at
loop-at-preserved-then-is_entry_at c =
    let i = c.loop-at.invariant in
    let s = c.in-Some.ensures.steps in
    let p = passed_line c.in-Some.at c.in-Some.field-0-1 i.0 s.1 in
    (s.0 ∙ i.0, rw (c.saturating_sub-left.ensures, p.3) (sought_later i.1 p.0 (rw p.1 at (sym c.is_entry_at.ensures ∙ c.if-is_entry_at.true)) c.if-left-eq1.false))

pub loop-at-preserved : goal.loop-at-preserved
loop-at-preserved c =
    let i = c.loop-at.invariant in
    let s = c.in-Some.ensures.steps in
    let p = passed_line c.in-Some.at c.in-Some.field-0-1 i.0 s.1 in
    (s.0 ∙ i.0, rw p.3 (sought_other i.1 p.0 (rw p.1 at (sym c.is_entry_at.ensures ∙ c.if-is_entry_at.false))))

pub returns : goal.returns
returns c = sought_end c.loop-at.invariant.1 (passed_all c.loop-at.invariant.0 c.in-None.ensures.steps.1 c.loop-at.invariant.1.whole)
