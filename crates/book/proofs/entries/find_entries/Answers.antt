-- The places of the P lines before the walk's place are found, and every line is whole, so the walk comes to the list's end.
use native.Mathlib.Omega.{arith}
use mathlib.Core.Path.{◌≡◌, ◌∙◌}
use borrow.Author.Rules.{rules}
use Rattle.ngrams.proofs.Parts.{below_all, below_then}
use Rattle.book.specs.Entries.{entries_from}
use Rattle.book.proofs.Length.{loaded_short}
use Rattle.book.proofs.Cuts.{passed_line, passed_all}
use Rattle.book.proofs.Places.{found_start, found_room, found_next, found_end, place_kept}
use Rattle.book.proofs.entries.find_entries.Goals as goal

pub loop-at-init : goal.loop-at-init
loop-at-init c =
    let front : c.into_iter-at-iterator.result.at ≡ 0 = search rules in
    (search rules, rw front (found_start c.args.book.now c.args.index.now c.requires.book_value), below_all entries_from c.args.index.now)

pub put_place-count-requires-clause-at_in_bounds : goal.put_place-count-requires-clause-at_in_bounds
put_place-count-requires-clause-at_in_bounds c =
    let i = c.loop-at.invariant in
    let p = passed_line c.in-Some.at c.in-Some.field-0-1 i.0 c.in-Some.ensures.steps.1 in
    let short = loaded_short c.args.book.now c.requires.book_value in
    (omega (arith, p.1, i.1.inside), omega (arith, p.1, i.1.inside))

pub put_place-count-requires-clause-count_in_bounds : goal.put_place-count-requires-clause-count_in_bounds
put_place-count-requires-clause-count_in_bounds c =
    let i = c.loop-at.invariant in
    let p = passed_line c.in-Some.at c.in-Some.field-0-1 i.0 c.in-Some.ensures.steps.1 in
    λ q. omega (arith, found_room i.1 p.0 (rw p.1 at q), i.1.few, i.2.size, c.requires.index_size_in_bounds)

pub loop-at-preserved : goal.loop-at-preserved
loop-at-preserved c =
    let l = c.loop-at in
    let i = l.invariant in
    let s = c.in-Some.ensures.steps in
    let p = passed_line c.in-Some.at c.in-Some.field-0-1 i.0 s.1 in
    let said = c.put_place-count.ensures in (
      s.0 ∙ i.0,
      rw (said.value, said.index_after, p.1, p.3) (found_next i.1 p.0 (omega (arith, i.2.size, c.requires.index_size_in_bounds))),
      rw said.index_after (below_then i.2 (place_kept c.args.book.now l.index c.in-Some.at l.count)),
    )

pub returns : goal.returns
returns c =
    let i = c.loop-at.invariant in
    record { entries = found_end i.1 (passed_all i.0 c.in-None.ensures.steps.1 i.1.whole) (omega (arith, i.2.size, c.requires.index_size_in_bounds)); kept = i.2 }
