-- The text's numbers are put two places behind the list's front, and then the B record (Reading).
use Prim.Native.Nat.{◌+◌, ◌≤◌}
use native.Mathlib.Omega.{arith}
use mathlib.Core.Path.{◌∙◌}
use lib.ListN.{length, length-take, length-drop}
use Rattle.text.specs.Walk.{text_numbers}
use Rattle.reading.proofs.TextReplies.{loaded_long}
use Rattle.reading.proofs.Reading.{lines_are, loaded_six, counts_few, book_written, text_put, text_put_long}
use Rattle.reading.proofs.write_book.Goals as goal
use Rattle.reading.proofs.write_book.Goals.{Start}

-- the list has room for the B record
six : (c : Start) → 6 ≤ length c.args.book.now
six c = omega (arith, loaded_six c.args.text.now c.requires.counted.passed, c.requires.counted.numbers_are, c.requires.numbers_in_bounds)

room : (c : Start) → 2 + length (text_numbers c.args.text.now) ≤ length c.args.book.now
room c = omega (arith, loaded_long c.args.text.now (lines_are c.args.text.now 0 c.requires.counted.passed), c.requires.counted.numbers_are, c.requires.numbers_in_bounds)

pub slice_bounds-write_numbers-count : goal.slice_bounds-write_numbers-count
slice_bounds-write_numbers-count c = omega (arith, six (goal.at.slice_bounds-write_numbers-count c).Start)

pub slice_bounds-write_numbers-start : goal.slice_bounds-write_numbers-start
slice_bounds-write_numbers-start c = omega (arith, six (goal.at.slice_bounds-write_numbers-start c).Start)

pub write_numbers-requires-clause-text_in_bounds : goal.write_numbers-requires-clause-text_in_bounds
write_numbers-requires-clause-text_in_bounds c = let e = c.requires.counted in
    let a = c.args in
    rw (length-take, length-drop) (omega (arith, room (goal.at.write_numbers-requires-clause-text_in_bounds c).Start))

pub put_counts-requires-clause-in_bounds : goal.put_counts-requires-clause-in_bounds
put_counts-requires-clause-in_bounds c = let e = c.requires.counted in
    let few = counts_few c.args.text.now e.passed in
    let a = c.args in
    let put = text_put a.text.now a.book.now _ (omega (arith, six (goal.at.put_counts-requires-clause-in_bounds c).Start)) c.write_numbers.ensures.book_after in
    let long = text_put_long a.text.now a.book.now (room (goal.at.put_counts-requires-clause-in_bounds c).Start) in
    rw put (omega (arith, long, six (goal.at.put_counts-requires-clause-in_bounds c).Start))

pub put_counts-requires-clause-phrases_le_grams_most : goal.put_counts-requires-clause-phrases_le_grams_most
put_counts-requires-clause-phrases_le_grams_most c = let e = c.requires.counted in
    let few = counts_few c.args.text.now e.passed in
    let a = c.args in
    let put = text_put a.text.now a.book.now _ (omega (arith, six (goal.at.put_counts-requires-clause-phrases_le_grams_most c).Start)) c.write_numbers.ensures.book_after in
    let long = text_put_long a.text.now a.book.now (room (goal.at.put_counts-requires-clause-phrases_le_grams_most c).Start) in
    (omega (arith, e.phrases_are, few.0), omega (arith, e.triples_are, few.1))

pub returns : goal.returns
returns c =
    let a = c.args in
    let e = c.requires.counted in
    let put = text_put a.text.now a.book.now _ (omega (arith, six (goal.at.returns c).Start)) c.write_numbers.ensures.book_after in
    c.put_counts.ensures ∙ rw (put, e.phrases_are, e.triples_are) (book_written a.text.now a.book.now e.passed (omega (arith, six (goal.at.returns c).Start)))
