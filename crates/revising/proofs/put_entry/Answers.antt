-- The line is put behind the numbers in use, and the count of the P lines rises by one (Books).
use Prim.Native.Nat.{suc, ◌+◌, ◌≤◌}
use native.Mathlib.Omega.{arith}
use mathlib.Core.Path.{◌≡◌, ap, ◌∙◌}
use lib.ListN.{length, length-take, length-drop}
use Rattle.laws.specs.Integers.{nat_of}
use Rattle.laws.specs.Lists.{count}
use Rattle.meaning.specs.Book.{natural_at, is_p}
use Rattle.meaning.specs.Revision.{lines_in_use}
use Rattle.revising.proofs.Books.{InUse, in_use, stored, added_long, added_room, added_put}
use Rattle.revising.proofs.Replies.{Addable, addable}
use Rattle.revising.proofs.put_entry.Goals as goal
use Rattle.revising.proofs.put_entry.Goals.{Start}

-- the book, and what the questions said of the line
able : (c : Start) → Addable c.args.list.now c.args.used c.args.line.now
able c = addable c.args.list.now c.args.used c.args.line.now c.requires

book : (c : Start) → InUse c.args.list.now c.args.used
book c = in_use c.args.list.now c.args.used (able c).asked

fits : (c : Start) → c.args.used + length c.args.line.now ≤ length c.args.list.now
fits c = omega (arith, (able c).fits, added_long (book c) c.args.line.now (able c).is_p_lem)

counted : (c : Start) → natural_at c.args.list.now 4 ≡ count is_p (lines_in_use c.args.list.now c.args.used)
counted c = ap nat_of (stored (book c))

pub offset_bounds-list-used : goal.offset_bounds-list-used
offset_bounds-list-used c = omega (arith, (book (goal.at.offset_bounds-list-used c).Start).room)

pub slice_bounds-put_front-count : goal.slice_bounds-put_front-count
slice_bounds-put_front-count c = (book (goal.at.slice_bounds-put_front-count c).Start).room

pub slice_bounds-put_front-start : goal.slice_bounds-put_front-start
slice_bounds-put_front-start c = (book (goal.at.slice_bounds-put_front-start c).Start).room

pub put_front-requires : goal.put_front-requires
put_front-requires c = rw (length-take, length-drop) (omega (arith, fits (goal.at.put_front-requires c).Start))

pub overflow_add-count : goal.overflow_add-count
overflow_add-count c = omega (arith, c.natural_at-count.ensures, counted (goal.at.overflow_add-count c).Start, (able (goal.at.overflow_add-count c).Start).few)

pub put_count-requires : goal.put_count-requires
put_count-requires c = (added_room (book (goal.at.put_count-requires c).Start) c.args.line.now (able (goal.at.put_count-requires c).Start).is_p_lem _ c.put_front.ensures (fits (goal.at.put_count-requires c).Start), omega (arith, c.natural_at-count.ensures, counted (goal.at.put_count-requires c).Start, (able (goal.at.put_count-requires c).Start).few))

pub returns : goal.returns
returns c =
    let n : c.natural_at-count.result + 1 ≡ suc (count is_p (lines_in_use c.args.list.now c.args.used)) = omega (arith, c.natural_at-count.ensures, counted (goal.at.returns c).Start) in
    c.put_count.ensures ∙ rw n (added_put (book (goal.at.returns c).Start) c.args.line.now (able (goal.at.returns c).Start).is_p_lem _ c.put_front.ensures)
