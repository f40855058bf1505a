-- Where the entry was found, its numbers are taken out and the count of the P lines falls by one (Removal).
use Prim.Native.Nat.{◌-◌}
use native.Mathlib.Omega.{arith}
use mathlib.Core.Path.{◌≡◌, sym, ap, ◌∙◌}
use lib.ListN.{length-take, length-drop}
use Rattle.laws.specs.Integers.{nat_of}
use Rattle.laws.specs.Lists.{count}
use Rattle.meaning.specs.Book.{natural_at, is_p}
use Rattle.meaning.specs.Revision.{lines_in_use}
use Rattle.meaning.specs.declared.Refusal.TheVariants.{AbsentEntry}
use Rattle.revising.proofs.Books.{InUse, in_use, stored, few_phrases}
use Rattle.revising.proofs.Removal.{absent, present, removed_long, removed_room, one_phrase, removed_put}
use Rattle.revising.proofs.Replies.{absent_so, present_so, remove_refused, remove_done}
use Rattle.revising.proofs.take_entry.Goals as goal
use Rattle.revising.proofs.take_entry.Goals.{Start}

-- the book, and the entry found in it
book : (c : Start) → InUse c.args.list.now c.args.used
book c = in_use c.args.list.now c.args.used c.requires

counted : (c : Start) → natural_at c.args.list.now 4 ≡ count is_p (lines_in_use c.args.list.now c.args.used)
counted c = ap nat_of (stored (book c))

pub slice_bounds-find_entry-end : goal.slice_bounds-find_entry-end
slice_bounds-find_entry-end c = (book (goal.at.slice_bounds-find_entry-end c).Start).room

pub slice_bounds-find_entry-end-2 : goal.slice_bounds-find_entry-end-2
slice_bounds-find_entry-end-2 c = sym (book (goal.at.slice_bounds-find_entry-end-2 c).Start).long

pub find_entry-requires : goal.find_entry-requires
find_entry-requires c = (book (goal.at.find_entry-requires c).Start).passed.whole

pub returns-in_default-clause-list_after : goal.returns-in_default-clause-list_after
returns-in_default-clause-list_after c = let a = c.args in
    let gone = absent (book (goal.at.returns-in_default-clause-list_after c).Start) c.in_default.ensures in
    (remove_refused a.list.now a.used a.entry AbsentEntry (absent_so a.list.now a.used a.entry c.requires gone)).1

pub returns-in_default-clause-result_value : goal.returns-in_default-clause-result_value
returns-in_default-clause-result_value c = let a = c.args in
    let gone = absent (book (goal.at.returns-in_default-clause-result_value c).Start) c.in_default.ensures in
    (remove_refused a.list.now a.used a.entry AbsentEntry (absent_so a.list.now a.used a.entry c.requires gone)).0

pub slice_bounds-size_at-end : goal.slice_bounds-size_at-end
slice_bounds-size_at-end c = (book (goal.at.slice_bounds-size_at-end c).Start).room

pub slice_bounds-size_at-end-2 : goal.slice_bounds-size_at-end-2
slice_bounds-size_at-end-2 c = sym (book (goal.at.slice_bounds-size_at-end-2 c).Start).long

pub slice_bounds-take_out-end : goal.slice_bounds-take_out-end
slice_bounds-take_out-end c = (book (goal.at.slice_bounds-take_out-end c).Start).room

pub take_out-requires : goal.take_out-requires
take_out-requires c = rw (length-take, length-drop) (omega (arith, (book (goal.at.take_out-requires c).Start).room, (removed_long (book (goal.at.take_out-requires c).Start) c.in-Some.ensures _ c.size_at-size.ensures.value).1))

pub overflow_sub-count : goal.overflow_sub-count
overflow_sub-count c = omega (arith, c.natural_at-count.ensures, counted (goal.at.overflow_sub-count c).Start, one_phrase (book (goal.at.overflow_sub-count c).Start) c.in-Some.ensures)

pub put_count-requires : goal.put_count-requires
put_count-requires c = (removed_room (book (goal.at.put_count-requires c).Start) c.in-Some.ensures _ c.size_at-size.ensures.value _ c.take_out.ensures, omega (arith, c.natural_at-count.ensures, counted (goal.at.put_count-requires c).Start, few_phrases (book (goal.at.put_count-requires c).Start)))

pub returns-clause-list_after : goal.returns-clause-list_after
returns-clause-list_after c = let a = c.args in
    let b = book (goal.at.returns-clause-list_after c).Start in
    let f = c.in-Some.ensures in
    let size = c.size_at-size.ensures.value in
    let n : c.natural_at-count.result - 1 ≡ count is_p (lines_in_use a.list.now a.used) - 1 = omega (arith, c.natural_at-count.ensures, counted (goal.at.returns-clause-list_after c).Start) in
    let said = remove_done a.list.now a.used a.entry _ (sym (removed_long b f _ size).0) (present_so a.list.now a.used a.entry c.requires (present b f)) in
    c.put_count.ensures ∙ rw n (removed_put b f _ size _ c.take_out.ensures) ∙ said.1

pub returns-clause-result_value : goal.returns-clause-result_value
returns-clause-result_value c = let a = c.args in
    let b = book (goal.at.returns-clause-result_value c).Start in
    let f = c.in-Some.ensures in
    let size = c.size_at-size.ensures.value in
    let n : c.natural_at-count.result - 1 ≡ count is_p (lines_in_use a.list.now a.used) - 1 = omega (arith, c.natural_at-count.ensures, counted (goal.at.returns-clause-result_value c).Start) in
    let said = remove_done a.list.now a.used a.entry _ (sym (removed_long b f _ size).0) (present_so a.list.now a.used a.entry c.requires (present b f)) in
    said.0
