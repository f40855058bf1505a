-- The two lengths, then the book, then the direction: each refusal is put, and what follows a book that was read is the direction's.
use Prim.Native.Nat.{◌≤◌}
use mathlib.Core.Path.{◌≡◌, sym, ◌∙◌}
use mathlib.Core.Bool.{true, ◌&&◌}
use native.Mathlib.Omega.{arith}
use lib.Dec.{leb}
use lib.ListN.{length}
use lib.Seq.{length-take-le}
use Rattle.meaning.specs.Book.{loaded_of, read_refusal}
use Rattle.decimals.proofs.Laws.{put_is, put_over}
use Rattle.rendering.proofs.Inputs.{Filled, book_filled, book_refusal_lem, too_long, book_refused, book_read}
use Rattle.printing.proofs.Lengths.{refusal_short}
use borrow.Author.Rules.{rules}
use Rattle.rendering.proofs.render.Goals as goal
use Rattle.rendering.proofs.render.Goals.{Else-not-are_short, In-Ok}

-- the test has passed
was_short : (c : Else-not-are_short) → leb (length c.args.book.now) 8_192 && leb (length c.args.direction.now) 512 ≡ true
was_short c = sym c.are_short.ensures ∙ c.if-not-are_short.false

-- the book that was read
book_was_read : (c : In-Ok) → Filled (read_refusal c.args.book.now 8_192) c.in-Ok.n (loaded_of c.args.book.now) c.read_book.new.book
book_was_read c = book_filled _ _ _ _ _ c.in-Ok.is c.read_book.ensures.result_value c.read_book.ensures.book_after

pub put_refusal-requires : goal.put_refusal-requires
put_refusal-requires c =
    let room : 4_096 ≤ length c.args.out.now = search rules in
    omega (arith, refusal_short)

pub returns-then-not-are_short : goal.returns-then-not-are_short
returns-then-not-are_short c =
    let p = put_over (put_is (too_long _ _ (sym c.are_short.ensures ∙ c.if-not-are_short.true)) c.put_refusal.ensures) in
    record { value = p.0; out_after = p.1 }

pub slice_bounds-loaded-end : goal.slice_bounds-loaded-end
slice_bounds-loaded-end c = (book_was_read (goal.at.slice_bounds-loaded-end c).In-Ok).inside

pub slice_bounds-put_direction-end-in-Ok : goal.slice_bounds-put_direction-end-in-Ok
slice_bounds-put_direction-end-in-Ok c = sym (length-take-le _ _ (book_was_read (goal.at.slice_bounds-put_direction-end-in-Ok c).In-Ok).inside)

pub put_refusal-requires-in-Err : goal.put_refusal-requires-in-Err
put_refusal-requires-in-Err c =
    let room : 4_096 ≤ length c.args.out.now = search rules in
    omega (arith, refusal_short c.in-Err.refusal)

pub returns-in-Ok : goal.returns-in-Ok
returns-in-Ok c =
    let p = put_over (put_is (book_read _ _ (was_short (goal.at.returns-in-Ok c).Else-not-are_short) (book_was_read (goal.at.returns-in-Ok c).In-Ok)) c.put_direction.ensures) in
    record { value = p.0; out_after = p.1 }

pub returns-in-Err : goal.returns-in-Err
returns-in-Err c =
    let p =
    put_over
    (put_is
    (book_refused _ _ (was_short (goal.at.returns-in-Err c).Else-not-are_short) c.in-Err.refusal
    (book_refusal_lem _ _ 8_192 _ c.in-Err.is c.read_book.ensures.result_value))
    c.put_refusal-in-Err.ensures) in
    record { value = p.0; out_after = p.1 }
