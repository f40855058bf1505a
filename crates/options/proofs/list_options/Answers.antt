-- After i first positions the list holds the options of those, and where they begin.
use Prim.Native.Nat.{ℕ, ◌+◌, ◌*◌, ◌≤◌}
use native.Mathlib.Omega.{arith}
use mathlib.Core.Path.{◌≡◌, refl, ◌∙◌}
use mathlib.Core.List.{List}
use lib.ListN.{length}
use Rattle.meaning.specs.Book.{Book, book_of}
use Rattle.meaning.specs.Direction.{word_count}
use Rattle.book.specs.Entries.{entries_most}
use Rattle.options.proofs.Listing.{Filled, filled_none, filled_more, at_most, options_are}
use Rattle.options.proofs.list_options.Goals as goal

record Filling (book : Book) (direction options₀ options : List ℕ) (i count : ℕ) : Type 0 where
  long : length options ≡ length options₀
  few : count ≤ i * entries_most
  filled : Filled book direction options i count

pub loop-i-init : goal.loop-i-init
loop-i-init c = record { long = refl; few = omega arith; filled = filled_none (book_of c.args.book.now) c.args.direction.now c.put_start.ensures }

pub put_start-requires-in-loop-i-clause-start_bound : goal.put_start-requires-in-loop-i-clause-start_bound
put_start-requires-in-loop-i-clause-start_bound c = let t = c.loop-i-test.true in
    let l = c.loop-i in
    let d = c.requires.direction_len_bound in
    let r = c.requires.options_size_in_bounds in
    let o = l.invariant.long in
    let k = c.put_start.ensures.long in
    let g = c.list_at-count in
    let e = g.ensures.long in
    let f = c.requires.entries_at.few in
    let m = at_most (book_of c.args.book.now) c.args.direction.now (l.i + 1) c.args.t.phrases in
    let a = l.invariant.few in
    let n = g.ensures.counted in
    omega arith

pub loop-i-preserved : goal.loop-i-preserved
loop-i-preserved c =
    let l = c.loop-i in
    let t = c.loop-i-test.true in
    let g = c.list_at-count in
    let w = c.put_start-in-loop-i in
    let f = c.requires.entries_at.few in
    let d = c.requires.direction_len_bound in
    let r = c.requires.options_size_in_bounds in
    let o = l.invariant.long in
    let k = c.put_start.ensures.long in
    let m = at_most (book_of c.args.book.now) c.args.direction.now (l.i + 1) c.args.t.phrases in
    let a = l.invariant.few in
    let n = g.ensures.counted in
    record {
      long = w.ensures.long ∙ g.ensures.long ∙ l.invariant.long;
      few = omega arith;
      filled = filled_more (book_of c.args.book.now) c.args.direction.now l.invariant.filled (omega arith) (omega arith) (rw c.requires.entries_at.counted at g.ensures) w.ensures;
    }

pub returns : goal.returns
unfolding word_count
returns c =
    let l = c.loop-i in
    let i = l.auto.i-end in
    let t = c.loop-i-test.false in
    let d = c.requires.direction_len_bound in
    let r = c.requires.options_size_in_bounds in
    let a = l.invariant.few in
    let o = l.invariant.long in
    let k = c.put_start.ensures.long in
    let z : l.i ≡ length c.args.direction.now = omega arith in
    options_are (book_of c.args.book.now) c.args.direction.now (rw z at l.invariant.filled) (omega arith)
