-- After i first positions the list holds the options of those, and where they begin.
use Prim.Native.Nat.{ℕ, ◌*◌, ◌≤◌}
use mathlib.Core.Path.{◌≡◌}
use mathlib.Core.List.{List}
use lib.ListN.{length}
use Rattle.meaning.specs.Book.{Book, book_of}
use Rattle.book.specs.Entries.{entries_most}
use Rattle.options.proofs.Listing.{Filled}
use Rattle.options.proofs.list_options.Given as goal

pub record Filling (book : Book) (direction options₀ options : List ℕ) (i count : ℕ) : Type 0 where
  pub long : length options ≡ length options₀
  pub few : count ≤ i * entries_most
  pub filled : Filled book direction options i count

abbrev pub invariant-loop-i : goal.invariant-loop-i
invariant-loop-i l = Filling (book_of l.book) l.direction l.initial.options l.options l.i l.count
