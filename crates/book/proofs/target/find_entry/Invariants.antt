-- The entry sought is the `left`-th P line from the walk's place on; every line is whole, so the walk comes to the list's end.
use mathlib.Core.Path.{◌≡◌}
use Rattle.book.proofs.Sought.{Sought}
use Rattle.book.proofs.target.find_entry.Given as goal

abbrev pub invariant-loop-at : goal.invariant-loop-at
invariant-loop-at l = (l.at-iterator.book.now ≡ l.book) × Sought l.book l.entry l.left l.at-iterator.at
