-- The places of the P lines before the walk's place are found, and every line is whole, so the walk comes to the list's end.
use mathlib.Core.Path.{◌≡◌}
use Rattle.ngrams.specs.Parts.{KeptBelow}
use Rattle.book.specs.Entries.{entries_from}
use Rattle.book.proofs.Places.{Found}
use Rattle.book.proofs.entries.find_entries.Given as goal

abbrev pub invariant-loop-at : goal.invariant-loop-at
invariant-loop-at l = (l.at-iterator.book.now ≡ l.book) × Found l.book l.index l.count l.at-iterator.at × KeptBelow entries_from l.initial.index l.index
