-- The first k entries are done; in the inner loop the first j words of the entry after them agree with the direction's.
use Rattle.std.proofs.Common.{◌+◌, ◌-◌}
use Rattle.meaning.specs.Book.{book_of}
use Rattle.options.specs.Options.{fitting_at, Listed}
use Rattle.options.proofs.Fits.{Agreed}
use Rattle.options.proofs.list_at.Given as goal

abbrev pub invariant-words : goal.invariant-words
invariant-words l = Agreed l.book l.direction l.first (l.first + l.p.long - 1) l.p l.j

abbrev pub invariant-entries : goal.invariant-entries
invariant-entries l = Listed l.initial.options l.options l.from l.count (fitting_at (book_of l.book) l.direction l.first l.k)
