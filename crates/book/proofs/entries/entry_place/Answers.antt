-- The place stands behind the records, in two halves.
use Rattle.book.specs.Entries.{entry_place}
use Rattle.book.proofs.entries.entry_place.Goals as goal

pub returns : goal.returns
unfolding entry_place
returns c = c.whole_at.ensures.0
