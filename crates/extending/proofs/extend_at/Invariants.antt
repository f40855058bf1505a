-- A position that is covered or out of reach is passed over; of any other, each option goes one further, until its last.
use Rattle.meaning.specs.Book.{book_of}
use Rattle.states.specs.Ghost.{Growing}
use Rattle.extending.proofs.extend_at.Given as goal

abbrev pub invariant-loop-option : goal.invariant-loop-option
invariant-loop-option l = Growing (book_of l.task.book.now) l.task.direction.now l.task.beam.width l.spot.source.place.size l.spot.source.at l.option l.store l.c
