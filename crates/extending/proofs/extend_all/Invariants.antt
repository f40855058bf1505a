-- One position after the other, each with its run of free positions.
use Rattle.meaning.specs.Book.{book_of}
use Rattle.options.specs.Options.{start_at}
use Rattle.states.specs.Ghost.{Growing}
use Rattle.extending.proofs.extend_all.Given as goal

abbrev pub invariant-loop-i : goal.invariant-loop-i
invariant-loop-i l = Growing (book_of l.task.book.now) l.task.direction.now l.task.beam.width l.source.place.size l.source.at (start_at l.task.options.now l.i) l.store l.c
