-- The start state, then one set after the other.
use Rattle.meaning.specs.Book.{book_of}
use Rattle.states.specs.Ghost.{Starting}
use Rattle.sets.proofs.search.Given as goal

abbrev pub invariant-loop-i : goal.invariant-loop-i
invariant-loop-i l = Starting (book_of l.task.book.now) l.task.direction.now l.task.beam.width l.i l.store l.c
