-- One place after the other, of those that were there when the set began.
use Rattle.meaning.specs.Book.{book_of}
use Rattle.states.specs.Ghost.{Levelling}
use Rattle.sets.proofs.level.Given as goal

abbrev pub invariant-loop-j : goal.invariant-loop-j
invariant-loop-j l = Levelling (book_of l.task.book.now) l.task.direction.now l.task.beam.width l.i l.j l.store l.c
