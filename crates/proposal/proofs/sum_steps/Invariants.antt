-- From state to state, what is left of the list asks and adds what the whole list does from the start.
use Rattle.meaning.specs.Book.{book_of}
use Rattle.proposal.specs.Proposal.{steps_in}
use Rattle.proposal.proofs.Scoring.{rest, Scoring}
use Rattle.proposal.proofs.sum_steps.Given as goal

abbrev pub invariant-loop-i : goal.invariant-loop-i
invariant-loop-i l = Scoring (book_of l.book) l.direction (steps_in l.steps l.count) l.s (rest l.steps l.count l.i)
