-- The first line that is the word lies in the word's bucket, so the chain of that bucket meets it. The measure is the place: a link goes to an earlier line.
use Rattle.spelling.proofs.Index.{Search}
use Rattle.spelling.proofs.find.Given as goal

abbrev pub invariant-loop-at : goal.invariant-loop-at
invariant-loop-at l = Search l.list l.word l.count l.at

abbrev pub decreases-loop-at : goal.decreases-loop-at
decreases-loop-at l = l.at
