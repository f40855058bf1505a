-- The chain of x's bucket meets every state that lies in it, the latest first, and an equal state lies in it; each link goes to an earlier place, so the walk ends.
use Rattle.store.specs.Store.{Way}
use Rattle.store.proofs.index.find_equal.Given as goal

abbrev pub invariant-loop-k : goal.invariant-loop-k
invariant-loop-k l = Way l.store l.count l.x l.at

abbrev pub decreases-loop-k : goal.decreases-loop-k
decreases-loop-k l = l.at
