-- After k turns the places below k are zero, and the heads of their buckets. At the end no other head is left: a head that is not zero is that of a bucket with a state.
use Rattle.store.specs.Store.{Clearing}
use Rattle.clearing.proofs.clear_places.Given as goal

abbrev pub invariant-loop-k : goal.invariant-loop-k
invariant-loop-k l = Clearing l.initial.store l.store l.k
