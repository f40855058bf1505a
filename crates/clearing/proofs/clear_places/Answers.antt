-- After k turns the places below k are zero, and the heads of their buckets. At the end no other head is left: a head that is not zero is that of a bucket with a state.
use native.Mathlib.Omega.{arith}
use Rattle.store.proofs.Indexing.{clear_goes, clear_ends}
use Rattle.clearing.proofs.clear_places.Goals as goal

pub loop-k-preserved : goal.loop-k-preserved
loop-k-preserved c = clear_goes _ _ _ _ _ c.loop-k.invariant c.bucket_at-h.ensures.0 c.bucket_at-h.ensures.1 c.clear_place.ensures

pub returns : goal.returns
returns c = clear_ends _ _ _ _ c.requires c.loop-k-test.false (omega arith) c.loop-k.invariant
