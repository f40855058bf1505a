-- A record of the words lies in their bucket, so the chain of that bucket meets it, latest first. The measure is the place: a link goes to an earlier record.
use Rattle.laws.specs.Index.{Walk}
use Rattle.ngrams.specs.Grams.{bucket_of, bucket_at, holds}
use Rattle.ngrams.proofs.Parts.{stored}
use Rattle.ngrams.proofs.find.Given as goal

abbrev pub invariant-loop-next : goal.invariant-loop-next
invariant-loop-next l = Walk (bucket_at l.index) (holds l.index l.key) (bucket_of l.key) l.count (stored l.next)

abbrev pub decreases-loop-next : goal.decreases-loop-next
decreases-loop-next l = stored l.next
