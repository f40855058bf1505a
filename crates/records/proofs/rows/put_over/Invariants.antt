-- After k turns the first k steps are put over the caller's records, so after `count` turns all are, and the rest is as it was.
use Rattle.std.proofs.Common.{◌≡◌}
use Rattle.records.proofs.Placing.{put_to}
use Rattle.records.proofs.rows.put_over.Given as goal

abbrev pub invariant-loop-k : goal.invariant-loop-k
invariant-loop-k l = l.steps ≡ put_to l.rows.numbers l.k l.initial.steps
