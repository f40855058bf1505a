-- After k turns the first k steps stand at the beginning of the caller's records, so after `count` turns all do, and the rest is as it was.
use Rattle.std.proofs.Common.{◌≡◌}
use Rattle.records.proofs.Laws.{put_from}
use Rattle.records.proofs.put_all.Given as goal

abbrev pub invariant-loop-k : goal.invariant-loop-k
invariant-loop-k l = l.steps ≡ put_from l.plain l.k l.initial.steps
