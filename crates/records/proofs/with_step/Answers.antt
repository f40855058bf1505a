-- The three numbers are written where step `count` has them, and each of them lies below 99; every step before it keeps its own.
use Rattle.std.proofs.Common.{rules}
use Rattle.records.proofs.Laws.{added}
use Rattle.records.proofs.with_step.Goals as goal

pub returns : goal.returns
returns c = added c.args.p _ (search rules) c.if-at-ge33.false
