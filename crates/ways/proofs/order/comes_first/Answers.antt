-- Each turn goes back from the place that covers more words; at one place the steps after it decide.
use Rattle.ways.proofs.Ties.{parting_starts, turn_old, turn_new, parting_ends}
use Rattle.ways.proofs.order.comes_first.Goals as goal

pub loop-a-init : goal.loop-a-init
loop-a-init c = λ l B. parting_starts B c.place_at-z.result c.place_at-z.ensures

pub loop-a-preserved-then-x-y : goal.loop-a-preserved-then-x-y
loop-a-preserved-then-x-y c = λ l B. (turn_old B (c.loop-a.invariant l B) c.loop-a-test.true c.place_at-x.result c.place_at-y.result c.place_at-x.ensures c.place_at-y.ensures c.if-x-y.true).0

pub loop-a-preserved : goal.loop-a-preserved
loop-a-preserved c = λ l B. (turn_new B (c.loop-a.invariant l B) c.loop-a-test.true c.place_at-x.result c.place_at-y.result c.place_at-x.ensures c.place_at-y.ensures c.if-x-y.false).0

pub returns : goal.returns
returns c = λ l B. parting_ends B (c.loop-a.invariant l B) c.loop-a-test.false
