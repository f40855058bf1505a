-- A position that is covered or out of reach is passed over; of any other, each option goes one further, until its last.
use Rattle.derivation.specs.Next.{jump_from}
use Prim.Native.Nat.{◌≤◌}
use mathlib.Core.Path.{sym, ◌∙◌}
use native.Mathlib.Omega.{arith}
use Rattle.extending.proofs.Turns.{covered_skips, far_skips, spot_option, spot_turn}
use Rattle.extending.proofs.extend_at.Goals as goal

pub returns-then-spot-eq0 : goal.returns-then-spot-eq0
returns-then-spot-eq0 c = covered_skips c.requires.spot_of c.if-spot-eq0.true c.requires.growing

pub returns-then-task-jump : goal.returns-then-task-jump
returns-then-task-jump c = far_skips c.requires.spot_of (let h = c.if-task-jump.true in let e = rw c.from-r.ensures at c.jump.ensures in omega arith) c.requires.growing

pub option_at-requires : goal.option_at-requires
option_at-requires c = let t = c.start_at-to.ensures in spot_option c.requires.spot_of _ (let h = c.loop-option-test.true in omega arith)

pub extend_option-requires-clause-turn_of : goal.extend_option-requires-clause-turn_of
extend_option-requires-clause-turn_of c = let l = c.loop-option in
    let f = c.start_at-from.ensures in
    let t = c.start_at-to.ensures in
    let e = c.from-entry.ensures ∙ c.option_at.ensures in
    let near : jump_from c.args.spot.source.place.state.r c.args.spot.first ≤ c.args.task.now.beam.setup.limit = (let h = c.if-task-jump.false in let j = rw c.from-r.ensures at c.jump.ensures in omega arith) in
    rw (sym e) at (spot_turn c.requires.spot_of near l.option (let h = l.auto.option in omega arith) (let h = c.loop-option-test.true in omega arith))
