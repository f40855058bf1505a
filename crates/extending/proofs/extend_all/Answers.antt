-- One position after the other, each with its run of free positions.
use native.Mathlib.Omega.{arith}
use Rattle.states.proofs.Ghost.{ended}
use Rattle.extending.proofs.Turns.{all_done}
use Rattle.extending.proofs.extend_all.Goals as goal

pub returns : goal.returns
returns c = let l = c.loop-i in ended _ _ _ (all_done c.args.task.now l.i (omega arith) c.loop-i-test.false) l.invariant
