-- The last digits are put; those before them are the digits of `rest`.
use native.Mathlib.Omega.{arith}
use Rattle.decimals.proofs.Behind.{behind_start, behind_more, behind_end}
use Rattle.decimals.proofs.put_natural.Goals as goal

pub loop-i-init : goal.loop-i-init
loop-i-init c = behind_start _ _ _ _ (omega arith)

pub loop-i-preserved : goal.loop-i-preserved
loop-i-preserved c = behind_more c.loop-i.invariant (omega arith) (omega arith)

pub returns : goal.returns
returns c = behind_end c.loop-i.invariant (omega arith) (omega (arith, c.digit_count.ensures)) (omega (arith, c.digit_count.ensures))
