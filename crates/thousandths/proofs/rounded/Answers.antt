-- That the sum is the nearest is a law of digits (Nearest).
use native.Mathlib.Omega.{arith}
use Rattle.thousandths.proofs.Nearest.{nearest_fraction}
use Rattle.thousandths.proofs.rounded.Goals as goal

pub returns-then-digit_at-ge5 : goal.returns-then-digit_at-ge5
returns-then-digit_at-ge5 c = omega (arith, nearest_fraction c.args.fraction.now c.requires)

pub returns : goal.returns
returns c = omega (arith, nearest_fraction c.args.fraction.now c.requires)
