-- A number has one digit more than the power of ten in it; 0 has one.
use mathlib.Core.Path.{ap}
use native.Mathlib.Omega.{arith}
use lib.ListN.{length}
use Rattle.decimals.proofs.Digits.{digit, at_most, at_least}
use Rattle.decimals.proofs.digit_count.Goals as goal

pub returns-in-Some : goal.returns-in-Some
returns-in-Some c =
    let e = c.in-Some.ensures in
    omega (arith, at_most c.in-Some.power c.args.n (omega (arith, e.next_power_gt)), at_least c.in-Some.power c.args.n e.power_le)

pub returns-in-None : goal.returns-in-None
returns-in-None c = omega (arith, ap length (digit c.args.n (omega (arith, c.in-None.ensures.none))))
