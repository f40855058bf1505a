-- A negative number is a minus and then the digits of its size.
use mathlib.Core.Path.{refl, sym, ap}
use native.Mathlib.Omega.{arith}
use lib.ListN.{length}
use Rattle.laws.proofs.Linear.{signed}
use Rattle.decimals.proofs.Laws.{put_is, put_then}
use Rattle.decimals.proofs.Sizes.{turned}
use Rattle.decimals.proofs.put_number.Goals as goal

pub put_byte-digits-requires : goal.put_byte-digits-requires
put_byte-digits-requires c = let t = turned c.args.z _ c.ranges.z (omega (arith, signed, c.if-z-lt0.true)) refl in
    omega (arith, ap length t)

pub put_natural-requires : goal.put_natural-requires
put_natural-requires c = let t = turned c.args.z c.unsigned_abs.result c.ranges.z (omega (arith, signed, c.if-z-lt0.true)) c.unsigned_abs.ensures.value in
    omega (arith, ap length t)

pub returns-then-z-lt0 : goal.returns-then-z-lt0
returns-then-z-lt0 c = let t = turned c.args.z c.unsigned_abs.result c.ranges.z (omega (arith, signed, c.if-z-lt0.true)) c.unsigned_abs.ensures.value in
    put_is (sym t) (put_then c.put_byte-digits.ensures c.put_natural.ensures)
