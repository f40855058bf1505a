-- A negative number, as the code has it: a minus, and its size.
use mathlib.Core.Path.{◌≡◌, ◌∙◌, ap}
use mathlib.Core.Bool.{true}
use mathlib.Core.List.{◌∷◌}
use native.Mathlib.Omega.{arith}
use Prim.Native.Nat.{ℕ}
use lib.IntN.{ℤ, pos, negsuc, nat_abs}
use lib.Signed.{lt_z}
use mir.Syntax.{w64}
use mir.Val.{SFits}
use mir.Facts.{to_z-of_z}
use Rattle.laws.proofs.Got.{i64}
use Rattle.laws.proofs.Linear.{signed}
use Rattle.meaning.specs.Numerals.{minus}
use Rattle.meaning.specs.Render.{decimal}
use Rattle.decimals.proofs.Digits.{negative}

negated : (z : ℤ) (size : ℕ) → lt_z z (pos 0) ≡ true → size ≡ nat_abs z → decimal z ≡ minus ∷ decimal (pos size)
negated (pos n) size t e = absurd (omega (arith, signed, t))
negated (negsuc n) size t e = rw e (negative n)

-- its digits are those of its size, after a minus
pub turned : (z : ℤ) (size : ℕ) → SFits w64 z → lt_z (i64 z) (pos 0) ≡ true → size ≡ nat_abs (i64 z) → decimal z ≡ minus ∷ decimal (pos size)
turned z size f t e = let p : i64 z ≡ z = to_z-of_z f in negated z size (rw p at t) (e ∙ ap nat_abs p)
