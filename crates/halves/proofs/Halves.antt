-- What is put as two halves is read back, and another number's halves are not touched.
use Prim.Native.Nat.{ℕ, ◌+◌, ◌/◌, ◌%◌, ◌≤◌, ◌<◌}
use mathlib.Core.Path.{◌≡◌, ap, ◌∙◌}
use mathlib.Core.List.{List, [], ◌∷◌}
use native.Mathlib.Omega.{arith}
use lib.IntN.{ℤ, pos, ◌+ℤ◌, ◌-ℤ◌}
use lib.ListN.{length, get_or}
use Rattle.laws.specs.Integers.{Within}
use Rattle.laws.specs.Lists.{set_from}
use Rattle.laws.proofs.Linear.{signed, num, sum, dif}
use Rattle.laws.proofs.Fields.{from_far, from_first, from_near}
use Rattle.halves.specs.Halves.{half_span, halves_of, whole_at, sign_shift, shifted, signed_at}

-- two lists that have the same halves
pub whole_same : (xs ys : List ℕ) (at : ℕ) → get_or ys at 0 ≡ get_or xs at 0 → get_or ys (at + 1) 0 ≡ get_or xs (at + 1) 0 → whole_at ys at ≡ whole_at xs at
unfolding whole_at
whole_same xs ys at e f = rw (e, f)

-- a list that has the halves of a number
pub whole_is : (xs : List ℕ) (at n : ℕ) → get_or xs at 0 ≡ n % half_span → get_or xs (at + 1) 0 ≡ n / half_span → whole_at xs at ≡ n
unfolding whole_at
whole_is xs at n e f = rw (e, f) (omega arith)

-- the same of a signed number
pub signed_same : (xs ys : List ℕ) (at : ℕ) → get_or ys at 0 ≡ get_or xs at 0 → get_or ys (at + 1) 0 ≡ get_or xs (at + 1) 0 → signed_at ys at ≡ signed_at xs at
unfolding signed_at
signed_same xs ys at e f = ap (λ (n : ℕ). pos n -ℤ pos sign_shift) (whole_same xs ys at e f)

pub signed_is : (xs : List ℕ) (at : ℕ) (z : ℤ) → Within sign_shift z → get_or xs at 0 ≡ shifted z % half_span → get_or xs (at + 1) 0 ≡ shifted z / half_span → signed_at xs at ≡ z
unfolding signed_at
signed_is xs at z w e f =
    ap (λ (n : ℕ). pos n -ℤ pos sign_shift) (whole_is xs at (shifted z) e f)
    ∙ omega (arith, signed, w.high, w.low, num z, num (z +ℤ pos sign_shift), sum z (pos sign_shift), dif (pos (shifted z)) (pos sign_shift))

module _ (xs : List ℕ) (at n : ℕ) where
  pub put_here : at + 1 < length xs → whole_at (set_from xs at (halves_of n)) at ≡ n
  put_here h =
      whole_is (set_from xs at (halves_of n)) at n
      (from_first (n % half_span) (n / half_span ∷ []) xs at 0 (omega arith))
      (from_near (n % half_span) (n / half_span ∷ []) xs at 0 0 (omega arith) (omega arith))

  -- a number elsewhere
  pub put_other : (p : ℕ) → (at ≤ p → at + 2 ≤ p) → get_or (set_from xs at (halves_of n)) p 0 ≡ get_or xs p 0
  put_other p h = from_far (halves_of n) xs at p 0 h
