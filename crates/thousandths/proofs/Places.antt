-- Digits by their places: their number is the first ones' times a power of 10, and the others' beside it.
use Rattle.std.specs.List.{fold}
use Prim.Native.Nat.{ℕ, zero, suc, min, ◌+◌, ◌*◌, ◌-◌, ◌≤◌, ◌<◌, ◌^◌}
use mathlib.Core.Path.{◌≡◌, refl, ap}
use mathlib.Core.Bool.{true}
use mathlib.Core.List.{List, [], ◌∷◌, ◌++◌}
use native.Mathlib.Omega.{arith}
use native.Mathlib.Nat.{pow-succ', add-mul, mul_assoc, mul-le-mul_right}
use lib.ListN.{length, get_or, get_or-eq_default}
use Rattle.laws.specs.Lists.{all}
use Rattle.laws.proofs.Tests.{both, between}
use Rattle.meaning.specs.Numerals.{is_digit, digits_value}
use Rattle.thousandths.specs.Digits.{digit_at, CountIs}

pub digits_++ : (v : ℕ) (xs ys : List ℕ) → digits_value v (xs ++ ys) ≡ digits_value (digits_value v xs) ys
digits_++ v [] ys = refl
digits_++ v (x ∷ xs) ys = digits_++ (v * 10 + (x - 48)) xs ys

pub digits_from : (v : ℕ) (ds : List ℕ) → digits_value v ds ≡ v * 10 ^ length ds + digits_value 0 ds
digits_from v [] = omega arith
digits_from v (d ∷ ds) =
    let e = d - 48 in
    let p = 10 ^ length ds in
    let q : v * 10 ^ suc (length ds) ≡ v * (10 * p) = ap (λ (n : ℕ). v * n) (pow-succ' 10 (length ds)) in
    omega (arith, digits_from (v * 10 + e) ds, digits_from (0 * 10 + e) ds, q, mul_assoc v 10 p, add-mul (v * 10) e p, add-mul (0 * 10) e p)

pub digits_below : (ds : List ℕ) → all is_digit ds ≡ true → digits_value 0 ds < 10 ^ length ds
digits_below [] h = omega arith
digits_below (d ∷ ds) h =
    let b = both (is_digit d) (all is_digit ds) h in
    let e = d - 48 in
    let p = 10 ^ length ds in
    let s : 0 * 10 + e ≤ 9 = omega (arith, between 48 57 d b.0) in
    omega (arith, digits_from (0 * 10 + e) ds, digits_below ds b.1, mul-le-mul_right p s, pow-succ' 10 (length ds))

pub digit_small : (f : List ℕ) (k : ℕ) → all is_digit f ≡ true → digit_at f k ≤ 9
digit_small [] k h = omega arith
digit_small (d ∷ f) zero h = omega (arith, between 48 57 d (both (is_digit d) (all is_digit f) h).0)
digit_small (d ∷ f) (suc k) h = digit_small f k (both (is_digit d) (all is_digit f) h).1

-- a digit that is there, and one that is not
pub digit_there : (f : List ℕ) (k : ℕ) → k < length f → digit_at f k ≡ get_or f k 0 - 48
digit_there [] k h = absurd (omega arith)
digit_there (d ∷ f) zero h = refl
digit_there (d ∷ f) (suc k) h = digit_there f k (omega arith)

pub digit_none : (f : List ℕ) (k : ℕ) → length f ≤ k → digit_at f k ≡ 0
digit_none f k h = rw (get_or-eq_default f 48 h)

-- ════ counts

-- a digit more behind those that count r
abbrev pub with_digit : ℕ → ℕ → ℕ
with_digit r b = min (min (r * 10) 18_446_744_073_709_551_615 + (b - 48)) 18_446_744_073_709_551_615

-- one that no longer fits stays so, whatever digits follow
pub count_all : (ds : List ℕ) (m r : ℕ) → CountIs m r → CountIs (digits_value m ds) (fold with_digit r ds)
count_all [] m r e = e
count_all (d ∷ ds) m r e = count_all ds (m * 10 + (d - 48)) (with_digit r d) (omega arith)
