-- The nearest thousandths, by the digits: the whole digits, and the first three behind the point, rounded by the fourth; those behind it are too small to
-- matter.
use Prim.Native.Nat.{ℕ, suc, ◌+◌, ◌*◌, ◌-◌, ◌/◌, ◌≤◌, ◌<◌, ◌^◌}
use mathlib.Core.Path.{◌≡◌, refl, sym, ap, ◌∙◌}
use mathlib.Core.Bool.{true}
use mathlib.Core.List.{List, [], ◌∷◌, ◌++◌}
use native.Mathlib.Omega.{arith}
use native.Mathlib.Nat.{pow-succ', one-le-pow, add-mul, mul_assoc, mul_left_comm, mul-add-div_right, div-div-eq-div-mul, div-lt_iff_lt-mul}
use lib.ListN.{length}
use Rattle.laws.specs.Lists.{all}
use Rattle.laws.proofs.Tests.{both}
use Rattle.meaning.specs.Numerals.{is_digit, digits_value}
use Rattle.arpa.specs.Values.{nearest}
use Rattle.thousandths.specs.Digits.{digit_at}
use Rattle.thousandths.proofs.Places.{digits_++, digits_from, digits_below, digit_small}

-- ════ over any power p of 10

whole_apart : (w p f : ℕ) → 0 < p → (2000 * (w * p + f) + p) / (2 * p) ≡ w * 1000 + (2000 * f + p) / (2 * p)
whole_apart w p f h =
    let e : w * 1000 * (2 * p) ≡ 2000 * (w * p) = mul_assoc w 1000 (2 * p) ∙ ap (λ (n : ℕ). w * n) twice ∙ mul_left_comm w 2000 p in
    let s : 2000 * (w * p + f) + p ≡ w * 1000 * (2 * p) + (2000 * f + p) = omega arith in
    ap (λ (n : ℕ). n / (2 * p)) s ∙ mul-add-div_right (omega arith) (w * 1000) (2000 * f + p)
  where
    twice : 1000 * (2 * p) ≡ 2000 * p
    twice = omega arith

-- a is four digits' number, and f is below the last of them
rest_apart : (a p f : ℕ) → f < p → (2000 * (a * p + f) + 10000 * p) / (2 * (10000 * p)) ≡ (a + 5) / 10
rest_apart a p f h =
    let e : (2000 * a + 10000) * p ≡ 2000 * a * p + 10000 * p = add-mul (2000 * a) 10000 p in
    let s : 2000 * (a * p + f) + 10000 * p ≡ (2000 * a + 10000) * p + 2000 * f = omega (arith, mul_assoc 2000 a p) in
    let d : 2 * (10000 * p) ≡ p * 20000 = omega arith in
    let q : ((2000 * a + 10000) * p + 2000 * f) / p ≡ 2000 * a + 10000 + 2000 * f / p = mul-add-div_right (omega arith) (2000 * a + 10000) (2000 * f) in
    let l : 2000 * f / p < 2000 = (div-lt_iff_lt-mul {k = p} {x = 2000 * f} {y = 2000} (omega arith)).1 (omega arith) in
    rw (s, d) (sym (div-div-eq-div-mul ((2000 * a + 10000) * p + 2000 * f) p 20000) ∙ rw q (omega arith))

-- ════ of digits

pub nearest_whole : (whole fraction : List ℕ) → nearest (digits_value 0 (whole ++ fraction)) (length fraction) ≡ digits_value 0 whole * 1000 + nearest (digits_value 0 fraction) (length fraction)
unfolding nearest
nearest_whole whole fraction =
    let p = 10 ^ length fraction in
    rw (digits_++ 0 whole fraction, digits_from (digits_value 0 whole) fraction)
    (whole_apart (digits_value 0 whole) p (digits_value 0 fraction) (one-le-pow (length fraction) 10 (omega arith)))

pub nearest_none : (n : ℕ) → nearest n 0 ≡ n * 1000
unfolding nearest
nearest_none n = omega arith

pub nearest_fraction : (f : List ℕ) → all is_digit f ≡ true
    → nearest (digits_value 0 f) (length f) ≡ ((digit_at f 0 * 100 + digit_at f 1 * 10 + digit_at f 2) * 10 + digit_at f 3 + 5) / 10
unfolding nearest
nearest_fraction [] h = refl
nearest_fraction (a ∷ []) h = omega arith
nearest_fraction (a ∷ b ∷ []) h = omega arith
nearest_fraction (a ∷ b ∷ c ∷ []) h = omega arith
nearest_fraction (a ∷ b ∷ c ∷ d ∷ rest) h =
    let v = (((0 * 10 + (a - 48)) * 10 + (b - 48)) * 10 + (c - 48)) * 10 + (d - 48) in
    let n = length rest in
    let q : 10 ^ suc (suc (suc (suc n))) ≡ 10000 * 10 ^ n = omega (arith, pow-succ' 10 n, pow-succ' 10 (suc n), pow-succ' 10 (suc (suc n)), pow-succ' 10 (suc (suc (suc n)))) in
    rw (digits_from v rest, q)
    (rest_apart v (10 ^ n) (digits_value 0 rest) (digits_below rest behind) ∙ ap (λ (m : ℕ). m / 10) (omega arith))
  where
    behind : all is_digit rest ≡ true
    behind = (both (is_digit d) (all is_digit rest) (both (is_digit c) (all is_digit (d ∷ rest)) (both (is_digit b) (all is_digit (c ∷ d ∷ rest)) (both (is_digit a) (all is_digit (b ∷ c ∷ d ∷ rest)) h).1).1).1).1

pub nearest_small : (f : List ℕ) → all is_digit f ≡ true → nearest (digits_value 0 f) (length f) ≤ 1000
nearest_small f h = omega (arith, nearest_fraction f h, digit_small f 0 h, digit_small f 1 h, digit_small f 2 h, digit_small f 3 h)
