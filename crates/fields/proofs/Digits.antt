-- The automaton's test of digits by their value is notes' test by their number: a digit may follow digits that make v exactly
-- where 1 ≤ v ≤ 999,999, and so a number has no needless leading zero and at most seven digits.
use mathlib.Core.Path.{◌≡◌, refl, sym, ap, ◌∙◌}
use mathlib.Core.Bool.{Bool, true, false, not, cond, ◌&&◌, and-false}
use mathlib.Core.List.{List, [], ◌∷◌}
use Prim.Native.Nat.{ℕ, suc, ◌+◌, ◌*◌, ◌-◌, ◌≤◌, ◌<◌, ◌^◌}
use native.Mathlib.Omega.{arith}
use native.Mathlib.Nat.{one-le-pow, pow-le-pow_right, pow-succ'}
use borrow.Author.Tests.{eqb-true, eqb-false, leb-true, leb-false, le-leb, lt-leb}
use lib.Dec.{leb, eqb}
use lib.ListN.{length}
use Rattle.laws.specs.Lists.{all, is_empty}
use Rattle.laws.proofs.Tests.{between}
use Rattle.meaning.specs.Numerals.{is_digit, is_positive, is_natural}
use Rattle.fields.specs.Scan.{more_digits}

-- what may follow digits that make v
abbrev pub tail : ℕ → List ℕ → Bool
tail v [] = true
tail v (d ∷ ds) = (is_digit d && more_digits v) && tail (v * 10 + (d - 48)) ds

-- nothing follows a 0
tail_zero : (ds : List ℕ) → tail 0 ds ≡ is_empty ds
tail_zero [] = refl
tail_zero (d ∷ ds) = rw and-false

-- a number v of k + 1 digits may have 6 - k digits more
tail_is : (ds : List ℕ) (k v : ℕ) → k ≤ 6 → 10 ^ k ≤ v → v < 10 ^ suc k → tail v ds ≡ all is_digit ds && leb (length ds + k) 6
tail_is [] k v h lo hi = sym (le-leb (0 + k) 6 (omega arith))
tail_is (d ∷ ds) k v h lo hi = digit (is_digit d) refl (leb (suc k) 6) refl (tail_is ds (suc k) (v * 10 + (d - 48)))
  where
    one : 1 ≤ 10 ^ k
    one = one-le-pow k 10 (omega arith)

    more : length ds + suc k ≡ suc (length ds) + k
    more = omega arith

    digit : (x : Bool) → is_digit d ≡ x → (y : Bool) → leb (suc k) 6 ≡ y
        → (suc k ≤ 6 → 10 ^ suc k ≤ v * 10 + (d - 48) → v * 10 + (d - 48) < 10 ^ suc (suc k) → tail (v * 10 + (d - 48)) ds ≡ all is_digit ds && leb (length ds + suc k) 6)
        → (is_digit d && more_digits v) && tail (v * 10 + (d - 48)) ds ≡ (is_digit d && all is_digit ds) && leb (suc (length ds) + k) 6
    digit false e y f ih = rw e
    digit true e true f ih =
        let room : suc k ≤ 6 = leb-true (suc k) 6 f in
        let top : 10 ^ suc k ≤ 10 ^ 6 = pow-le-pow_right (omega arith) room in
        rw (e, le-leb 1 v (omega (arith, one)), le-leb v 999999 (omega arith))
        (ih room (omega (arith, pow-succ' 10 k)) (omega (arith, between 48 57 d e, pow-succ' 10 (suc k))) ∙ ap (λ (n : ℕ). all is_digit ds && leb n 6) more)
    digit true e false f ih =
        let full : 6 ≤ k = omega (arith, leb-false (suc k) 6 f) in
        let top : 10 ^ 6 ≤ 10 ^ k = pow-le-pow_right (omega arith) full in
        rw (e, lt-leb v 999999 (omega arith), lt-leb (suc (length ds) + k) 6 (omega arith), and-false (leb 1 v), and-false (all is_digit ds)) refl

module _ (b : ℕ) (ds : List ℕ) where
  pub positive : is_positive (b ∷ ds) ≡ (not (eqb b 48) && is_digit b) && tail (b - 48) ds
  unfolding is_positive
  positive = by (eqb b 48) refl (is_digit b) refl
    where
      by : (x : Bool) → eqb b 48 ≡ x → (y : Bool) → is_digit b ≡ y → is_positive (b ∷ ds) ≡ (not (eqb b 48) && is_digit b) && tail (b - 48) ds
      by true e y f = rw e
      by false e false f = rw (e, f)
      by false e true f =
          let h = between 48 57 b f in
          let n : 49 ≤ b = omega (arith, eqb-false b 48 e) in
          let z : length ds + 0 ≡ length ds = omega arith in
          rw (e, f) (sym (tail_is ds 0 (b - 48) (omega arith) (omega arith) (omega arith) ∙ ap (λ (n : ℕ). all is_digit ds && leb n 6) z))

  pub natural : is_natural (b ∷ ds) ≡ is_digit b && tail (b - 48) ds
  unfolding is_natural is_positive
  natural = by (eqb b 48) refl
    where
      by : (x : Bool) → eqb b 48 ≡ x → is_natural (b ∷ ds) ≡ is_digit b && tail (b - 48) ds
      by true e = rw (eqb-true b 48 e) (sym (tail_zero ds))
      by false e = ap (λ (x : Bool). cond x (is_empty ds) (is_positive (b ∷ ds))) e ∙ positive ∙ ap (λ (x : Bool). (not x && is_digit b) && tail (b - 48) ds) e
