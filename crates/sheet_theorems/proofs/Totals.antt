-- Numbers of a list's elements, added up.
use Prim.Native.Nat.{ℕ, zero, suc, ◌+◌, ◌*◌, ◌≤◌, ◌<◌}
use native.Mathlib.Nat.{mul-suc}
use native.Mathlib.Omega.{arith}
use mathlib.Core.Path.{◌≡◌, refl}
use mathlib.Core.List.{List, [], ◌∷◌, map, Memᴰ}
use borrow.Author.Tests.{eqb-true, eqb-false, ne_eqb, ltb-false}
use lib.Dec.{eqb, ltb}
use lib.IntN.{pos}
use lib.ListN.{length}
use Rattle.laws.specs.Bits.{one}
use Rattle.laws.specs.Lists.{keep, numbers_from, sumℤ}
use Rattle.laws.proofs.Tests.{by_test}

-- f of each, added up
abbrev pub total : {A : Type 0} → (A → ℕ) → List A → ℕ
total f [] = 0
total f (x ∷ xs) = f x + total f xs

pub total_is : {A : Type 0} (f : A → ℕ) (xs : List A) → sumℤ (map (λ x. pos (f x)) xs) ≡ pos (total f xs)
total_is f [] = refl
total_is f (x ∷ xs) = rw (total_is f xs)

pub total_two : (f g h : ℕ → ℕ) (xs : List ℕ) → ((x : ℕ) → f x ≡ g x + h x) → total f xs ≡ total g xs + total h xs
total_two f g h [] e = refl
total_two f g h (x ∷ xs) e = omega (arith, e x, total_two f g h xs e)

-- those that are 0 may be left out
pub total_keep : (f : ℕ → ℕ) (xs : List ℕ) → total f (keep (λ x. ltb 0 (f x)) xs) ≡ total f xs
total_keep f [] = refl
total_keep f (x ∷ xs) =
    let r = total_keep f xs in by_test (ltb 0 (f x)) (λ t. rw t (omega (arith, r))) (λ b. let z = ltb-false 0 (f x) b in rw b (omega (arith, r)))

-- one number, once among numbers
one_none : (a from many : ℕ) → a < from → total (λ x. one (eqb a x)) (numbers_from from many) ≡ 0
one_none a from zero l = refl
one_none a from (suc many) l = let r = one_none a (suc from) many (omega arith) in rw (ne_eqb a from (omega arith)) (omega (arith, r))

pub one_once : (a from many : ℕ) → from ≤ a → a < from + many → total (λ x. one (eqb a x)) (numbers_from from many) ≡ 1
one_once a from zero l h = absurd (omega arith)
one_once a from (suc many) l h =
    by_test (eqb a from) (λ t. let e = eqb-true a from t in let r = one_none a (suc from) many (omega arith) in rw t (omega (arith, r)))
    (λ f. let e = eqb-false a from f in let r = one_once a (suc from) many (omega arith) (omega arith) in rw f (omega (arith, r)))

-- each at most `most`
pub total_most : {A : Type 0} (f : A → ℕ) (most : ℕ) (xs : List A) → ((x : A) → Memᴰ x xs → f x ≤ most) → total f xs ≤ most * length xs
total_most f most [] h = omega arith
total_most f most (x ∷ xs) h = omega (arith, mul-suc most (length xs), h x (Memᴰ.head refl), total_most f most xs (λ y m. h y (Memᴰ.tail m)))

-- each at least 1
pub total_least : {A : Type 0} (f : A → ℕ) (xs : List A) → ((x : A) → Memᴰ x xs → 1 ≤ f x) → length xs ≤ total f xs
total_least f [] h = omega arith
total_least f (x ∷ xs) h = omega (arith, h x (Memᴰ.head refl), total_least f xs (λ y m. h y (Memᴰ.tail m)))

-- numbers, and those behind them
pub total_numbers : (f : ℕ → ℕ) (from a b : ℕ) → total f (numbers_from from (a + b)) ≡ total f (numbers_from from a) + total f (numbers_from (from + a) b)
total_numbers f from zero b = let z : 0 + b ≡ b = omega arith in let y : from + 0 ≡ from = omega arith in rw (z, y) (omega arith)
total_numbers f from (suc a) b =
    let z : suc a + b ≡ suc (a + b) = omega arith in let y : from + suc a ≡ suc from + a = omega arith in
    let r = total_numbers f (suc from) a b in rw (z, y) (omega (arith, r))
