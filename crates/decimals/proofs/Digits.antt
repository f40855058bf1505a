-- The digits of a number, one at a time from the last: what a loop that divides by 10 needs of `decimal`, and how many there are.
use Prim.Native.Nat.{ℕ, zero, suc, ◌+◌, ◌*◌, ◌/◌, ◌%◌, ◌^◌, ◌≤◌, ◌<◌}
use mathlib.Core.Path.{◌≡◌, refl, ap, ◌∙◌}
use mathlib.Core.List.{List, [], ◌∷◌, ◌++◌}
use native.Mathlib.Nat.{one-le-pow, pow-suc}
use native.Mathlib.Omega.{arith}
use borrow.Author.Tests.{lt-ltb, le-ltb, ltb-true, ltb-false}
use lib.Dec.{ltb}
use lib.IntN.{pos, negsuc}
use lib.ListN.{length, length-append}
use Rattle.laws.proofs.Tests.{by_test}
use Rattle.meaning.specs.Numerals.{minus}
use Rattle.meaning.specs.Render.{digits_before, decimal}

-- one turn of `digits_before`
last : (fuel n : ℕ) (r : List ℕ) → n < 10 → digits_before (suc fuel) n r ≡ (48 + n) ∷ r
last fuel n r h = rw (lt-ltb n 10 h, digits_before)

next : (fuel n : ℕ) (r : List ℕ) → 10 ≤ n → digits_before (suc fuel) n r ≡ digits_before fuel (n / 10) ((48 + n % 10) ∷ r)
next fuel n r h = rw (le-ltb n 10 h, digits_before)

-- digits stand before what follows them, whatever it is
before : (fuel n : ℕ) (r s : List ℕ) → digits_before fuel n (r ++ s) ≡ digits_before fuel n r ++ s
before zero n r s = refl
before (suc fuel) n r s =
    by_test (ltb n 10) (λ t. let h = ltb-true n 10 t in rw (last fuel n r h, last fuel n (r ++ s) h))
    (λ f. let h = ltb-false n 10 f in rw (next fuel n r h, next fuel n (r ++ s) h) (before fuel (n / 10) ((48 + n % 10) ∷ r) s))

-- fuel above n is enough: more makes no difference
enough : (fuel more n : ℕ) (r : List ℕ) → n < fuel → n < more → digits_before fuel n r ≡ digits_before more n r
enough zero more n r h k = absurd (omega arith)
enough (suc fuel) zero n r h k = absurd (omega arith)
enough (suc fuel) (suc more) n r h k =
    by_test (ltb n 10) (λ t. let l = ltb-true n 10 t in rw (last fuel n r l, last more n r l))
    (λ f. let l = ltb-false n 10 f in
    rw (next fuel n r l, next more n r l) (enough fuel more (n / 10) ((48 + n % 10) ∷ r) (omega arith) (omega arith)))

-- a number below 10 is one digit
pub digit : (n : ℕ) → n < 10 → decimal (pos n) ≡ (48 + n) ∷ []
unfolding decimal
digit n h = last n n [] h

-- another ends in its last digit, after the digits of its tenth
pub digits : (n : ℕ) → 10 ≤ n → decimal (pos n) ≡ decimal (pos (n / 10)) ++ ((48 + n % 10) ∷ [])
unfolding decimal
digits n h =
    next n n [] h
    ∙ before n (n / 10) [] ((48 + n % 10) ∷ [])
    ∙ ap (λ (l : List ℕ). l ++ ((48 + n % 10) ∷ [])) (enough n (suc (n / 10)) (n / 10) [] (omega arith) (omega arith))

-- one digit more than its tenth
pub more_digits_lem : (n : ℕ) → 10 ≤ n → length (decimal (pos n)) ≡ length (decimal (pos (n / 10))) + 1
more_digits_lem n h = ap length (digits n h) ∙ length-append (decimal (pos (n / 10))) ((48 + n % 10) ∷ [])

-- a minus, then the digits of its size
pub negative : (n : ℕ) → decimal (negsuc n) ≡ minus ∷ decimal (pos (suc n))
unfolding decimal
negative n = refl

-- a number below 10 to the k, with k at least 1, has at most k digits
pub at_most : (k n : ℕ) → n < 10 ^ suc k → length (decimal (pos n)) ≤ suc k
at_most zero n h = rw (digit n (omega arith)) (omega arith)
at_most (suc k) n h =
    by_test (ltb n 10) (λ t. rw (digit n (ltb-true n 10 t)) (omega arith))
    (λ f. omega (arith, more_digits_lem n (ltb-false n 10 f), at_most k (n / 10) (omega arith)))

pub at_least_one : (n : ℕ) → 1 ≤ length (decimal (pos n))
at_least_one n =
    by_test (ltb n 10) (λ t. rw (digit n (ltb-true n 10 t)) (omega arith)) (λ f. omega (arith, more_digits_lem n (ltb-false n 10 f)))

-- and at least one more than the power of ten that it has in it
pub at_least : (k n : ℕ) → 10 ^ k ≤ n → suc k ≤ length (decimal (pos n))
at_least zero n h = at_least_one n
at_least (suc k) n h =
    let tenfold : 10 ^ suc k ≡ 10 ^ k * 10 = pow-suc 10 k in
    let some : 1 ≤ 10 ^ k = one-le-pow k 10 (omega arith) in
    let l : 10 ≤ n = omega arith in
    omega (arith, more_digits_lem n l, at_least k (n / 10) (omega arith))
