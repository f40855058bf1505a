-- Numbers read three at a time as steps: the first steps are those of the first numbers.
use Prim.Native.Nat.{ℕ, zero, suc, ◌+◌, ◌*◌, ◌/◌, ◌≤◌, ◌<◌, min}
use native.Mathlib.Omega.{arith}
use mathlib.Core.Path.{◌≡◌, refl, sym, ◌∙◌, ap}
use mathlib.Core.List.{List, [], ◌∷◌, ◌++◌}
use lib.ListN.{length, get_or, take, drop, length-append}
use lib.Seq.{length-take-le, take_at}
use Rattle.meaning.specs.Reply.{written_over}
use Rattle.meaning.specs.declared.Step.{Step}
use Rattle.records.specs.declared.Plain.{Plain}
use Rattle.records.specs.Plain.{step_in, steps_to, steps_of}
use Rattle.lists.specs.Steps.{records_in, numbers_of}

abbrev step_at : List ℕ → ℕ → Step
step_at numbers i = record { first = get_or numbers (i * 3) 0; last = get_or numbers (i * 3 + 1) 0; entry = get_or numbers (i * 3 + 2) 0 }

-- ════ how many there are

pub many : (numbers : List ℕ) → (3 * length (records_in numbers) ≤ length numbers) × (length numbers < 3 * length (records_in numbers) + 3)
many [] = (omega arith, omega arith)
many (a ∷ []) = (omega arith, omega arith)
many (a ∷ b ∷ []) = (omega arith, omega arith)
many (a ∷ b ∷ c ∷ numbers) = let h = many numbers in (omega (arith, h.0), omega (arith, h.1))

-- ════ the first k of them

-- a step's numbers, behind another step's three
step_next : (a b c : ℕ) (numbers : List ℕ) (k : ℕ) → step_at (a ∷ b ∷ c ∷ numbers) (suc k) ≡ step_at numbers k
step_next a b c numbers k =
    let e : suc k * 3 ≡ suc (suc (suc (k * 3))) = omega arith in
    let e1 : suc (suc (suc (k * 3))) + 1 ≡ suc (suc (suc (k * 3 + 1))) = omega arith in
    let e2 : suc (suc (suc (k * 3))) + 2 ≡ suc (suc (suc (k * 3 + 2))) = omega arith in
    rw (e, e1, e2)

pub one_more : (k : ℕ) (numbers : List ℕ) → suc k * 3 ≤ length numbers → take k (records_in numbers) ++ (step_at numbers k ∷ []) ≡ take (suc k) (records_in numbers)
one_more k [] h = absurd (omega arith)
one_more k (a ∷ []) h = absurd (omega arith)
one_more k (a ∷ b ∷ []) h = absurd (omega arith)
one_more zero (a ∷ b ∷ c ∷ numbers) h = refl
one_more (suc k) (a ∷ b ∷ c ∷ numbers) h =
    ap (λ (x : Step). record { first = a; last = b; entry = c } ∷ take k (records_in numbers) ++ (x ∷ [])) (step_next a b c numbers k)
    ∙ ap (λ (l : List Step). record { first = a; last = b; entry = c } ∷ l) (one_more k numbers (omega arith))

pub first_steps : (p : Plain) (k : ℕ) → k * 3 ≤ length p.numbers → steps_to p k ≡ take k (records_in p.numbers)
first_steps p zero h = refl
first_steps p (suc k) h = ap (λ (l : List Step). l ++ (step_in p k ∷ [])) (first_steps p k (omega arith)) ∙ one_more k p.numbers h

-- what three numbers more make of the numbers behind them
take_three : (k : ℕ) → ((l : List ℕ) → records_in (take (k * 3) l) ≡ take k (records_in l)) → (l : List ℕ) → records_in (take (suc (suc (suc (k * 3)))) l) ≡ take (suc k) (records_in l)
take_three k f [] = refl
take_three k f (a ∷ []) = refl
take_three k f (a ∷ b ∷ []) = refl
take_three k f (a ∷ b ∷ c ∷ l) = ap (λ (xs : List Step). record { first = a; last = b; entry = c } ∷ xs) (f l)

pub take_steps : (k : ℕ) (numbers : List ℕ) → records_in (take (k * 3) numbers) ≡ take k (records_in numbers)
take_steps zero numbers = refl
take_steps (suc k) numbers = let e : suc k * 3 ≡ suc (suc (suc (k * 3))) = omega arith in rw e (take_three k (λ l. take_steps k l) numbers)

-- the numbers of the steps that whole threes are
numbers_back : (k : ℕ) (numbers : List ℕ) → length numbers ≡ k * 3 → numbers_of (records_in numbers) ≡ numbers
numbers_back zero [] h = refl
numbers_back zero (a ∷ numbers) h = absurd (omega arith)
numbers_back (suc k) [] h = absurd (omega arith)
numbers_back (suc k) (a ∷ []) h = absurd (omega arith)
numbers_back (suc k) (a ∷ b ∷ []) h = absurd (omega arith)
numbers_back (suc k) (a ∷ b ∷ c ∷ numbers) h = ap (λ (l : List ℕ). a ∷ b ∷ c ∷ l) (numbers_back k numbers (omega arith))

-- ════ gathered, and put

pub how_many : (numbers : List ℕ) → length (records_in numbers) ≡ length numbers / 3
how_many numbers = let h = many numbers in omega (arith, h.0, h.1)

take_least : (m : ℕ) (steps : List Step) → take (min (length steps) m) steps ≡ take m steps
take_least zero steps = let z : min (length steps) 0 ≡ 0 = omega arith in rw z
take_least (suc m) [] = let z : min 0 (suc m) ≡ 0 = omega arith in rw z
take_least (suc m) (x ∷ steps) = let z : min (suc (length steps)) (suc m) ≡ suc (min (length steps) m) = omega arith in rw z (ap (λ (l : List Step). x ∷ l) (take_least m steps))

-- the first `count` steps stand in the numbers copied; there is no other within the first 33
pub gathered : (steps numbers rest : List ℕ) (count j : ℕ) → count ≡ min (length steps / 3) 33 → j ≡ count * 3
    → numbers ≡ take j steps ++ rest → steps_of (record { count = count; numbers = numbers }) ≡ take 33 (records_in steps)
gathered steps numbers rest count j c e n =
    first_steps (record { count = count; numbers = numbers }) count long
    ∙ sym (take_steps count numbers)
    ∙ ap records_in (ap (take (count * 3)) n ∙ front)
    ∙ take_steps count steps
    ∙ ap (λ (k : ℕ). take k (records_in steps)) (c ∙ ap (λ (k : ℕ). min k 33) (sym (how_many steps)))
    ∙ take_least 33 (records_in steps)
  where
    long : count * 3 ≤ length numbers
    long =
        let a : length numbers ≡ length (take j steps) + length rest = ap length n ∙ length-append (take j steps) rest in
        let b = length-take-le j steps (omega arith) in
        omega arith

    front : take (count * 3) (take j steps ++ rest) ≡ take (count * 3) steps
    front = take_at (take j steps) rest (count * 3) (length-take-le j steps (omega arith) ∙ e) ∙ ap (λ (k : ℕ). take k steps) e

-- the numbers of `count` steps, copied over a caller's numbers
pub put_steps : (p : Plain) (steps₀ steps₁ : List ℕ) (j : ℕ) → j ≡ p.count * 3 → p.count * 3 ≤ length p.numbers
    → steps₁ ≡ take j p.numbers ++ drop j steps₀ → steps₁ ≡ written_over (numbers_of (steps_of p)) steps₀
put_steps p steps₀ steps₁ j e n is = is ∙ rw (sym front) (ap (λ (k : ℕ). take j p.numbers ++ drop k steps₀) (sym front_long))
  where
    front_long : length (take j p.numbers) ≡ j
    front_long = length-take-le j p.numbers (omega arith)

    front : take j p.numbers ≡ numbers_of (steps_of p)
    front =
        sym (numbers_back p.count (take j p.numbers) (front_long ∙ e))
        ∙ ap (λ (k : ℕ). numbers_of (records_in (take k p.numbers))) e
        ∙ ap numbers_of (take_steps p.count p.numbers ∙ sym (first_steps p p.count n))
