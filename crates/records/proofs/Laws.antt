-- Laws of steps as plain numbers: one step more, the first records of a list, and steps written over a list.
use Prim.Native.Nat.{ℕ, zero, suc, ◌+◌, ◌*◌, ◌<◌, ◌≤◌, min}
use native.Mathlib.Omega.{arith}
use native.Mathlib.Numerals.{add-one}
use native.Mathlib.Nat.{le_refl}
use mathlib.Core.Path.{◌≡◌, refl, sym, ap, ◌∙◌}
use mathlib.Core.Bool.{Bool, true, false}
use mathlib.Core.List.{List, [], ◌∷◌, ◌++◌}
use lib.Dec.{leb}
use lib.ListN.{length, get_or, set, take, drop, length-set, length-append, length-take, get_or-append}
use lib.Seq.{get_or-set_same, get_or-set_other, take_all, take-length, take-suc, length-take-le, get_or_at, set_at, append_snoc, drop-cons}
use borrow.Author.Tests.{leb-true, leb-false, le-leb, lt-leb}
use Rattle.laws.proofs.Tests.{by_test}
use Rattle.meaning.specs.declared.Step.{Step}
use Rattle.meaning.specs.Reply.{written_over}
use Rattle.records.specs.declared.Plain.{Plain}
use Rattle.records.specs.Plain.{step_in, steps_to, steps_of, with_numbers, unless_full, with_step, Added, Gathered}

abbrev step : ℕ → ℕ → ℕ → Step
step a b c = record { first = a; last = b; entry = c }

-- steps of equal numbers are equal
same_step : {a b c a' b' c' : ℕ} → a ≡ a' → b ≡ b' → c ≡ c' → step a b c ≡ step a' b' c'
same_step {a} {b} {c} {a'} {b'} {c'} e f g = ap (λ (x : ℕ). step x b c) e ∙ ap (λ (x : ℕ). step a' x c) f ∙ ap (step a' b') g

-- plain numbers that agree on each of the first k steps have the same first k steps
same_steps : (p r : Plain) (k : ℕ) → ((i : ℕ) → i < k → step_in r i ≡ step_in p i) → steps_to r k ≡ steps_to p k
same_steps p r zero same = refl
same_steps p r (suc k) same = ap (λ (l : List Step). l ++ (step_in r k ∷ [])) (same_steps p r k (λ i l. same i (omega (arith, l)))) ∙ ap (λ (s : Step). steps_to p k ++ (s ∷ [])) (same k (le_refl (suc k)))

-- a number that is none of step k's three is as it was
kept : (xs : List ℕ) (k : ℕ) (s : Step) (j : ℕ) → j < k * 3 → get_or (with_numbers xs k s) j 0 ≡ get_or xs j 0
kept xs k s j l =
    get_or-set_other (set (set xs (k * 3) s.first) (k * 3 + 1) s.last) (k * 3 + 2) j s.entry 0 (λ e. omega (arith, e, l))
    ∙ get_or-set_other (set xs (k * 3) s.first) (k * 3 + 1) j s.last 0 (λ e. omega (arith, e, l))
    ∙ get_or-set_other xs (k * 3) j s.first 0 (λ e. omega (arith, e, l))

-- step k of numbers with step k's three
new_step : (xs : List ℕ) (n k : ℕ) (s : Step) → length xs ≡ 99 → k < 33 → step_in (record { count = n; numbers = with_numbers xs k s }) k ≡ s
new_step xs n k s len l = same_step
    (get_or-set_other (set (set xs (k * 3) s.first) (k * 3 + 1) s.last) (k * 3 + 2) (k * 3) s.entry 0 (λ e. omega (arith, e))
    ∙ get_or-set_other (set xs (k * 3) s.first) (k * 3 + 1) (k * 3) s.last 0 (λ e. omega (arith, e))
    ∙ get_or-set_same xs (k * 3) s.first 0 (omega (arith, len, l)))
    (get_or-set_other (set (set xs (k * 3) s.first) (k * 3 + 1) s.last) (k * 3 + 2) (k * 3 + 1) s.entry 0 (λ e. omega (arith, e))
    ∙ get_or-set_same (set xs (k * 3) s.first) (k * 3 + 1) s.last 0 (omega (arith, length-set xs (k * 3) s.first, len, l)))
    (get_or-set_same (set (set xs (k * 3) s.first) (k * 3 + 1) s.last) (k * 3 + 2) s.entry 0
    (omega (arith, length-set (set xs (k * 3) s.first) (k * 3 + 1) s.last, length-set xs (k * 3) s.first, len, l)))

abbrev more : Plain → Step → Plain
more p s = record { count = p.count + 1; numbers = with_numbers p.numbers p.count s }

is_more : (p : Plain) (s : Step) → p.count < 33 → with_step p s ≡ more p s
is_more p s l = ap (λ (t : Bool). unless_full t p s) (lt-leb 33 p.count l)

-- where there is a place for it, it stands after the others
pub added : (p : Plain) (s : Step) → length p.numbers ≡ 99 → p.count < 33 → Added p s (more p s)
added p s len l = record {
  is = sym (is_more p s l);
  steps = λ _.
      ap (steps_to (more p s)) (add-one p.count)
      ∙ ap (λ (t : Step). steps_to (more p s) p.count ++ (t ∷ [])) (new_step p.numbers (p.count + 1) p.count s len l)
      ∙ ap (λ (l : List Step). l ++ (s ∷ [])) (same_steps p (more p s) p.count (λ i below. same_step
      (kept p.numbers p.count s (i * 3) (omega (arith, below)))
      (kept p.numbers p.count s (i * 3 + 1) (omega (arith, below)))
      (kept p.numbers p.count s (i * 3 + 2) (omega (arith, below)))));
}

-- where 33 stand already, nothing changes
pub full : (p : Plain) (s : Step) → 33 ≤ p.count → Added p s p
full p s h = record {
  is = sym (ap (λ (t : Bool). unless_full t p s) (le-leb 33 p.count h));
  steps = λ l. absurd (omega (arith, l, h));
}

-- there are as many steps as are counted
pub count_steps : (p : Plain) (k : ℕ) → length (steps_to p k) ≡ k
count_steps p zero = refl
count_steps p (suc k) = length-append (steps_to p k) (step_in p k ∷ []) ∙ omega (arith, count_steps p k)

-- step i stands at place i
pub step_at : (p : Plain) (n i : ℕ) (d : Step) → i < n → get_or (steps_to p n) i d ≡ step_in p i
step_at p zero i d h = absurd (omega arith)
step_at p (suc n) i d h =
    by_test (leb n i)
    (λ t. let z : i ≡ n = omega (arith, leb-true n i t) in
    ap (λ (j : ℕ). get_or (steps_to p n ++ (step_in p n ∷ [])) j d) z ∙ rw (get_or_at (steps_to p n) (step_in p n) [] d n (count_steps p n)) (ap (step_in p) (sym z)))
    (λ f. let l : i < n = leb-false n i f in get_or-append (steps_to p n) (step_in p n ∷ []) d i (omega (arith, count_steps p n)) ∙ step_at p n i d l)

-- a list's first i records stand in p: one turn of `gather`, and its end
pub gather_more : (ss : List Step) (i : ℕ) (p r : Plain) (d : Step) → i < min (length ss) 33 → steps_of p ≡ take i ss → Added p (get_or ss i d) r → steps_of r ≡ take (i + 1) ss
gather_more ss i p r d l h e =
    e.steps (omega (arith, l, count_steps p p.count, ap length h, length-take-le i ss (omega (arith, l))))
    ∙ ap (λ (xs : List Step). xs ++ (get_or ss i d ∷ [])) h ∙ sym (take-suc ss i d (omega (arith, l))) ∙ ap (λ (k : ℕ). take k ss) (sym (add-one i))

pub gather_all : (ss : List Step) (p : Plain) → steps_of p ≡ take (min (length ss) 33) ss → Gathered p ss
gather_all ss p h = (h ∙ first (leb (length ss) 33) refl, omega (arith, count_steps p p.count, ap length h, length-take (min (length ss) 33) ss))
  where
    first : (t : Bool) → leb (length ss) 33 ≡ t → take (min (length ss) 33) ss ≡ take 33 ss
    first true e =
        let all : min (length ss) 33 ≡ length ss = omega (arith, leb-true (length ss) 33 e) in
        ap (λ (k : ℕ). take k ss) all ∙ take-length ss ∙ sym (take_all 33 ss (leb-true (length ss) 33 e))
    first false e =
        let many : min (length ss) 33 ≡ 33 = omega (arith, leb-false (length ss) 33 e) in
        ap (λ (k : ℕ). take k ss) many

-- a list with the first k steps put in, one after the other
abbrev pub put_from : Plain → ℕ → List Step → List Step
put_from p zero ys = ys
put_from p (suc k) ys = set (put_from p k ys) k (step_in p k)

pub put_length : (p : Plain) (k : ℕ) (ys : List Step) → length (put_from p k ys) ≡ length ys
put_length p zero ys = refl
put_length p (suc k) ys = length-set (put_from p k ys) k (step_in p k) ∙ put_length p k ys

-- they stand at its beginning, and the rest is as it was
put_front : (p : Plain) (k : ℕ) (ys : List Step) → k ≤ length ys → put_from p k ys ≡ steps_to p k ++ drop k ys
put_front p zero ys l = refl
put_front p (suc k) ys l =
    ap (λ (xs : List Step). set xs k (step_in p k)) (put_front p k ys (omega (arith, l)) ∙ ap (λ (rest : List Step). steps_to p k ++ rest) (drop-cons ys k (step_in p k) l))
    ∙ set_at (steps_to p k) (get_or ys k (step_in p k)) (drop (suc k) ys) (step_in p k) k (count_steps p k)
    ∙ sym (append_snoc (steps_to p k) (step_in p k) (drop (suc k) ys))

pub put_over : (p : Plain) (ys : List Step) → p.count ≤ length ys → put_from p p.count ys ≡ written_over (steps_of p) ys
put_over p ys l = put_front p p.count ys l ∙ ap (λ (k : ℕ). steps_of p ++ drop k ys) (sym (count_steps p p.count))
