-- One turn of each loop, and what a run says of a step.
use Prim.Native.Nat.{ℕ, zero, suc, ◌+◌, ◌-◌, ◌/◌, ◌%◌, ◌*◌, ◌^◌, ◌≤◌, ◌<◌}
use native.Mathlib.Nat.{pow-suc}
use native.Mathlib.Omega.{arith}
use native.Mathlib.Decide.{ℕ_discrete}
use mathlib.Core.Path.{◌≡◌, refl, sym, ◌∙◌, ap}
use mathlib.Core.Bool.{Bool, true, false, not, ◌&&◌, ◌||◌}
use mathlib.Core.List.{List, [], ◌∷◌}
use borrow.Author.Tests.{le-leb, lt-leb, leb-true, leb-false, eqb-true, eqb-false}
use lib.Dec.{eqb, leb, leb-suc-suc}
use lib.ListN.{length, get_or, set, drop, drop_of_length-le, length-drop}
use lib.Seq.{get_or-set_same, get_or-set_other, drop-nil}
use Rattle.laws.specs.Bits.{bits_of, one, of_bits, ones, apart, joined}
use Rattle.laws.proofs.Tests.{by_test, both, both_of, is_false}
use Rattle.laws.proofs.Bits.{bits_length, bits_next, bit_of, bits_of_of_bits, of_bits_lt, add_lt, add_bits, ones_joined}
use Rattle.laws.proofs.Lists.{drop_next}
use Rattle.meaning.specs.Derivation.{covers}
use Rattle.meaning.specs.State.{is_free, cover}
use Rattle.meaning.specs.declared.Step.{Step}
use Rattle.positions.specs.Runs.{free_run, run_here, Unpacked, RunsFrom, mask_of}

-- ════ the digits

module _ (digits : List ℕ) (n c i rest : ℕ) (h : i < n) (room : i < length digits) (u : Unpacked digits n c i)
    (left : bits_of (n - i) rest ≡ drop i (bits_of n c)) where
  next : eqb (rest % 2) 1 ∷ bits_of (n - (i + 1)) (rest / 2) ≡ get_or (bits_of n c) i false ∷ drop (i + 1) (bits_of n c)
  next = sym (bits_next n i rest h) ∙ left ∙ drop_next (bits_of n c) i false (let l : length (bits_of n c) ≡ n = bits_length n c in omega arith)

  pub left_more : bits_of (n - (i + 1)) (rest / 2) ≡ drop (i + 1) (bits_of n c)
  left_more = let e = next in cc

  pub unpack_more : Unpacked (set digits i (rest % 2)) n c (i + 1)
  unpack_more = record { digit_at = λ j k. at j k (ℕ_discrete j i) }
    where
      here : rest % 2 ≡ one (get_or (bits_of n c) i false)
      here = let e = next in let b : eqb (rest % 2) 1 ≡ get_or (bits_of n c) i false = cc in sym (bit_of rest) ∙ ap one b

      at : (j : ℕ) → j < i + 1 → Dec (j ≡ i) → get_or (set digits i (rest % 2)) j 0 ≡ one (get_or (bits_of n c) j false)
      at j k (yes e) = rw e (get_or-set_same digits i (rest % 2) 0 room ∙ here)
      at j k (no e) = get_or-set_other digits i j (rest % 2) 0 e ∙ u.digit_at j (omega arith)

-- ════ the runs

pub run_length : (bits : List Bool) → free_run bits ≤ length bits
unfolding free_run
run_length [] = omega arith
run_length (true ∷ bits) = omega arith
run_length (false ∷ bits) = omega (arith, run_length bits)

-- behind the last position no run begins
pub runs_start : (digits : List ℕ) (n c : ℕ) → n < length digits → Unpacked digits n c n → RunsFrom (set digits n 0) n c n
unfolding free_run
runs_start digits n c room u =
    record {
      digit_at = λ j h. get_or-set_other digits n j 0 0 (λ e. omega arith) ∙ u.digit_at j h;
      run_at = λ j h k. let e : j ≡ n = omega arith in
          rw e (get_or-set_same digits n 0 0 room ∙ sym (ap free_run (drop_of_length-le (bits_of n c) {i = n} (let l : length (bits_of n c) ≡ n = bits_length n c in omega arith))));
    }

run_cons : (b : Bool) (bits : List Bool) → run_here (one b) (free_run bits) ≡ free_run (b ∷ bits)
unfolding free_run
run_cons true bits = refl
run_cons false bits = let z : free_run bits + 1 ≡ suc (free_run bits) = omega arith in z

module _ (run : List ℕ) (n c i : ℕ) (h : i < n) (room : i < length run) (r : RunsFrom run n c (i + 1)) where
  pub behind_small : get_or run (i + 1) 0 ≤ n
  behind_small =
      let e = r.run_at (i + 1) (omega arith) (omega arith) in
      let k = run_length (drop (i + 1) (bits_of n c)) in
      let l = length-drop (i + 1) (bits_of n c) in
      let m : length (bits_of n c) ≡ n = bits_length n c in
      omega arith

  pub runs_more : RunsFrom (set run i (run_here (get_or run i 0) (get_or run (i + 1) 0))) n c i
  runs_more =
      record {
        digit_at = λ j k. get_or-set_other run i j _ 0 (λ e. omega arith) ∙ r.digit_at j (omega arith);
        run_at = λ j k l. at j k l (ℕ_discrete j i);
      }
    where
      here : run_here (get_or run i 0) (get_or run (i + 1) 0) ≡ free_run (drop i (bits_of n c))
      here =
          rw (r.digit_at i (omega arith), r.run_at (i + 1) (omega arith) (omega arith))
          (run_cons (get_or (bits_of n c) i false) (drop (i + 1) (bits_of n c))
          ∙ ap free_run (sym (drop_next (bits_of n c) i false (let m : length (bits_of n c) ≡ n = bits_length n c in omega arith))))

      at : (j : ℕ) → i ≤ j → j ≤ n → Dec (j ≡ i) → get_or (set run i (run_here (get_or run i 0) (get_or run (i + 1) 0))) j 0 ≡ free_run (drop j (bits_of n c))
      at j k l (yes e) = rw e (get_or-set_same run i _ 0 room ∙ here)
      at j k l (no e) = get_or-set_other run i j _ 0 e ∙ r.run_at j (omega arith) l

-- ════ what a run says of a step: it overlaps nothing exactly where the run that begins at its first position is long enough

covers_yes : (step : Step) (i : ℕ) → step.first ≤ i → i ≤ step.last → covers step i ≡ true
unfolding covers
covers_yes step i a b = both_of (le-leb _ _ a) (le-leb _ _ b)

covers_past : (step : Step) (i : ℕ) → step.last < i → covers step i ≡ false
unfolding covers
covers_past step i a = is_false (λ e. let h = leb-true i step.last (both (leb step.first i) _ e).1 in omega arith)

covers_early : (step : Step) (i : ℕ) → i < step.first → covers step i ≡ false
unfolding covers
covers_early step i a = is_false (λ e. let h = leb-true step.first i (both (leb step.first i) _ e).0 in omega arith)

-- a position that the step does not cover says nothing
free_skip : (step : Step) (i : ℕ) (bit : Bool) (bits : List Bool) → covers step i ≡ false → is_free step i (bit ∷ bits) ≡ is_free step (suc i) bits
unfolding is_free
free_skip step i true bits e = rw e
free_skip step i false bits e = refl

free_past : (step : Step) (i : ℕ) (bits : List Bool) → step.last < i → is_free step i bits ≡ true
unfolding is_free
free_past step i [] h = refl
free_past step i (bit ∷ bits) h = free_skip step i bit bits (covers_past step i h) ∙ free_past step (suc i) bits (omega arith)

-- from the first position on
free_from : (step : Step) (i : ℕ) (bits : List Bool) → step.first ≤ i → step.last < i + length bits
    → is_free step i bits ≡ leb (step.last + 1 - i) (free_run bits)
unfolding is_free free_run
free_from step i [] a c = sym (le-leb (step.last + 1 - i) 0 (omega arith))
free_from step i (bit ∷ bits) a c =
    by_test (leb i step.last)
    (λ t. inside bit (leb-true _ _ t) (free_from step (suc i) bits (omega arith) (omega arith)))
    (λ f. let h = leb-false _ _ f in free_past step i (bit ∷ bits) h ∙ sym (le-leb (step.last + 1 - i) (free_run (bit ∷ bits)) (omega arith)))
  where
    inside : (b : Bool) → i ≤ step.last → is_free step (suc i) bits ≡ leb (step.last + 1 - suc i) (free_run bits)
        → is_free step i (b ∷ bits) ≡ leb (step.last + 1 - i) (free_run (b ∷ bits))
    inside true h ih = rw (covers_yes step i a h) (sym (lt-leb (step.last + 1 - i) 0 (omega arith)))
    inside false h ih =
        let one_more : step.last + 1 - i ≡ suc (step.last + 1 - suc i) = omega arith in
        ih ∙ rw one_more (sym (leb-suc-suc (step.last + 1 - suc i) (free_run bits)))

-- up to the first position
free_to : (step : Step) (i : ℕ) (bits : List Bool) → i ≤ step.first → is_free step i bits ≡ is_free step step.first (drop (step.first - i) bits)
unfolding is_free
free_to step i [] h = ap (is_free step step.first) (sym (drop-nil (step.first - i)))
free_to step i (bit ∷ bits) h =
    by_test (eqb i step.first)
    (λ e. let z : i ≡ step.first = eqb-true _ _ e in let y : step.first - i ≡ 0 = omega arith in rw y (ap (λ (m : ℕ). is_free step m (bit ∷ bits)) z))
    (λ f. let z : i ≡ step.first → ⊥ = eqb-false i step.first f in
    let y : step.first - i ≡ suc (step.first - suc i) = omega arith in
    free_skip step i bit bits (covers_early step i (omega arith)) ∙ free_to step (suc i) bits (omega arith) ∙ rw y)

pub free_run_lem : (step : Step) (bits : List Bool) → 1 ≤ step.first → step.first ≤ step.last → step.last ≤ length bits
    → is_free step 1 bits ≡ leb (step.last + 1 - step.first) (free_run (drop (step.first - 1) bits))
free_run_lem step bits a b c =
    free_to step 1 bits a
    ∙ free_from step step.first (drop (step.first - 1) bits) (omega arith) (let l = length-drop (step.first - 1) bits in omega arith)

-- ════ the positions that a step covers, as digits

-- position i and the m - 1 behind it
unfoldable pub step_bits : Step → ℕ → ℕ → List Bool
step_bits step i zero = []
step_bits step i (suc m) = covers step i ∷ step_bits step (suc i) m

free_apart : (step : Step) (i : ℕ) (bits : List Bool) → is_free step i bits ≡ apart bits (step_bits step i (length bits))
unfolding is_free apart step_bits
free_apart step i [] = refl
free_apart step i (bit ∷ bits) = ap (λ x. not (bit && covers step i) && x) (free_apart step (suc i) bits)

cover_joined : (step : Step) (i : ℕ) (bits : List Bool) → cover step i bits ≡ joined bits (step_bits step i (length bits))
unfolding cover joined step_bits
cover_joined step i [] = refl
cover_joined step i (bit ∷ bits) = ap (λ (x : List Bool). (bit || covers step i) ∷ x) (cover_joined step (suc i) bits)

step_length : (step : Step) (i m : ℕ) → length (step_bits step i m) ≡ m
unfolding step_bits
step_length step i zero = refl
step_length step i (suc m) = ap suc (step_length step (suc i) m)

past_zero : (step : Step) (i m : ℕ) → step.last < i → of_bits (step_bits step i m) ≡ 0
unfolding step_bits of_bits
past_zero step i zero h = refl
past_zero step i (suc m) h = rw (covers_past step i h) (let z = past_zero step (suc i) m (omega arith) in omega arith)

-- the digits from position i on, with 2 to the power of what is left to the first position, make 2 to the power of what is left to the last
mask_from : (step : Step) (i m : ℕ) → step.first ≤ step.last → i ≤ step.last + 1 → step.last < i + m
    → of_bits (step_bits step i m) + 2 ^ (step.first - i) ≡ 2 ^ (step.last + 1 - i)
unfolding step_bits of_bits
mask_from step i zero f a b =
    let p : step.first - i ≡ 0 = omega arith in
    let q : step.last + 1 - i ≡ 0 = omega arith in
    rw (p, q)
mask_from step i (suc m) f a b =
    by_test (leb i step.last) (λ t. let h = leb-true _ _ t in inside h (mask_from step (suc i) m f (omega arith) (omega arith))) (λ g. behind (leb-false _ _ g))
  where
    behind : step.last < i → one (covers step i) + 2 * of_bits (step_bits step (suc i) m) + 2 ^ (step.first - i) ≡ 2 ^ (step.last + 1 - i)
    behind h =
        let z = past_zero step (suc i) m (omega arith) in
        let p : step.first - i ≡ 0 = omega arith in
        let q : step.last + 1 - i ≡ 0 = omega arith in
        rw (covers_past step i h, z, p, q)

    inside : i ≤ step.last → of_bits (step_bits step (suc i) m) + 2 ^ (step.first - suc i) ≡ 2 ^ (step.last + 1 - suc i)
        → one (covers step i) + 2 * of_bits (step_bits step (suc i) m) + 2 ^ (step.first - i) ≡ 2 ^ (step.last + 1 - i)
    inside h ih =
        let q : step.last + 1 - i ≡ suc (step.last + 1 - suc i) = omega arith in
        let pq : 2 ^ suc (step.last + 1 - suc i) ≡ 2 ^ (step.last + 1 - suc i) * 2 = pow-suc 2 (step.last + 1 - suc i) in
        by_test (leb step.first i)
        (λ t. let k = leb-true _ _ t in
        let p : step.first - i ≡ 0 = omega arith in
        let p' : step.first - suc i ≡ 0 = omega arith in
        let ih' : of_bits (step_bits step (suc i) m) + 2 ^ 0 ≡ 2 ^ (step.last + 1 - suc i) = rw p' at ih in
        rw (covers_yes step i k h, p, q) (omega arith))
        (λ g. let k = leb-false _ _ g in
        let p : step.first - i ≡ suc (step.first - suc i) = omega arith in
        let pp : 2 ^ suc (step.first - suc i) ≡ 2 ^ (step.first - suc i) * 2 = pow-suc 2 (step.first - suc i) in
        rw (covers_early step i k, p, q) (omega arith))

mask_is : (step : Step) (n : ℕ) → 1 ≤ step.first → step.first ≤ step.last → step.last ≤ n → of_bits (step_bits step 1 n) ≡ mask_of step.first step.last
mask_is step n a b c =
    let e = mask_from step 1 n b (omega arith) (omega arith) in
    let z : step.last + 1 - 1 ≡ step.last = omega arith in
    let e' : of_bits (step_bits step 1 n) + 2 ^ (step.first - 1) ≡ 2 ^ step.last = rw z at e in
    omega arith

-- covering free positions adds the mask
module _ (step : Step) (n c : ℕ) (a : 1 ≤ step.first) (b : step.first ≤ step.last) (d : step.last ≤ n) (small : c < 2 ^ n)
    (free : is_free step 1 (bits_of n c) ≡ true) where
  mask_bits : bits_of n (mask_of step.first step.last) ≡ step_bits step 1 n
  mask_bits = ap (bits_of n) (sym (mask_is step n a b d)) ∙ ap (λ (k : ℕ). bits_of k (of_bits (step_bits step 1 n))) (sym (step_length step 1 n)) ∙ bits_of_of_bits (step_bits step 1 n)

  mask_small : mask_of step.first step.last < 2 ^ n
  mask_small = let e = mask_is step n a b d in let l = of_bits_lt (step_bits step 1 n) in let k = step_length step 1 n in rw (k, e) at l

  away : apart (bits_of n c) (bits_of n (mask_of step.first step.last)) ≡ true
  away = rw mask_bits (ap (λ (k : ℕ). apart (bits_of n c) (step_bits step 1 k)) (sym (bits_length n c)) ∙ sym (free_apart step 1 (bits_of n c)) ∙ free)

  pub mask_fits : c + mask_of step.first step.last < 2 ^ n
  mask_fits = add_lt n c (mask_of step.first step.last) small mask_small away

  pub mask_covers : bits_of n (c + mask_of step.first step.last) ≡ cover step 1 (bits_of n c)
  mask_covers =
      add_bits n c (mask_of step.first step.last) small mask_small away
      ∙ ap (joined (bits_of n c)) mask_bits ∙ ap (λ (k : ℕ). joined (bits_of n c) (step_bits step 1 k)) (sym (bits_length n c)) ∙ sym (cover_joined step 1 (bits_of n c))

-- ════ how many positions a step covers

past_ones : (step : Step) (i m : ℕ) → step.last < i → ones (step_bits step i m) ≡ 0
unfolding step_bits
past_ones step i zero h = refl
past_ones step i (suc m) h = rw (covers_past step i h) (past_ones step (suc i) m (omega arith))

-- from the first position on
inside_ones : (step : Step) (i m : ℕ) → step.first ≤ i → step.last < i + m → ones (step_bits step i m) ≡ step.last + 1 - i
unfolding step_bits
inside_ones step i zero a b = let z : step.last + 1 - i ≡ 0 = omega arith in sym z
inside_ones step i (suc m) a b =
    by_test (leb i step.last)
    (λ t. let h = leb-true i step.last t in
    let z : step.last + 1 - i ≡ suc (step.last + 1 - suc i) = omega arith in
    rw (covers_yes step i a h, z) (ap suc (inside_ones step (suc i) m (omega arith) (omega arith))))
    (λ f. let h = leb-false i step.last f in
    let z : step.last + 1 - i ≡ 0 = omega arith in
    rw (covers_past step i h, z) (past_ones step (suc i) m (omega arith)))

step_ones : (step : Step) (i m : ℕ) → i ≤ step.first → step.first ≤ step.last → step.last < i + m → ones (step_bits step i m) ≡ step.last + 1 - step.first
unfolding step_bits
step_ones step i zero a b c = absurd (omega arith)
step_ones step i (suc m) a b c =
    by_test (eqb i step.first)
    (λ e. let z : i ≡ step.first = eqb-true _ _ e in
    ap (λ (k : ℕ). ones (step_bits step k (suc m))) z ∙ inside_ones step step.first (suc m) (omega arith) (omega arith))
    (λ f. let z : i ≡ step.first → ⊥ = eqb-false i step.first f in
    rw (covers_early step i (omega arith)) (step_ones step (suc i) m (omega arith) b (omega arith)))

-- covering free positions adds as many as the step has
pub cover_ones : (step : Step) (bits : List Bool) → 1 ≤ step.first → step.first ≤ step.last → step.last ≤ length bits → is_free step 1 bits ≡ true
    → ones (cover step 1 bits) ≡ ones bits + (step.last + 1 - step.first)
cover_ones step bits a b c free =
    ap ones (cover_joined step 1 bits)
    ∙ ones_joined bits (step_bits step 1 (length bits)) (sym (free_apart step 1 bits) ∙ free)
    ∙ ap (λ (k : ℕ). ones bits + k) (step_ones step 1 (length bits) a b (omega arith))
