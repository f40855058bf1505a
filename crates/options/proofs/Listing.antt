-- The options grow by one entry and by one first position at a time; together they are the steps that fit.
use Prim.Native.Nat.{ℕ, zero, suc, ◌+◌, ◌-◌, ◌*◌, ◌≤◌, ◌<◌}
use native.Mathlib.Omega.{arith}
use native.Mathlib.Decide.{ℕ_discrete}
use mathlib.Core.Path.{◌≡◌, refl, sym, ◌∙◌, ap, subst}
use mathlib.Core.Bool.{Bool, true, false}
use borrow.Author.Tests.{leb-true, leb-false}
use lib.Dec.{leb}
use mathlib.Core.List.{List, [], ◌∷◌, ◌++◌, map, map-append, append_assoc, append-nil, Memᴰ}
use lib.ListN.{length, get_or, set, take, length-set, length-append, length-map, get_or-append, get_or-map}
use lib.Seq.{length-take-le, take-suc-set, get_or-take, get_or-append-add}
use Rattle.laws.specs.Lists.{keep, concat, numbers_from, one_to, set_from}
use Rattle.laws.proofs.Fields.{from_long}
use Rattle.laws.proofs.Lists.{keep_++, keep_mem, keep_length, count_le, concat_++, numbers_next, numbers_length, get_d_mem}
use Rattle.meaning.specs.Book.{Book}
use Rattle.meaning.specs.Direction.{word_count}
use Rattle.meaning.specs.Derivation.{no_step, fits}
use Rattle.meaning.specs.Search.{step_at, fitting_steps}
use Rattle.meaning.specs.declared.Step.{Step}
use Rattle.meaning.proofs.Steps.{fits_facts, listed_fits}
use Rattle.halves.specs.Halves.{halves_of}
use Rattle.halves.proofs.Halves.{put_here, put_other, whole_same}
use Rattle.options.specs.Options.{options_from, start_at, option_in, fitting_at, fitting_to, entry_numbers, StartPut, Listed, OptionsOf}

-- ════ one entry more

module _ (book : Book) (direction : List ℕ) (first : ℕ) where
  one_more : (m : ℕ) → fitting_at book direction first (m + 1) ≡ fitting_at book direction first m ++ keep (fits book direction) (step_at book first (1 + m) ∷ [])
  unfolding fitting_at
  one_more m =
      ap (λ (xs : List ℕ). keep (fits book direction) (map (step_at book first) xs)) (numbers_next 1 m)
      ∙ ap (keep (fits book direction)) (map-append (step_at book first) (one_to m) ((1 + m) ∷ []))
      ∙ keep_++ (fits book direction) (map (step_at book first) (one_to m)) (step_at book first (1 + m) ∷ [])

  pub at_none : fitting_at book direction first 0 ≡ []
  unfolding fitting_at
  at_none = refl

  last_more : (k m : ℕ) → k ≡ m + 1 → fitting_at book direction first k ≡ fitting_at book direction first m ++ keep (fits book direction) (step_at book first k ∷ [])
  last_more k m z = let y : 1 + m ≡ k = omega arith in let t = one_more m in rw (y, ← z) at t

  at_fits : (k m : ℕ) → k ≡ m + 1 → fits book direction (step_at book first k) ≡ true → fitting_at book direction first k ≡ fitting_at book direction first m ++ (step_at book first k ∷ [])
  at_fits k m z e = last_more k m z ∙ rw e

  at_not : (k m : ℕ) → k ≡ m + 1 → fits book direction (step_at book first k) ≡ false → fitting_at book direction first k ≡ fitting_at book direction first m
  at_not k m z e = last_more k m z ∙ rw e (append-nil (fitting_at book direction first m))

  -- no more options than entries
  pub at_most : (m : ℕ) → length (fitting_at book direction first m) ≤ m
  unfolding fitting_at
  at_most m =
      let a = keep_length (fits book direction) (map (step_at book first) (one_to m)) in
      let b = count_le (fits book direction) (map (step_at book first) (one_to m)) in
      let c = length-map (one_to m) (step_at book first) in
      let d = numbers_length 1 m in
      omega arith

pub listed_none : (options : List ℕ) (from : ℕ) → Listed options options from from []
listed_none options from = record { counted = omega arith; long = refl; put = sym (append-nil (take (options_from + from) options)) }

pub listed_more : {before after : List ℕ} {from count : ℕ} {steps : List Step} → Listed before after from count steps → options_from + count < length after → (step : Step) (entry : ℕ) → entry ≡ step.entry
    → Listed before (set after (options_from + count) entry) from (count + 1) (steps ++ (step ∷ []))
listed_more {before} {after} {from} {count} {steps} l h step entry e =
    record {
      counted = (let a = l.counted in let b : length (steps ++ (step ∷ [])) ≡ length steps + 1 = length-append steps (step ∷ []) in omega arith);
      long = length-set after (options_from + count) entry ∙ l.long;
      put = (let z : options_from + (count + 1) ≡ suc (options_from + count) = omega arith in
          rw (z, e) (take-suc-set after (options_from + count) step.entry h ∙ ap (λ (xs : List ℕ). xs ++ (step.entry ∷ [])) l.put
          ∙ append_assoc (take (options_from + from) before) (entry_numbers steps) (step.entry ∷ []) ∙ ap (λ (xs : List ℕ). take (options_from + from) before ++ xs) (sym (map-append (λ s. s.entry) steps (step ∷ [])))));
    }

-- a turn of the loop over the entries: k entries are done
module _ (book : Book) (direction : List ℕ) (first k : ℕ) {before after : List ℕ} {from count : ℕ} (l : Listed before after from count (fitting_at book direction first k)) where
  pub entry_skipped : fits book direction (step_at book first (k + 1)) ≡ false → Listed before after from count (fitting_at book direction first (k + 1))
  entry_skipped e = rw (at_not book direction first (k + 1) k refl e) l

  pub entry_room : (m : ℕ) → k < m → options_from + (from + m) ≤ length before → options_from + count < length after
  entry_room m h room = let a = at_most book direction first k in let b = l.counted in let d = l.long in omega arith

  pub entry_taken : fits book direction (step_at book first (k + 1)) ≡ true → options_from + count < length after
      → Listed before (set after (options_from + count) (k + 1)) from (count + 1) (fitting_at book direction first (k + 1))
  entry_taken e h = rw (at_fits book direction first (k + 1) k refl e) (listed_more l h (step_at book first (k + 1)) (k + 1) refl)

-- ════ what the records say of each start and option

-- a start is noted as two halves
module _ (options : List ℕ) (i start : ℕ) (inside : i ≤ 32) (long : options_from ≤ length options) where
  abbrev noted : List ℕ
  noted = set_from options (2 * i) (halves_of start)

  other_is : (j : ℕ) → (j ≡ i → ⊥) → start_at noted j ≡ start_at options j
  unfolding start_at
  other_is j n = whole_same options noted (2 * j) (put_other options (2 * i) start (2 * j) (λ h. omega (arith, n, h))) (put_other options (2 * i) start (2 * j + 1) (λ h. omega (arith, n, h)))

  option_is : (o : ℕ) → option_in noted o ≡ option_in options o
  unfolding option_in
  option_is o = put_other options (2 * i) start (options_from + o) (λ h. omega arith)

  pub start_put : StartPut options noted i start
  unfolding start_at
  start_put = record { long = from_long options (2 * i) (halves_of start); here = put_here options (2 * i) start (omega arith); others = other_is; options = option_is }

-- what stands before the options that were listed is as it was
module _ {before after : List ℕ} {from count : ℕ} {steps : List Step} (l : Listed before after from count steps) (inside : options_from + from ≤ length before) where
  front : length (take (options_from + from) before) ≡ options_from + from
  front = length-take-le (options_from + from) before inside

  below : (p : ℕ) → p < options_from + from → get_or after p 0 ≡ get_or before p 0
  below p h =
      let c = l.counted in
      let f = front in
      sym (get_or-take (options_from + count) after p 0 (omega arith)) ∙ ap (λ (xs : List ℕ). get_or xs p 0) l.put
      ∙ get_or-append (take (options_from + from) before) (entry_numbers steps) 0 p (omega arith) ∙ get_or-take (options_from + from) before p 0 h

  listed_start : (j : ℕ) → j ≤ 32 → start_at after j ≡ start_at before j
  unfolding start_at
  listed_start j h = whole_same before after (2 * j) (below (2 * j) (omega arith)) (below (2 * j + 1) (omega arith))

  listed_below : (p : ℕ) → p < from → option_in after p ≡ option_in before p
  unfolding option_in
  listed_below p h = below (options_from + p) (omega arith)

  listed_at : (p q : ℕ) → p ≡ from + q → q < length steps → option_in after p ≡ (get_or steps q no_step).entry
  unfolding option_in
  listed_at p q e h =
      let c = l.counted in
      let z : options_from + p ≡ options_from + from + q = omega arith in
      sym (get_or-take (options_from + count) after (options_from + p) 0 (omega arith)) ∙ ap (λ (xs : List ℕ). get_or xs (options_from + p) 0) l.put
      ∙ ap (λ (k : ℕ). get_or (take (options_from + from) before ++ entry_numbers steps) k 0) (z ∙ ap (λ (k : ℕ). k + q) (sym front))
      ∙ get_or-append-add (take (options_from + from) before) (entry_numbers steps) q 0 ∙ get_or-map (λ s. s.entry) steps q no_step

-- ════ one first position more

-- what the list holds after i first positions
pub record Filled (book : Book) (direction options : List ℕ) (i count : ℕ) : Type 0 where
  pub counted : count ≡ length (fitting_to book direction i)
  pub numbers : (p : ℕ) → p < count → option_in options p ≡ (get_or (fitting_to book direction i) p no_step).entry
  pub starts_at : (j : ℕ) → j ≤ i → start_at options j ≡ length (fitting_to book direction j)

numbers_split : (from a b : ℕ) → numbers_from from (a + b) ≡ numbers_from from a ++ numbers_from (from + a) b
numbers_split from zero b = let z : 0 + b ≡ b = omega arith in let y : from + 0 ≡ from = omega arith in rw (z, y)
numbers_split from (suc a) b =
    let z : suc a + b ≡ suc (a + b) = omega arith in
    let y : from + suc a ≡ suc from + a = omega arith in
    rw (z, y) (ap (λ (xs : List ℕ). from ∷ xs) (numbers_split (suc from) a b))

module _ (book : Book) (direction : List ℕ) where
  abbrev to : ℕ → List Step
  to i = fitting_to book direction i

  abbrev at : ℕ → List Step
  at first = fitting_at book direction first (length book.entries)

  to_none : to 0 ≡ []
  unfolding fitting_to
  to_none = refl

  to_split : (i d : ℕ) → to (i + d) ≡ to i ++ concat (map at (numbers_from (1 + i) d))
  unfolding fitting_to
  to_split i d =
      ap (λ (xs : List ℕ). concat (map at xs)) (numbers_split 1 i d)
      ∙ ap concat (map-append at (one_to i) (numbers_from (1 + i) d))
      ∙ concat_++ (map at (one_to i)) (map at (numbers_from (1 + i) d))

  to_more : (i : ℕ) → to (i + 1) ≡ to i ++ at (i + 1)
  to_more i = let z : 1 + i ≡ i + 1 = omega arith in to_split i 1 ∙ rw z (ap (λ (xs : List Step). to i ++ xs) (append-nil (at (i + 1))))

  pub filled_none : {options options' : List ℕ} → StartPut options options' 0 0 → Filled book direction options' 0 0
  filled_none s =
      record {
        counted = rw to_none;
        numbers = λ p h. absurd (omega arith);
        starts_at = λ j l. let z : j ≡ 0 = omega arith in rw (z, to_none) s.here;
      }

  pub filled_more : {options options' options'' : List ℕ} {i count r : ℕ} → Filled book direction options i count → i < 32 → options_from + count ≤ length options
      → Listed options options' count r (at (i + 1)) → StartPut options' options'' (i + 1) r → Filled book direction options'' (i + 1) r
  filled_more {options} {options'} {options''} {i} {count} {r} f few room l s =
      record {
        counted = more;
        numbers = λ p h. s.options p ∙ number p h (leb count p) refl;
        starts_at = λ j k. here j k (ℕ_discrete j (i + 1));
      }
    where
      sizes : length (to (i + 1)) ≡ length (to i) + length (at (i + 1))
      sizes = ap length (to_more i) ∙ length-append (to i) (at (i + 1))

      more : r ≡ length (to (i + 1))
      more = let a = l.counted in let b = f.counted in let d = sizes in omega arith

      number : (p : ℕ) → p < r → (behind : Bool) → leb count p ≡ behind → option_in options' p ≡ (get_or (to (i + 1)) p no_step).entry
      number p h false e =
          let b = leb-false count p e in
          let c = f.counted in
          listed_below l room p b ∙ f.numbers p b
          ∙ ap (λ (x : Step). x.entry) (sym (ap (λ (xs : List Step). get_or xs p no_step) (to_more i) ∙ get_or-append (to i) (at (i + 1)) no_step p (omega arith)))
      number p h true e =
          let b = leb-true count p e in
          let a = l.counted in
          let c = f.counted in
          let z : p ≡ length (to i) + (p - count) = omega arith in
          listed_at l room p (p - count) (omega arith) (omega arith)
          ∙ ap (λ (x : Step). x.entry) (sym (ap (λ (xs : List Step). get_or xs p no_step) (to_more i) ∙ ap (λ (k : ℕ). get_or (to i ++ at (i + 1)) k no_step) z ∙ get_or-append-add (to i) (at (i + 1)) (p - count) no_step))

      here : (j : ℕ) → j ≤ i + 1 → Dec (j ≡ i + 1) → start_at options'' j ≡ length (to j)
      here j k (yes e) = rw e (s.here ∙ more)
      here j k (no e) = s.others j e ∙ listed_start l room j (omega arith) ∙ f.starts_at j (omega arith)

  -- a step at one first position is that entry's step
  at_step : (first q : ℕ) → q < length (at first) → get_or (at first) q no_step ≡ step_at book first (get_or (at first) q no_step).entry
  unfolding fitting_at
  at_step first q h =
      let m = (keep_mem (fits book direction) (map (step_at book first) (one_to (length book.entries))) (get_d_mem (at first) q no_step h)).0 in
      let v = mathlib.Core.List.Memᴰ.of_map (step_at book first) (one_to (length book.entries)) m in
      sym v.2 ∙ ap (step_at book first) (ap (λ (s : Step). s.entry) v.2)

  -- places of the i-th block
  block : (i p : ℕ) → length (to i) ≤ p → p < length (to (i + 1)) → get_or (to (i + 1)) p no_step ≡ step_at book (i + 1) (get_or (to (i + 1)) p no_step).entry
  block i p a b =
      let d : length (to (i + 1)) ≡ length (to i) + length (at (i + 1)) = ap length (to_more i) ∙ length-append (to i) (at (i + 1)) in
      let z : length (to i) + (p - length (to i)) ≡ p = omega arith in
      let e : get_or (to (i + 1)) p no_step ≡ get_or (at (i + 1)) (p - length (to i)) no_step =
      ap (λ (xs : List Step). get_or xs p no_step) (to_more i) ∙ ap (λ (k : ℕ). get_or (to i ++ at (i + 1)) k no_step) (sym z) ∙ get_or-append-add (to i) (at (i + 1)) (p - length (to i)) no_step in
      e ∙ at_step (i + 1) (p - length (to i)) (omega arith) ∙ ap (λ (s : Step). step_at book (i + 1) s.entry) (sym e)

  early : (i n p : ℕ) → i ≤ n → p < length (to i) → get_or (to n) p no_step ≡ get_or (to i) p no_step
  early i n p h l =
      let z : i + (n - i) ≡ n = omega arith in
      ap (λ (k : ℕ). get_or (to k) p no_step) (sym z) ∙ ap (λ (xs : List Step). get_or xs p no_step) (to_split i (n - i)) ∙ get_or-append (to i) (concat (map at (numbers_from (1 + i) (n - i)))) no_step p l

  all_are : to (word_count direction) ≡ fitting_steps book direction
  unfolding fitting_to fitting_steps fitting_at
  all_are = refl

  abbrev n : ℕ
  n = word_count direction

  pub options_are : {options : List ℕ} {count : ℕ} → Filled book direction options (word_count direction) count → options_from + count ≤ length options → OptionsOf book direction options
  options_are {options} {count} f enough =
      record {
        begins = f.starts_at 0 (omega arith) ∙ ap length to_none;
        ends = f.starts_at n (omega arith) ∙ ap length all_are;
        rising = λ i h. let a = f.starts_at i (omega arith) in let b = f.starts_at (i + 1) (omega arith) in
            let d : length (to (i + 1)) ≡ length (to i) + length (at (i + 1)) = ap length (to_more i) ∙ length-append (to i) (at (i + 1)) in omega arith;
        each = λ i p h a b.
            let s = f.starts_at i (omega arith) in
            let e = f.starts_at (i + 1) (omega arith) in
            let t : length (to i) ≤ p = omega arith in
            let u : p < length (to (i + 1)) = omega arith in
            let same = early (i + 1) n p (omega arith) u in
            ap (λ (xs : List Step). get_or xs p no_step) (sym all_are) ∙ same ∙ block i p t u
            ∙ ap (step_at book (i + 1)) (ap (λ (s : Step). s.entry) (sym same) ∙ sym (number p (inside i p h u)));
        entries_in = λ p h. let e = f.starts_at n (omega arith) in let u : p < length (to n) = omega arith in bounds p u;
        room = (let e = f.starts_at n (omega arith) in let c = f.counted in omega arith);
      }
    where
      number : (p : ℕ) → p < length (to n) → option_in options p ≡ (get_or (to n) p no_step).entry
      number p h = let c = f.counted in f.numbers p (omega arith)

      inside : (i p : ℕ) → i < n → p < length (to (i + 1)) → p < length (to n)
      inside i p h u =
          let z : i + 1 + (n - (i + 1)) ≡ n = omega arith in
          let d : length (to n) ≡ length (to (i + 1)) + length (concat (map at (numbers_from (1 + (i + 1)) (n - (i + 1))))) =
          ap (λ (k : ℕ). length (to k)) (sym z) ∙ ap length (to_split (i + 1) (n - (i + 1))) ∙ length-append (to (i + 1)) (concat (map at (numbers_from (1 + (i + 1)) (n - (i + 1))))) in
          omega arith

      bounds : (p : ℕ) → p < length (to n) → (1 ≤ option_in options p) × (option_in options p ≤ length book.entries)
      bounds p u =
          let m : Memᴰ (get_or (to n) p no_step) (fitting_steps book direction) = subst (Memᴰ (get_or (to n) p no_step)) all_are (get_d_mem (to n) p no_step u) in
          let g = fits_facts book direction (get_or (to n) p no_step) (listed_fits book direction (get_or (to n) p no_step) m) in
          rw (number p u) (g.entry_from, g.entry_to)
