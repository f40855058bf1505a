-- A round's steps as numbers, put over a caller's records: what each direction's decode writes on 96 zeros stands on its 32 records, and the others are as before.
use Prim.Native.Nat.{ℕ, zero, suc, ◌-◌, ◌*◌, ◌≤◌}
use native.Mathlib.Omega.{arith}
use mathlib.Core.Path.{◌≡◌, refl, sym, ap, ◌∙◌}
use mathlib.Core.Bool.{Bool, true, false, ◌&&◌}
use mathlib.Core.List.{List, [], ◌∷◌, ◌++◌}
use mathlib.Core.Option.{Option, none, some}
use borrow.Author.Tests.{leb-true, le-leb}
use lib.Dec.{leb}
use lib.IntN.{ℤ}
use lib.ListN.{length, take, drop, replicate, length-replicate, length-drop}
use lib.Seq.{length-take-le}
use Rattle.laws.specs.Lists.{all}
use Rattle.laws.proofs.Tests.{both, same_test}
use Rattle.meaning.specs.Book.{Book, book_refusal, book_of}
use Rattle.meaning.specs.Derivation.{fits, is_valid}
use Rattle.meaning.specs.Questions.{◌unless◌, ◌orelse◌, within}
use Rattle.meaning.specs.Reply.{written_if, decode_refusal, answer_steps, decoded_steps}
use Rattle.meaning.specs.Round.{are_rising, are_ends, round_refusal, alone, by_parts, kept_if_refused}
use Rattle.meaning.specs.Search.{answer}
use Rattle.meaning.specs.State.{Hyp}
use Rattle.meaning.specs.declared.Step.{Step}
use Rattle.meaning.proofs.Answers.{answer_derives}
use Rattle.meaning.proofs.Chains.{rest_passes, test_passes}
use Rattle.meaning.proofs.Lengths.{found_room}
use Rattle.meaning.proofs.Steps.{fits_facts}
use Rattle.records.specs.Rows.{row_in, rows_to, step_over, put_over}
use Rattle.records.proofs.Placing.{one_there}
use Rattle.lists.specs.Steps.{records_in, numbers_of, decoded_numbers, places_for}
use Rattle.lists.proofs.Threes.{many, one_more, take_steps}
use Rattle.lists.proofs.Rounds.{numbers_keep}

-- ════ zeros

drop_zeros : (j n : ℕ) → drop {A = ℕ} j (replicate n 0) ≡ replicate (n - j) 0
drop_zeros zero n = let e : n - 0 ≡ n = omega arith in rw e refl
drop_zeros (suc j) zero = let e : 0 - suc j ≡ 0 = omega arith in rw e refl
drop_zeros (suc j) (suc n) = let e : suc n - suc j ≡ n - j = omega arith in rw e (drop_zeros j n)

pub take_zeros : (j n : ℕ) → j ≤ n → take {A = ℕ} j (replicate n 0) ≡ replicate j 0
take_zeros zero n h = refl
take_zeros (suc j) zero h = absurd (omega arith)
take_zeros (suc j) (suc n) h = ap (λ (l : List ℕ). 0 ∷ l) (take_zeros j n (omega arith))

-- they are no steps
none_over : (n : ℕ) (ys : List Step) → put_over (records_in (replicate n 0)) ys ≡ ys
none_over zero ys = refl
none_over (suc zero) ys = refl
none_over (suc (suc zero)) ys = refl
none_over (suc (suc (suc n))) [] = refl
none_over (suc (suc (suc n))) (y ∷ ys) = ap (λ (l : List Step). y ∷ l) (none_over n ys)

-- ════ steps behind steps

over_parts : (xs zs ys : List Step) → length xs ≤ length ys → put_over (xs ++ zs) ys ≡ put_over xs (take (length xs) ys) ++ put_over zs (drop (length xs) ys)
over_parts [] zs ys h = refl
over_parts (x ∷ xs) zs [] h = absurd (omega arith)
over_parts (x ∷ xs) zs (y ∷ ys) h = ap (λ (l : List Step). step_over x y ∷ l) (over_parts xs zs ys (omega arith))

-- numbers behind whole threes
records_parts : (k : ℕ) (a b : List ℕ) → length a ≡ k * 3 → records_in (a ++ b) ≡ records_in a ++ records_in b
records_parts zero [] b h = refl
records_parts zero (x ∷ a) b h = absurd (omega arith)
records_parts (suc k) [] b h = absurd (omega arith)
records_parts (suc k) (x ∷ []) b h = absurd (omega arith)
records_parts (suc k) (x ∷ y ∷ []) b h = absurd (omega arith)
records_parts (suc k) (x ∷ y ∷ z ∷ a) b h = ap (λ (l : List Step). record { first = x; last = y; entry = z } ∷ l) (records_parts k a b (omega arith))

steps_parts : (steps : List Step) (b : List ℕ) → records_in (numbers_of steps ++ b) ≡ steps ++ records_in b
steps_parts [] b = refl
steps_parts (step ∷ steps) b = ap (λ (l : List Step). step ∷ l) (steps_parts steps b)

pub rows_first : (numbers : List ℕ) (k : ℕ) → k * 3 ≤ length numbers → rows_to numbers k ≡ records_in (take (k * 3) numbers)
rows_first numbers k h = firsts k h ∙ sym (take_steps k numbers)
  where
    firsts : (j : ℕ) → j * 3 ≤ length numbers → rows_to numbers j ≡ take j (records_in numbers)
    firsts zero l = refl
    firsts (suc j) l = ap (λ (steps : List Step). steps ++ (row_in numbers j ∷ [])) (firsts j (omega arith)) ∙ one_more j numbers l

-- ════ steps that fit: their first positions are from 1

module _ (book : Book) (direction : List ℕ) where
  found_fit : (width : ℤ) → all (fits book direction) (answer_steps (answer book direction width)) ≡ true
  unfolding is_valid
  found_fit width = by (answer book direction width) refl
    where
      by : (o : Option Hyp) → answer book direction width ≡ o → all (fits book direction) (answer_steps o) ≡ true
      by none e = refl
      by (some t) e = (both _ _ (both (all (fits book direction) t.steps && _) _ (answer_derives book direction width t e).steps_valid).0).0

  -- they are written as they are
  steps_over : (steps : List Step) (n : ℕ) (ys : List Step) → all (fits book direction) steps ≡ true → length steps ≤ length ys
      → put_over (steps ++ records_in (replicate n 0)) ys ≡ steps ++ drop (length steps) ys
  steps_over [] n ys f h = none_over n ys
  steps_over (step ∷ steps) n [] f h = absurd (omega arith)
  steps_over (step ∷ steps) n (y ∷ ys) f h =
      let b = both (fits book direction step) (all (fits book direction) steps) f in let one = (fits_facts book direction step b.0).first_from in
      rw (sym (one_there step.first step y (λ z. omega arith)), steps_over steps n ys b.1 (omega arith))

-- ════ each direction on its own places

module _ (loaded : List ℤ) (width : ℤ) (store : List ℤ) where
  abbrev on_numbers : List ℕ → List ℕ → List ℕ
  on_numbers d = decoded_numbers loaded d width (alone store)

  abbrev on_records : List ℕ → List Step → List Step
  on_records d = decoded_steps loaded d width (alone store)

  one_over : (d : List ℕ) (ys : List Step) → length ys ≡ 32 → put_over (records_in (on_numbers d (replicate 96 0))) ys ≡ on_records d ys
  unfolding decoded_numbers decoded_steps
  one_over d ys h = by (decode_refusal loaded d width (alone store)) refl
    where
      found : List Step
      found = answer_steps (answer (book_of loaded) d width)

      by : (k : ℕ) → decode_refusal loaded d width (alone store) ≡ k → put_over (records_in (written_if k (numbers_of found) (replicate 96 0))) ys ≡ written_if k found ys
      by zero e =
          let room = (found_room loaded d width (alone store) e).0 in
          ap (λ (l : List ℕ). put_over (records_in (numbers_of found ++ l)) ys) (drop_zeros (length (numbers_of found)) 96)
          ∙ ap (λ (l : List Step). put_over l ys) (steps_parts found (replicate (96 - length (numbers_of found)) 0))
          ∙ steps_over (book_of loaded) d found (96 - length (numbers_of found)) ys (found_fit (book_of loaded) d width) (omega arith)
      by (suc k) e = none_over 96 ys

  -- all of them, one after the other
  parts_over : (ds : List (List ℕ)) (n : ℕ) (ys : List Step) → 96 * length ds ≤ n → 32 * length ds ≤ length ys
      → put_over (records_in (by_parts 96 on_numbers ds (replicate n 0))) ys ≡ by_parts 32 on_records ds ys
  parts_over [] n ys a b = none_over n ys
  parts_over (d ∷ ds) n ys a b =
      ap (λ (l : List ℕ). put_over (records_in (on_numbers d l ++ by_parts 96 on_numbers ds (drop 96 (replicate n 0)))) ys) (take_zeros 96 n (omega arith))
      ∙ ap (λ (l : List ℕ). put_over (records_in (new ++ by_parts 96 on_numbers ds l)) ys) (drop_zeros 96 n)
      ∙ ap (λ (l : List Step). put_over l ys) (records_parts 32 new rest new_long)
      ∙ over_parts (records_in new) (records_in rest) ys (omega (arith, count))
      ∙ ap (λ (k : ℕ). put_over (records_in new) (take k ys) ++ put_over (records_in rest) (drop k ys)) count
      ∙ rw (one_over d (take 32 ys) (length-take-le 32 ys (omega arith)), parts_over ds (n - 96) (drop 32 ys) (omega arith) (let l = length-drop 32 ys in omega arith)) refl
    where
      new : List ℕ
      new = on_numbers d (replicate 96 0)

      rest : List ℕ
      rest = by_parts 96 on_numbers ds (replicate (n - 96) 0)

      new_long : length new ≡ 96
      new_long = numbers_keep loaded width store d (replicate 96 0) (length-replicate {A = ℕ} 96 0)

      count : length (records_in new) ≡ 32
      count = let m = many new in omega (arith, m.0, m.1, new_long)

  -- a round's: where it is refused nothing is put. `numbers` are what it leaves of zeros
  pub round_over : (refusal : ℕ) (ds : List (List ℕ)) (n : ℕ) (numbers : List ℕ) (ys : List Step) → (refusal ≡ 0 → (96 * length ds ≤ n) × (32 * length ds ≤ length ys))
      → numbers ≡ kept_if_refused refusal (replicate n 0) (by_parts 96 on_numbers ds (replicate n 0)) → put_over (records_in numbers) ys ≡ kept_if_refused refusal ys (by_parts 32 on_records ds ys)
  round_over zero ds n numbers ys room e = ap (λ (l : List ℕ). put_over (records_in l) ys) e ∙ parts_over ds n ys (room refl).0 (room refl).1
  round_over (suc k) ds n numbers ys room e = ap (λ (l : List ℕ). put_over (records_in l) ys) e ∙ none_over n ys

-- ════ question 12, asked of no more places than a round can need

module _ (loaded : List ℤ) (directions ends : List ℕ) (words store answers : ℕ) where
  abbrev refusal_with : ℕ → ℕ
  refusal_with steps = round_refusal loaded directions ends (record { steps = steps; words = words; store = store }) answers

  pub same_refusal : (steps : ℕ) → refusal_with (places_for (length ends) steps) ≡ refusal_with steps
  unfolding round_refusal are_ends
  same_refusal steps = ap (λ (k : ℕ). book_refusal loaded orelse k) (by (are_ends directions ends) refl)
    where
      least : ℕ
      least = places_for (length ends) steps

      room : ℕ → Bool
      room places = leb (32 * length ends) places && leb (256 * length ends) words && leb (9 * length ends) answers

      by : (t : Bool) → are_ends directions ends ≡ t → (26 unless t orelse 12 unless room least) ≡ (26 unless t orelse 12 unless room steps)
      by false e = refl
      by true e =
          let few = leb-true (length ends) 64 (both (leb 1 (length ends)) (leb (length ends) 64) (both (within 1 64 (length ends)) (are_rising 0 ends) (both (within 1 64 (length ends) && are_rising 0 ends) (all (λ end. leb end (length directions)) ends) e).0).0).1 in
          let same : leb (32 * length ends) least ≡ leb (32 * length ends) steps =
          same_test (λ t. le-leb (32 * length ends) steps (let h = leb-true (32 * length ends) least t in omega arith)) (λ t. le-leb (32 * length ends) least (let h = leb-true (32 * length ends) steps t in omega arith)) in
          ap (λ (t : Bool). 12 unless (t && leb (256 * length ends) words && leb (9 * length ends) answers)) same

  -- where none refuses there are places for the steps of all
  pub room_for : (steps : ℕ) → refusal_with steps ≡ 0 → 32 * length ends ≤ steps
  unfolding round_refusal
  room_for steps e =
      let t = test_passes 11 _ (rest_passes (26 unless are_ends directions ends) _ (rest_passes (book_refusal loaded) _ e)) in
      leb-true _ _ (both _ _ (both (leb (32 * length ends) steps && leb (256 * length ends) words) _ t).0).0
