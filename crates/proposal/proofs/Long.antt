-- A list of steps of any length is judged by its first 33: each step that passes covers a word more, so of 32 words none is left for the 33rd.
use Prim.Native.Nat.{ℕ, zero, suc, ◌+◌, ◌≤◌, ◌<◌}
use native.Mathlib.Omega.{arith}
use mathlib.Core.Path.{◌≡◌, refl, ◌∙◌, ap}
use mathlib.Core.Bool.{true, false}
use mathlib.Core.List.{List, [], ◌∷◌}
use lib.Dec.{leb}
use lib.ListN.{length, take, length-replicate}
use lib.Seq.{take_all}
use Rattle.laws.proofs.Tests.{by_test}
use Rattle.laws.proofs.Lists.{count_le}
use Rattle.meaning.specs.Questions.{◌unless◌}
use Rattle.meaning.specs.Book.{Book}
use Rattle.meaning.specs.Direction.{word_count}
use Rattle.meaning.specs.Derivation.{fits, jump}
use Rattle.meaning.specs.State.{Key, start, words_covered, is_free, next_key}
use Rattle.meaning.specs.Reply.{reply, steps_refusal}
use Rattle.meaning.specs.declared.Step.{Step}
use Rattle.meaning.proofs.Chains.{first_passes, rest_passes, test_passes}
use Rattle.meaning.proofs.Steps.{fits_facts}
use Rattle.meaning.proofs.Cover.{cover_length, cover_adds, none_covered}

module _ (book : Book) (direction : List ℕ) where
  -- a key has a bit for each word
  abbrev Whole : Key → Type 0
  Whole k = length k.covered ≡ word_count direction

  next_whole : (k : Key) (step : Step) → Whole k → Whole (next_key book k step)
  unfolding next_key
  next_whole k step w = cover_length step 1 k.covered ∙ w

  next_more : (k : Key) (step : Step) → Whole k → fits book direction step ≡ true → is_free step 1 k.covered ≡ true → words_covered k < words_covered (next_key book k step)
  unfolding words_covered next_key word_count
  next_more k step w fit free =
      let h = fits_facts book direction step fit in
      let a = h.first_to in
      let b = h.last_to in
      cover_adds step 1 k.covered free h.first_from h.first_to (omega arith)

  covered_most : (k : Key) → words_covered k ≤ length k.covered
  unfolding words_covered
  covered_most k = count_le (λ bit. bit) k.covered

  -- the first m steps decide, where m is more than the words that are not covered
  pub refusal_front : (m : ℕ) (k : Key) (steps : List Step) → Whole k → length k.covered < words_covered k + m
      → steps_refusal book direction k (take m steps) ≡ steps_refusal book direction k steps
  unfolding steps_refusal
  refusal_front zero k steps w h = absurd (let c = covered_most k in omega arith)
  refusal_front (suc m) k [] w h = refl
  refusal_front (suc m) k (step ∷ steps) w h =
      by_test (fits book direction step)
      (λ a. by_test (is_free step 1 k.covered)
      (λ b. by_test (leb (jump k.r step) book.limit)
      (λ d. let x = next_more k step w a b in
      let l = next_whole k step w in
      rw (a, b, d) (refusal_front m (next_key book k step) steps l (omega arith)))
      (λ d. rw (a, b, d)))
      (λ b. rw (a, b)))
      (λ a. rw a)

  -- a list that passes has no more steps than there were words to cover
  pub passes_short : (k : Key) (steps : List Step) → Whole k → steps_refusal book direction k steps ≡ 0 → length steps + words_covered k ≤ length k.covered
  unfolding steps_refusal
  passes_short k [] w e = let c = covered_most k in omega arith
  passes_short k (step ∷ steps) w e =
      let after16 = rest_passes (16 unless fits book direction step) _ e in
      let after17 = rest_passes (17 unless is_free step 1 k.covered) _ after16 in
      let after18 = rest_passes (18 unless leb (jump k.r step) book.limit) _ after17 in
      let a = test_passes 15 (fits book direction step) (first_passes (16 unless fits book direction step) _ e) in
      let b = test_passes 16 (is_free step 1 k.covered) (first_passes (17 unless is_free step 1 k.covered) _ after16) in
      let x = next_more k step w a b in
      let l : length (next_key book k step).covered ≡ word_count direction = next_whole k step w in
      let ih = passes_short (next_key book k step) steps l after18 in
      omega arith

  start_whole : Whole (start (word_count direction))
  unfolding start
  start_whole = length-replicate (word_count direction) false

  start_none : words_covered (start (word_count direction)) ≡ 0
  unfolding words_covered start
  start_none = none_covered (word_count direction)

  same_reply : {A : Type 0} (k : ℕ) (a b : A) → (k ≡ 0 → a ≡ b) → reply k a ≡ reply k b
  same_reply zero a b e = ap (reply 0) (e refl)
  same_reply (suc k) a b e = refl

  -- "Scoring a proposed list": its first 33 steps give the reply of the whole list, whatever is reported of the steps
  pub front_decides : {A : Type 0} (report : List Step → A) → word_count direction ≤ 32 → (steps : List Step)
      → reply (steps_refusal book direction (start (word_count direction)) (take 33 steps)) (report (take 33 steps))
      ≡ reply (steps_refusal book direction (start (word_count direction)) steps) (report steps)
  front_decides report few steps =
      let w = start_whole in
      let z = start_none in
      ap (λ (k : ℕ). reply k (report (take 33 steps))) (refusal_front 33 (start (word_count direction)) steps w (omega arith))
      ∙ same_reply (steps_refusal book direction (start (word_count direction)) steps) (report (take 33 steps)) (report steps)
      (λ e. let s = passes_short (start (word_count direction)) steps w e in ap report (take_all 33 steps (omega arith)))
