-- A decode writes no further than question 12 asks, so it keeps the lengths of the lent lists, and each direction of a round stays on its own places.
use Prim.Native.Nat.{ℕ, zero, suc, ◌*◌, ◌≤◌}
use native.Mathlib.Omega.{arith}
use mathlib.Core.Path.{◌≡◌, refl, ap, ◌∙◌}
use mathlib.Core.List.{List, [], ◌∷◌}
use mathlib.Core.Option.{Option, none, some}
use borrow.Author.Tests.{leb-true}
use lib.Dec.{leb}
use lib.IntN.{ℤ, negsuc}
use lib.ListN.{length, length-append}
use lib.Signed.{le_z}
use Rattle.laws.proofs.Fill.{over_long}
use Rattle.laws.proofs.Tests.{both}
use Rattle.search_theory.proofs.Bounds.{steps_few}
use Rattle.meaning.specs.Questions.{◌unless◌}
use Rattle.meaning.specs.Book.{Book, book_refusal, book_of}
use Rattle.meaning.specs.Direction.{word_count, direction_refusal}
use Rattle.meaning.specs.Derivation.{entry_at, target_words}
use Rattle.meaning.specs.State.{Hyp, words_covered}
use Rattle.meaning.specs.Search.{search, answer}
use Rattle.meaning.specs.Reply.{Reply, refused, done, written_if, Lent, before_search, decode_refusal, answer_steps, decoded_steps, decoded_words}
use Rattle.meaning.specs.Round.{alone, answer_numbers}
use Rattle.meaning.specs.declared.Answer.{Answer}
use Rattle.meaning.specs.declared.Step.{Step}
use Rattle.meaning.proofs.Answers.{legal, last_entered, answer_last}
use Rattle.meaning.proofs.Chains.{first_passes, rest_passes, test_passes}
use Rattle.meaning.proofs.Instance.{steady}
use Rattle.meaning.proofs.Ranges.{Ranged, loaded_ranged}

-- an answer has no more steps than the direction has words
pub answer_few : (book : Book) (direction : List ℕ) (width : ℤ) → length (answer_steps (answer book direction width)) ≤ word_count direction
answer_few book direction width = by (answer book direction width) refl
  where
    by : (o : Option Hyp) → answer book direction width ≡ o → length (answer_steps o) ≤ word_count direction
    by none e = omega arith
    by (some t) e =
        let f = answer_last book direction width t e in let l = last_entered book direction width f.state f.member in
        let s : length f.state.steps ≤ words_covered f.state.key = steps_few (search book direction width) (steady book direction width) f.state (legal book direction width f.state l.0) in
        omega (arith, s, l.1, ap length f.steps_are)

-- and no more than 8 target words a step
pub words_few : (book : Book) → Ranged book → (steps : List Step) → length (target_words book steps) ≤ 8 * length steps
unfolding target_words
words_few book R [] = omega arith
words_few book R (step ∷ steps) =
    let h = words_few book R steps in let t = R.target_to step.entry in
    let a = length-append (entry_at book step.entry).target (target_words book steps) in
    omega arith

-- a list that has room for what is written keeps its length
pub written_long : {A : Type 0} (k : ℕ) (new old : List A) → (k ≡ 0 → length new ≤ length old) → length (written_if k new old) ≡ length old
written_long zero new old h = over_long new old (h refl)
written_long (suc k) new old h = refl

module _ (loaded : List ℤ) (direction : List ℕ) (width : ℤ) (lent : Lent) where
  abbrev found : List Step
  found = answer_steps (answer (book_of loaded) direction width)

  -- where no question refuses there is room for them
  pub found_room : decode_refusal loaded direction width lent ≡ 0 → (length found ≤ lent.steps) × (length (target_words (book_of loaded) found) ≤ lent.words)
  unfolding decode_refusal before_search
  found_room e =
      let b = first_passes (before_search loaded direction width lent) _ e in
      let t = test_passes 11 _ (rest_passes (11 unless le_z (negsuc 0) width) _ (rest_passes (direction_refusal direction) _ (rest_passes (book_refusal loaded) _ b))) in
      let r = both (leb (word_count direction) lent.steps) (leb (8 * word_count direction) lent.words) t in
      let s = leb-true (word_count direction) lent.steps r.0 in let w = leb-true (8 * word_count direction) lent.words r.1 in
      let f = answer_few (book_of loaded) direction width in let g = words_few (book_of loaded) (loaded_ranged loaded (first_passes (book_refusal loaded) _ b)) found in
      (omega arith, omega arith)

  pub steps_long : (steps : List Step) → lent.steps ≤ length steps → length (decoded_steps loaded direction width lent steps) ≡ length steps
  unfolding decoded_steps
  steps_long steps h = written_long (decode_refusal loaded direction width lent) found steps (λ e. let r = (found_room e).0 in omega arith)

  pub words_long : (words : List ℕ) → lent.words ≤ length words → length (decoded_words loaded direction width lent words) ≡ length words
  unfolding decoded_words
  words_long words h = written_long (decode_refusal loaded direction width lent) (target_words (book_of loaded) found) words (λ e. let r = (found_room e).1 in omega arith)

-- ════ on a direction's own places: 32 steps, 256 words and 9 numbers

module _ (loaded : List ℤ) (width : ℤ) (store : List ℤ) where
  pub steps_keep : (d : List ℕ) (steps : List Step) → length steps ≡ 32 → length (decoded_steps loaded d width (alone store) steps) ≡ 32
  steps_keep d steps e = steps_long loaded d width (alone store) steps (omega arith) ∙ e

  pub words_keep : (d : List ℕ) (words : List ℕ) → length words ≡ 256 → length (decoded_words loaded d width (alone store) words) ≡ 256
  words_keep d words e = words_long loaded d width (alone store) words (omega arith) ∙ e

pub answer_nine : (r : Reply Answer) → length (answer_numbers r) ≡ 9
answer_nine (done a) = refl
answer_nine (refused k) = refl
