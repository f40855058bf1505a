-- The search of the notes is an instance of search_theory: its laws hold, and the sequences that it follows to the last set are the valid derivations.
use Prim.Native.Nat.{ℕ, ◌*◌, ◌≤◌, ◌<◌}
use native.Mathlib.Omega.{arith}
use mathlib.Core.Path.{◌≡◌, refl, sym, ◌∙◌, ap}
use mathlib.Core.Bool.{Bool, true, false, ◌&&◌, false≢true}
use mathlib.Core.List.{List, [], ◌∷◌}
use borrow.Author.Tests.{eqb-true, eq-eqb}
use lib.Dec.{leb, eqb}
use lib.IntN.{ℤ, negsuc}
use lib.ListN.{length, length-replicate}
use Rattle.laws.specs.Integers.{Within}
use Rattle.laws.specs.Lists.{all, eq_list}
use Rattle.laws.proofs.Tests.{both, both_of}
use Rattle.laws.proofs.Lists.{eq_list_is, eq_list_refl, count_le}
use Rattle.laws.proofs.Bounds.{within_mono}
use Rattle.search_theory.specs.Search.{St}
use Rattle.search_theory.specs.Statements.{after, Allowed, Legal, Steady, Ranked, Unpruned}
use Rattle.search_theory.proofs.Bounds.{score_small}
use Rattle.search_theory.proofs.Lexical as Lexical
use Rattle.meaning.specs.Book.{Book}
use Rattle.meaning.specs.Direction.{word_count}
use Rattle.meaning.specs.Derivation.{fits, jump, is_valid, step_before}
use Rattle.meaning.specs.State.{Key, start, words_covered, eq_bit, is_equal, is_free, cover, may_extend, next_key, is_better, gain_bound}
use Rattle.meaning.specs.Search.{is_within, search}
use Rattle.meaning.specs.declared.Step.{Step}
use Rattle.meaning.proofs.Steps.{fits_facts, fits_listed}
use Rattle.meaning.proofs.Cover.{cover_length, cover_adds, all_ones}
use Rattle.meaning.proofs.Valid.{steps_pass, valid_passes}
use Rattle.meaning.proofs.Ranges.{Ranged}
use Rattle.meaning.proofs.Bounds.{gain_within}
use Rattle.meaning.proofs.Order.{step_weak, step_total}

-- ════ equality of keys is equality

bit_is : (a b : Bool) → eq_bit a b ≡ true → a ≡ b
bit_is true true e = refl
bit_is true false e = absurd (false≢true e)
bit_is false true e = absurd (false≢true e)
bit_is false false e = refl

bit_refl : (a : Bool) → eq_bit a a ≡ true
bit_refl true = refl
bit_refl false = refl

equal_is : (a b : Key) → is_equal a b ≡ true → a ≡ b
unfolding is_equal
equal_is a b e =
    let h = both (eqb a.word1 b.word1 && eqb a.word2 b.word2 && eq_list eq_bit a.covered b.covered) (eqb a.r b.r) e in
    let g = both (eqb a.word1 b.word1 && eqb a.word2 b.word2) (eq_list eq_bit a.covered b.covered) h.0 in
    let f = both (eqb a.word1 b.word1) (eqb a.word2 b.word2) g.0 in
    let p = eqb-true _ _ f.0 in
    let q = eqb-true _ _ f.1 in
    let c = eq_list_is eq_bit bit_is a.covered b.covered g.1 in
    let r = eqb-true _ _ h.1 in
    λ i. record { word1 = p i; word2 = q i; covered = c i; r = r i }

equal_refl : (a : Key) → is_equal a a ≡ true
unfolding is_equal
equal_refl a = both_of (both_of (both_of (eq-eqb a.word1 a.word1 refl) (eq-eqb a.word2 a.word2 refl)) (eq_list_refl eq_bit bit_refl a.covered)) (eq-eqb a.r a.r refl)

-- ════ the three parts of may-extend

pub may_fits : (book : Book) (direction : List ℕ) (k : Key) (step : Step) → may_extend book direction k step ≡ true → fits book direction step ≡ true
unfolding may_extend
may_fits book direction k step e = (both (fits book direction step) _ (both (fits book direction step && is_free step 1 k.covered) _ e).0).0

pub may_free : (book : Book) (direction : List ℕ) (k : Key) (step : Step) → may_extend book direction k step ≡ true → is_free step 1 k.covered ≡ true
unfolding may_extend
may_free book direction k step e = (both (fits book direction step) _ (both (fits book direction step && is_free step 1 k.covered) _ e).0).1

-- a step covers at least one word more
may_adds : (book : Book) (direction : List ℕ) (k : Key) (step : Step) → length k.covered ≡ word_count direction → may_extend book direction k step ≡ true
    → words_covered k < words_covered (next_key book k step)
unfolding words_covered next_key word_count
may_adds book direction k step n e =
    let h = fits_facts book direction step (may_fits book direction k step e) in
    let f = h.first_from in
    let t = h.first_to in
    let l = h.last_to in
    cover_adds step 1 k.covered (may_free book direction k step e) h.first_from h.first_to (omega arith)

module _ (book : Book) (direction : List ℕ) (width : ℤ) where
  -- a key has a bit for each word, whatever steps were taken
  after_length : (k : Key) (steps : List Step) → length (after (search book direction width) k steps).covered ≡ length k.covered
  unfolding after next_key
  after_length k [] = refl
  after_length k (step ∷ steps) = after_length (next_key book k step) steps ∙ cover_length step 1 k.covered

  pub start_length : length (start (word_count direction)).covered ≡ word_count direction
  unfolding start
  start_length = length-replicate (word_count direction) false

  pub legal_length : (q : St (search book direction width)) → Legal (search book direction width) q → length q.key.covered ≡ word_count direction
  legal_length q g = ap (λ (k : Key). length k.covered) g.key_is ∙ after_length (start (word_count direction)) q.steps ∙ start_length

  next_most : (k : Key) (step : Step) → length k.covered ≡ word_count direction → words_covered (next_key book k step) ≤ word_count direction
  unfolding words_covered next_key
  next_most k step n =
      let c : length (cover step 1 k.covered) ≡ length k.covered = cover_length step 1 k.covered in
      let h = count_le (λ bit. bit) (cover step 1 k.covered) in
      omega arith

  -- the laws of the theory
  pub steady : Steady (search book direction width)
  steady =
      record {
        same_eq = equal_is;
        same_refl = equal_refl;
        grows = λ q g p _ y. may_adds book direction q.key p (legal_length q g) y;
        bound = λ q g p _ _. next_most q.key p (legal_length q g);
      }

  pub ranked : Ranked (search book direction width)
  unfolding is_better
  ranked = Lexical.ranked (search book direction width) steady step_before step_weak step_total (λ _ _. refl)

  -- ════ the sequences that the search follows to the last set are the valid derivations

  -- from a key on: 16 to 19 pass exactly where each step may extend what came before, and every word is covered at the end
  pass_allowed : (k : Key) (steps : List Step) → steps_pass book direction k.covered k.r steps ≡ true
      → Allowed (search book direction width) k steps × (all (λ bit. bit) (after (search book direction width) k steps).covered ≡ true)
  unfolding steps_pass after next_key may_extend
  pass_allowed k [] e = (tt, e)
  pass_allowed k (s ∷ ss) e =
      let a = both (fits book direction s) _ e in
      let b = both (is_free s 1 k.covered) _ a.1 in
      let c = both (leb (jump k.r s) book.limit) _ b.1 in
      let r = pass_allowed (next_key book k s) ss c.1 in
      ((fits_listed book direction s a.0, both_of (both_of a.0 b.0) c.0, r.0), r.1)

  allowed_pass : (k : Key) (steps : List Step) → Allowed (search book direction width) k steps
      → all (λ bit. bit) (after (search book direction width) k steps).covered ≡ true → steps_pass book direction k.covered k.r steps ≡ true
  unfolding steps_pass after next_key may_extend
  allowed_pass k [] a e = e
  allowed_pass k (s ∷ ss) a e =
      let h = both (fits book direction s && is_free s 1 k.covered) _ a.1 in
      let g = both (fits book direction s) _ h.0 in
      both_of g.0 (both_of g.1 (both_of h.1 (allowed_pass (next_key book k s) ss a.2 e)))

  pub valid_allowed : (steps : List Step) → is_valid book direction steps ≡ true
      → Allowed (search book direction width) (start (word_count direction)) steps × (words_covered (after (search book direction width) (start (word_count direction)) steps) ≡ word_count direction)
  unfolding start words_covered
  valid_allowed steps e =
      let h = pass_allowed (start (word_count direction)) steps (valid_passes book direction steps ∙ e) in
      (h.0, (all_ones (after (search book direction width) (start (word_count direction)) steps).covered).0 h.1 ∙ after_length (start (word_count direction)) steps ∙ start_length)

  pub allowed_valid : (steps : List Step) → Allowed (search book direction width) (start (word_count direction)) steps
      → words_covered (after (search book direction width) (start (word_count direction)) steps) ≡ word_count direction → is_valid book direction steps ≡ true
  unfolding start words_covered
  allowed_valid steps a e =
      sym (valid_passes book direction steps)
      ∙ allowed_pass (start (word_count direction)) steps a
      ((all_ones (after (search book direction width) (start (word_count direction)) steps).covered).1 (e ∙ sym start_length ∙ sym (after_length (start (word_count direction)) steps)))

  -- ════ the bound: |score| ≤ 25,320,000 for each covered word

  module _ (R : Ranged book) where
    pub score_within : (q : St (search book direction width)) → Legal (search book direction width) q → Within (gain_bound * words_covered q.key) q.score
    score_within q g =
        within_mono (omega arith)
        (score_small (search book direction width) gain_bound (λ u _ p _ y. gain_within book R direction u.key p y) steady q g (words_covered q.key) (omega arith))

-- with pruning off the beam drops nothing
pub off_unpruned : (book : Book) (direction : List ℕ) → Unpruned (search book direction (negsuc 0))
unfolding Unpruned is_within
off_unpruned book direction = λ i h q m. refl
