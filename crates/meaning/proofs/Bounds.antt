-- No phrase's target words add more than 24,000,000 to a score on either side of 0, and no step more than 25,320,000.
use Prim.Native.Nat.{ℕ, ◌+◌, ◌*◌, ◌≤◌}
use native.Mathlib.Omega.{arith}
use mathlib.Core.Path.{◌≡◌, refl}
use mathlib.Core.Bool.{true, ◌&&◌}
use mathlib.Core.List.{List, [], ◌∷◌, Memᴰ}
use borrow.Author.Tests.{leb-true}
use lib.Dec.{eqb}
use lib.IntN.{ℤ, pos}
use lib.ListN.{length}
use Rattle.laws.specs.Integers.{Within}
use Rattle.laws.specs.Lists.{eq_list}
use Rattle.laws.proofs.Tests.{if_ind, both}
use Rattle.laws.proofs.Bounds.{within_+, within_*, within_mono, within_pos}
use Rattle.meaning.specs.Bounds.{score_most, penalty_most, triple_bound, words_bound}
use Rattle.meaning.specs.Book.{Book, Gram}
use Rattle.meaning.specs.Derivation.{listed, score_or, weight, word_score, pair_score, backed_off, triple_score, words_score, entry_at, fits, jump}
use Rattle.meaning.specs.State.{Key, is_free, may_extend, gain, gain_bound}
use Rattle.meaning.specs.declared.Step.{Step}
use Rattle.meaning.proofs.Ranges.{Ranged}

listed_within : (B : ℕ) (number : Gram → ℤ) (other : ℤ) (words : List ℕ) (gs : List Gram) → Within B other → ((g : Gram) → Memᴰ g gs → Within B (number g)) → Within B (listed number other words gs)
listed_within B number other words [] h each = h
listed_within B number other words (g ∷ gs) h each =
    if_ind (eq_list eqb g.words words) (Within B) (λ _. each g (Memᴰ.head refl)) (λ _. listed_within B number other words gs h (λ x m. each x (Memᴰ.tail m)))

-- ════ the language model: its score of an unseen word and its n-grams are in their ranges

module _ (u : ℤ) (grams : List Gram) (unseen_within : Within score_most u) (gram_within : (g : Gram) → Memᴰ g grams → Within score_most g.s × Within score_most g.k) where
  pub score_or_lem : (B : ℕ) (other : ℤ) (words : List ℕ) → score_most ≤ B → Within B other → Within B (score_or grams other words)
  score_or_lem B other words l h = listed_within B (λ g. g.s) other words grams h (λ g m. within_mono l (gram_within g m).0)

  pub weight_within : (words : List ℕ) → Within score_most (weight grams words)
  weight_within words = listed_within score_most (λ g. g.k) (pos 0) words grams (omega arith) (λ g m. (gram_within g m).1)

  pub word_within : (y : ℕ) → Within score_most (word_score u grams y)
  unfolding word_score
  word_within y = score_or_lem score_most u (y ∷ []) (omega arith) unseen_within

  pub pair_within : (w y : ℕ) → Within (2 * score_most) (pair_score u grams w y)
  unfolding pair_score
  pair_within w y = score_or_lem (2 * score_most) _ (w ∷ y ∷ []) (omega arith) (within_mono (omega arith) (within_+ (weight_within (w ∷ [])) (word_within y)))

  pub backed_within : (v w y : ℕ) → Within triple_bound (backed_off u grams v w y)
  unfolding backed_off
  backed_within v w y = score_or_lem triple_bound _ (v ∷ w ∷ y ∷ []) (omega arith) (within_mono (omega arith) (within_+ (weight_within (v ∷ w ∷ [])) (pair_within w y)))

-- ════ a step

module _ (book : Book) (R : Ranged book) where
  pub triple_within : (v w y : ℕ) → Within triple_bound (triple_score book v w y)
  unfolding triple_score
  triple_within v w y = backed_within book.unseen book.grams R.unseen_within R.gram_within v w y

  pub words_within : (v w : ℕ) (ys : List ℕ) → Within (length ys * triple_bound) (words_score book v w ys)
  unfolding words_score
  words_within v w [] = omega arith
  words_within v w (y ∷ ys) = within_mono (omega arith) (within_+ (triple_within v w y) (words_within w y ys))

  -- what the triples that a phrase's target words end, or the first of them, can add after any two words: they are at most 8
  pub phrase_within : (v w : ℕ) (ys : List ℕ) → length ys ≤ 8 → Within words_bound (words_score book v w ys)
  phrase_within v w ys few = within_mono (omega arith) (words_within v w ys)

  -- a step that may extend a state jumps at most d, which is at most 32
  pub gain_within : (direction : List ℕ) (k : Key) (step : Step) → may_extend book direction k step ≡ true → Within gain_bound (gain book k step)
  unfolding may_extend gain
  gain_within direction k step e =
      let near : jump k.r step ≤ book.limit = leb-true _ _ (both (fits book direction step && is_free step 1 k.covered) _ e).1 in
      let few : jump k.r step ≤ 32 = (let d = R.limit_to in omega arith) in
      within_+ {A = score_most + penalty_most * 32} {B = words_bound}
      (within_+ (R.g_within step.entry) (within_* R.eta_within (within_mono few (within_pos (jump k.r step)))))
      (phrase_within k.word1 k.word2 (entry_at book step.entry).target (R.target_to step.entry))
