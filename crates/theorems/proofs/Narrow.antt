-- Ticket 4, "the sum of triple scores inside one phrase is kept in 32 bits; at most 24,000,000 in size, it fits": of any phrase of any book that the checks
-- pass, after any two words (`phrase_sum`, `phrase_fits`), and so of its first words alone, which the code's sum comes to on its way. The bound is not
-- reached: a pair whose weight is added is listed, and the word that it ends has that much less. The sum is never more than 17,000,000 (`phrase_most`),
-- which the cases of `try_cases` reach.
use Prim.Native.Nat.{ℕ, ◌+◌, ◌*◌, ◌-◌, ◌≤◌}
use native.Mathlib.Omega.{arith}
use mathlib.Core.Path.{◌≡◌, refl}
use mathlib.Core.Bool.{Bool, true, false}
use mathlib.Core.List.{List, [], ◌∷◌}
use lib.IntN.{ℤ, pos, ◌+ℤ◌}
use lib.ListN.{length, take, length-take}
use mir.Syntax.{w32}
use mir.Val.{SFits}
use Rattle.laws.specs.Integers.{Within}
use Rattle.laws.proofs.Tests.{by_test}
use Rattle.laws.proofs.Bounds.{within_+, within_mono, within_fits}
use Rattle.meaning.specs.Bounds.{score_most, words_bound}
use Rattle.meaning.specs.Book.{Book, book_refusal, book_of}
use Rattle.meaning.specs.Derivation.{is_listed, weight, word_score, pair_score, backed_off, triple_score, words_score, entry_at}
use Rattle.meaning.proofs.Judging.{listed_else, listed_same}
use Rattle.meaning.proofs.Ranges.{Ranged, loaded_ranged}
use Rattle.meaning.proofs.Bounds.{score_or_lem, weight_within, pair_within, phrase_within}

pub bound_is : words_bound ≡ 24_000_000
bound_is = refl

-- ════ it fits

module _ (loaded : List ℤ) (passed : book_refusal loaded ≡ 0) (k v w j : ℕ) where
  -- the first j target words of phrase k: from 8 on all of them
  abbrev pub first_words : List ℕ
  first_words = take j (entry_at (book_of loaded) k).target

  pub phrase_sum : Within words_bound (words_score (book_of loaded) v w first_words)
  phrase_sum =
      let R = loaded_ranged loaded passed in
      let few : length (entry_at (book_of loaded) k).target ≤ 8 = R.target_to k in
      let part = length-take j (entry_at (book_of loaded) k).target in
      phrase_within (book_of loaded) R v w first_words (omega arith)

  pub phrase_fits : SFits w32 (words_score (book_of loaded) v w first_words)
  phrase_fits = within_fits w32 phrase_sum (omega arith)

-- ════ the most

-- what the weight of an n-gram can be: 0 where it is not listed
abbrev weight_most : Bool → ℕ
weight_most true = score_most
weight_most false = 0

weight_few : (b : Bool) → weight_most b ≤ score_most
weight_few true = omega arith
weight_few false = omega arith

module _ (book : Book) (R : Ranged book) where
  abbrev listed : ℕ → ℕ → Bool
  listed v w = is_listed book.grams (v ∷ w ∷ [])

  weight_most_lem : (v w : ℕ) → Within (weight_most (listed v w)) (weight book.grams (v ∷ w ∷ []))
  weight_most_lem v w =
      by_test (listed v w)
      (λ t. rw t (weight_within book.unseen book.grams R.unseen_within R.gram_within (v ∷ w ∷ [])))
      (λ f. rw (f, listed_else (λ g. g.k) (v ∷ w ∷ []) (pos 0) book.grams f) (omega arith))

  -- a pair that is listed has no weight of a word
  pair_most : (w y : ℕ) → Within (2 * score_most - weight_most (listed w y)) (pair_score book.unseen book.grams w y)
  unfolding pair_score
  pair_most w y =
      by_test (listed w y)
      (λ t. rw (t, listed_same (λ g. g.s) (w ∷ y ∷ []) (weight book.grams (w ∷ []) +ℤ word_score book.unseen book.grams y) (pos 0) book.grams t) (score_or_lem book.unseen book.grams R.unseen_within R.gram_within score_most (pos 0) (w ∷ y ∷ []) (omega arith) (omega arith)))
      (λ f. rw f (pair_within book.unseen book.grams R.unseen_within R.gram_within w y))

  -- so a word's score has room for the weight of the pair before it, less the weight of the pair that it ends
  triple_most : (v w y : ℕ) → Within (weight_most (listed v w) + (2 * score_most - weight_most (listed w y))) (triple_score book v w y)
  unfolding triple_score backed_off
  triple_most v w y =
      let few = weight_few (listed w y) in
      score_or_lem book.unseen book.grams R.unseen_within R.gram_within _ _ (v ∷ w ∷ y ∷ []) (omega arith) (within_+ (weight_most_lem v w) (pair_most w y))

  words_most : (v w : ℕ) (ys : List ℕ) → Within (weight_most (listed v w) + length ys * (2 * score_most)) (words_score book v w ys)
  unfolding words_score
  words_most v w [] = omega arith
  words_most v w (y ∷ ys) = let few = weight_few (listed w y) in within_mono (omega arith) (within_+ (triple_most v w y) (words_most w y ys))

pub phrase_most : (loaded : List ℤ) → book_refusal loaded ≡ 0 → (k v w : ℕ) → Within 17_000_000 (words_score (book_of loaded) v w (entry_at (book_of loaded) k).target)
phrase_most loaded passed k v w =
    let book = book_of loaded in
    let R = loaded_ranged loaded passed in
    let few : length (entry_at book k).target ≤ 8 = R.target_to k in
    let weight = weight_few (listed book R v w) in
    within_mono (omega arith) (words_most book R v w (entry_at book k).target)
