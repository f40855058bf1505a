-- The language model as code has it: records in a list, and three numbers.
use Rattle.std.specs.Prelude.{ℕ, ◌≤◌, ◌≡◌, Option, option_map, unwrap_or, ℤ, pos, ◌+ℤ◌}
use mathlib.Core.List.{List, [], ◌∷◌, Memᴰ}
use Rattle.laws.specs.Integers.{Within}
use Rattle.meaning.specs.Bounds.{score_most}
use Rattle.meaning.specs.Book.{Gram}
use Rattle.meaning.specs.Derivation.{weight, word_score, pair_score}
use Rattle.ngrams.specs.declared.Key.{Key}
use Rattle.ngrams.specs.Grams.{score_at, weight_at, words_of, key_of, latest_with, grams_in, Listing}
use Rattle.language.specs.declared.LanguageModel.{LanguageModel}

-- the score of the latest of the first n records that has the words, if one has, and its weight, or 0
unfoldable pub latest_score : List ℕ → ℕ → Key → Option ℤ
latest_score index n key = option_map (score_at index) (latest_with index key n)

unfoldable pub latest_weight : List ℕ → ℕ → Key → ℤ
latest_weight index n key = unwrap_or (option_map (weight_at index) (latest_with index key n)) (pos 0)

-- an n-gram that is not listed scores the weight of its words without the last, and the score of its words without the first; a word scores u
unfoldable pub unlisted_score : ℤ → List Gram → List ℕ → ℤ
unlisted_score u grams [] = u
unlisted_score u grams (y ∷ []) = u
unlisted_score u grams (w ∷ y ∷ []) = weight grams (w ∷ []) +ℤ word_score u grams y
unlisted_score u grams (v ∷ w ∷ y ∷ []) = weight grams (v ∷ w ∷ []) +ℤ pair_score u grams w y
unlisted_score u grams (a ∷ b ∷ c ∷ d ∷ words) = u

-- the key of two or three words
pub record Shortens (key : Key) : Type 0 where
  pub padded : key ≡ key_of (words_of key)
  pub some : 2 ≤ key.order

-- the records are different n-grams, and every score and weight is in its range
pub record IsModel (index : List ℕ) (m : LanguageModel) : Type 0 where
  pub listing : Listing index m.count m.shorter
  pub unseen_within : Within score_most m.unseen
  pub grams_within : (g : Gram) → Memᴰ g (grams_in index m.count) → Within score_most g.s × Within score_most g.k
