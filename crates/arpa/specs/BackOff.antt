-- ARPA's back-off rule over a file's n-grams, by their spelled words: a listed n-gram has its own value; one that is not has that of the n-gram without
-- its first word, and where the words before its last are listed, their weight is added.
use Rattle.std.specs.Prelude.{ℕ, cond, List, [], ◌∷◌, ℤ, pos, ◌+ℤ◌}
use Rattle.laws.specs.Lists.{eq_list}
use Rattle.arpa.specs.Lines.{eq_bytes}
use Rattle.arpa.specs.File.{Ngram}

-- a number of the first n-gram listed that has these words, or `other` where none has them
abbrev pub of_listed : (Ngram → ℤ) → ℤ → List (List ℕ) → List Ngram → ℤ
of_listed number other words [] = other
of_listed number other words (g ∷ gs) = cond (eq_list eq_bytes g.words words) (number g) (of_listed number other words gs)

module _ (u : ℤ) (grams : List Ngram) where
  -- the back-off weight of listed words; nothing is added for others
  abbrev pub back_off : List (List ℕ) → ℤ
  back_off words = of_listed (λ g. g.weight) (pos 0) words grams

  -- "with u for a word that has no unigram"
  unfoldable pub unigram : List ℕ → ℤ
  unigram y = of_listed (λ g. g.score) u (y ∷ []) grams

  unfoldable pub bigram : List ℕ → List ℕ → ℤ
  bigram w y = of_listed (λ g. g.score) (back_off (w ∷ []) +ℤ unigram y) (w ∷ y ∷ []) grams

  unfoldable pub trigram : List ℕ → List ℕ → List ℕ → ℤ
  trigram v w y = of_listed (λ g. g.score) (back_off (v ∷ w ∷ []) +ℤ bigram w y) (v ∷ w ∷ y ∷ []) grams
