-- The n-grams of the lines of a book that were seen, as records of the one list.
use Rattle.std.specs.Prelude.{ℕ, ◌+◌, ◌&&◌, cond, List, [], ◌∷◌, ℤ}
use Rattle.laws.specs.Bits.{one}
use Rattle.meaning.specs.Book.{is_gram}
use Rattle.ngrams.specs.Grams.{put_record, has_place}

-- one line more, after n lines of n-grams: what passes the number that question 5 allows is not noted, nor what the list has no place for
unfoldable pub with_gram : List ℕ → ℕ → List ℤ → List ℕ
with_gram index n line = cond (is_gram line && has_place index n) (put_record index n line) index

-- the lines from the first on
unfoldable pub grams_from : List ℕ → ℕ → List (List ℤ) → List ℕ
grams_from index n [] = index
grams_from index n (line ∷ lines) = grams_from (with_gram index n line) (n + one (is_gram line)) lines
