-- The word list, "whose k-th line spells word k, to 65,534 (of equal lines the first)".
use Rattle.std.specs.Prelude.{ℕ, suc, Bool, ◌||◌, cond, List, [], ◌∷◌, leb, take}
use Rattle.meaning.specs.Numerals.{newline, split}
use Rattle.arpa.specs.Lines.{eq_bytes}

-- "to 65,534"
abbrev pub spelled_most : ℕ
spelled_most = 65_534

-- its lines, each taken whole
unfoldable pub spellings : List ℕ → List (List ℕ)
spellings list = take spelled_most (split newline list)

-- the number of the first of the lines, which count from k on, that is the word; 0 where none is
unfoldable pub first_from : ℕ → List ℕ → List (List ℕ) → ℕ
first_from k word [] = 0
first_from k word (line ∷ lines) = cond (eq_bytes line word) k (first_from (suc k) word lines)

-- the number of a word by the word list, 0 where it is not in it
unfoldable pub spelled : List ℕ → List ℕ → ℕ
spelled list word = first_from 1 word (spellings list)

-- `<s>`
abbrev pub start_word : List ℕ
start_word = 60 ∷ 115 ∷ 62 ∷ []

-- "`<s>` is 0"; every other word is looked up
unfoldable pub word_number : List ℕ → List ℕ → ℕ
word_number list word = cond (eq_bytes word start_word) 0 (spelled list word)

-- `<s>`, or a word of the word list
unfoldable pub is_known : List ℕ → List ℕ → Bool
is_known list word = eq_bytes word start_word || leb 1 (spelled list word)
