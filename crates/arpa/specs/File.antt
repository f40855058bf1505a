-- The shape of an ARPA text, question 23, and its n-grams. A line is the list of its fields; blank lines are passed over.
use Rattle.std.specs.Prelude.{ℕ, zero, suc, ◌+◌, Bool, true, false, ◌&&◌, cond, List, [], ◌∷◌, ◌++◌, map, eqb, leb, ltb, ℤ, pos, length, take, drop}
use Rattle.laws.specs.Lists.{all, count, eq_list}
use Rattle.meaning.specs.Numerals.{digits_value}
use Rattle.arpa.specs.Lines.{eq_bytes, filled_lines}
use Rattle.arpa.specs.Values.{are_digits, is_value, thousandths}

-- ════ the words and marks of a file

-- `\data\`
abbrev pub data_mark : List ℕ
data_mark = 92 ∷ 100 ∷ 97 ∷ 116 ∷ 97 ∷ 92 ∷ []

-- `\end\`
abbrev pub end_mark : List ℕ
end_mark = 92 ∷ 101 ∷ 110 ∷ 100 ∷ 92 ∷ []

-- `\N-grams:`
abbrev pub grams_mark : ℕ → List ℕ
grams_mark n = 92 ∷ (48 + n) ∷ 45 ∷ 103 ∷ 114 ∷ 97 ∷ 109 ∷ 115 ∷ 58 ∷ []

-- `ngram`
abbrev pub ngram_word : List ℕ
ngram_word = 110 ∷ 103 ∷ 114 ∷ 97 ∷ 109 ∷ []

-- `<unk>`
abbrev pub unknown_word : List ℕ
unknown_word = 60 ∷ 117 ∷ 110 ∷ 107 ∷ 62 ∷ []

-- the mark stands on the line, alone
abbrev pub is_mark : List ℕ → List (List ℕ) → Bool
is_mark mark [] = false
is_mark mark (field ∷ []) = eq_bytes field mark
is_mark mark (field ∷ next ∷ fields) = false

-- ════ `\data\` and the counts

-- "all outside `\data\` to `\end\`" is "passed over": the lines behind the first `\data\`
unfoldable pub behind_data : List (List (List ℕ)) → List (List (List ℕ))
behind_data [] = []
behind_data (line ∷ lines) = cond (is_mark data_mark line) lines (behind_data lines)

-- `N=M`, M in digits
abbrev pub is_count : ℕ → List ℕ → Bool
is_count n [] = false
is_count n (digit ∷ []) = false
is_count n (digit ∷ sign ∷ digits) = eqb digit (48 + n) && eqb sign 61 && are_digits digits

-- `ngram N=M`
abbrev pub is_count_line : ℕ → List (List ℕ) → Bool
is_count_line n [] = false
is_count_line n (word ∷ []) = false
is_count_line n (word ∷ field ∷ []) = eq_bytes word ngram_word && is_count n field
is_count_line n (word ∷ field ∷ next ∷ fields) = false

-- its M
abbrev pub count_of : List (List ℕ) → ℕ
count_of [] = 0
count_of (word ∷ []) = 0
count_of (word ∷ field ∷ fields) = digits_value 0 (drop 2 field)

-- the counts that stand there in turn for n, n + 1, .., at most so many
unfoldable pub counts_from : ℕ → ℕ → List (List (List ℕ)) → List ℕ
counts_from zero n lines = []
counts_from (suc most) n [] = []
counts_from (suc most) n (line ∷ lines) = cond (is_count_line n line) (count_of line ∷ counts_from most (suc n) lines) []

-- "`ngram N=M` for N from 1 to at most 3"
abbrev pub highest_order : ℕ
highest_order = 3

-- ════ the n-grams

-- behind an n-gram's words "below the top order, at most one more value"
abbrev pub is_weight_part : Bool → List (List ℕ) → Bool
is_weight_part isBelow [] = true
is_weight_part isBelow (weight ∷ []) = isBelow && is_value weight
is_weight_part isBelow (weight ∷ next ∷ fields) = false

-- "a value, N words and, below the top order, at most one more value"
unfoldable pub is_gram_line : ℕ → ℕ → List (List ℕ) → Bool
is_gram_line top n [] = false
is_gram_line top n (value ∷ fields) = is_value value && leb n (length fields) && is_weight_part (ltb n top) (drop n fields)

-- "for each in turn `\N-grams:` and M lines .. and `\end\`": the sections of orders n, n + 1, .. with these counts
unfoldable pub are_sections : ℕ → ℕ → List ℕ → List (List (List ℕ)) → Bool
are_sections top n [] [] = false
are_sections top n [] (line ∷ lines) = is_mark end_mark line
are_sections top n (m ∷ counts) [] = false
are_sections top n (m ∷ counts) (line ∷ lines) =
    is_mark (grams_mark n) line
    && leb m (length lines)
    && all (is_gram_line top n) (take m lines)
    && are_sections top (suc n) counts (drop m lines)

-- an n-gram as the file has it: its words as they are spelled, and its value and its weight, rounded
pub record Ngram : Type 0 where
  pub words : List (List ℕ)
  pub score : ℤ
  pub weight : ℤ

-- "a missing weight is 0"
abbrev pub weight_of : List (List ℕ) → ℤ
weight_of [] = pos 0
weight_of (weight ∷ fields) = thousandths weight

-- that of a line of order n
unfoldable pub ngram_of : ℕ → List (List ℕ) → Ngram
ngram_of n [] = record { words = []; score = pos 0; weight = pos 0 }
ngram_of n (value ∷ fields) = record { words = take n fields; score = thousandths value; weight = weight_of (drop n fields) }

-- those of the sections of orders n, n + 1, ..
unfoldable pub ngrams_from : ℕ → List ℕ → List (List (List ℕ)) → List Ngram
ngrams_from n [] lines = []
ngrams_from n (m ∷ counts) lines = map (ngram_of n) (take m (drop 1 lines)) ++ ngrams_from (suc n) counts (drop m (drop 1 lines))

-- ════ the text

-- the lines behind `\data\`
unfoldable pub body_of : List ℕ → List (List (List ℕ))
body_of text = behind_data (filled_lines text)

-- the counts of its orders, from 1 on
unfoldable pub counts_of : List ℕ → List ℕ
counts_of text = counts_from highest_order 1 (body_of text)

-- the lines behind them
abbrev pub sections_of : List ℕ → List (List (List ℕ))
sections_of text = drop (length (counts_of text)) (body_of text)

-- all n-grams, "in the file's order"
unfoldable pub ngrams_of : List ℕ → List Ngram
ngrams_of text = ngrams_from 1 (counts_of text) (sections_of text)

-- "`<unk>` alone"
abbrev pub is_unknown : Ngram → Bool
is_unknown g = eq_list eq_bytes g.words (unknown_word ∷ [])

-- `\data\`, the counts, the sections and `\end\` stand there
unfoldable pub is_shaped : List ℕ → Bool
is_shaped text = leb 1 (length (counts_of text)) && are_sections (length (counts_of text)) 1 (counts_of text) (sections_of text)

-- question 23: "when the text is not `\data\`, .. and `\end\`, lists `<unk>` alone twice, or has a value that is not digits, .."
unfoldable pub is_arpa : List ℕ → Bool
is_arpa text = is_shaped text && leb (count is_unknown (ngrams_of text)) 1
