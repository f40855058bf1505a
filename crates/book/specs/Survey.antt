-- What is known of the lines of a book that were seen, and questions 3 to 5 asked of that.
use Rattle.std.specs.Prelude.{ℕ, suc, ◌+◌, ◌-◌, ◌≤◌, ◌≡◌, Bool, true, false, ◌&&◌, cond, List, [], ◌∷◌, eqb, leb, ℤ, length, get_or, set, replicate}
use Rattle.laws.specs.Lists.{all, numbers_from}
use Rattle.meaning.specs.Questions.{◌unless◌, ◌orelse◌}
use Rattle.meaning.specs.Book.{kinds, is_b, is_in_range}
use Rattle.lines.specs.Kinds.{kind_of, most_of}
use Rattle.book.specs.declared.survey.Survey.{Survey}

-- ════ the lines together

-- no line was seen
abbrev pub fresh : Survey
fresh = record { lines = 0; headed = false; ranged = true }

-- one line more
unfoldable pub with_line : Survey → List ℤ → Survey
with_line acc line = record {
  lines = acc.lines + 1;
  headed = cond (eqb acc.lines 0) (is_b line) acc.headed;
  ranged = acc.ranged && is_in_range line;
}

-- the lines from the first on
unfoldable pub survey_from : Survey → List (List ℤ) → Survey
survey_from acc [] = acc
survey_from acc (line ∷ lines) = survey_from (with_line acc line) lines

-- ════ how many there are of each kind: number k of the tally, for row k of the table; number 0 is for what is of no kind

-- how long it is
abbrev pub tally_size : ℕ
tally_size = suc (length kinds)

-- no line was seen
abbrev pub no_tally : List ℕ
no_tally = replicate tally_size 0

-- one line more
unfoldable pub with_kind : List ℕ → List ℤ → List ℕ
with_kind tally line = set tally (kind_of line) (get_or tally (kind_of line) 0 + 1)

-- the lines from the first on
unfoldable pub tally_from : List ℕ → List (List ℤ) → List ℕ
tally_from tally [] = tally
tally_from tally (line ∷ lines) = tally_from (with_kind tally line) lines

-- how many list a pair or a word, U and D lines, and how many an n-gram
abbrev pub shorter_count : List ℕ → ℕ
shorter_count tally = get_or tally 4 0 + get_or tally 5 0

abbrev pub gram_count : List ℕ → ℕ
gram_count tally = get_or tally 3 0 + shorter_count tally

-- there are no more of kind k than its row allows
abbrev pub is_few : List ℕ → ℕ → Bool
is_few tally k = leb (get_or tally k 0) (most_of k)

-- of each kind from the second row on
abbrev pub are_all_few : List ℕ → Bool
are_all_few tally = all (is_few tally) (numbers_from 2 (length kinds - 1))

-- how many lines there may be before three counts added up could pass their type: less than a third of 2 ^ 64
abbrev pub lines_most : ℕ
lines_most = 6_000_000_000_000_000_000

-- ════ the questions

-- the first of questions 3 to 5 that the lines do not pass, or 0
unfoldable pub survey_refusal : Survey → List ℕ → ℕ
survey_refusal s tally =
    3 unless (s.headed && eqb (get_or tally 1 0) 1)
    orelse 4 unless s.ranged
    orelse 5 unless are_all_few tally

-- no count passes n, and the tally has a number for each row and one for no kind
pub record Few (s : Survey) (tally : List ℕ) (n : ℕ) : Type 0 where
  pub few_lines : s.lines ≤ n
  pub few_each : (k : ℕ) → get_or tally k 0 ≤ n
  pub each_kind : length tally ≡ tally_size
