-- The rows of a sheet, as they stand in a round's answers: nine numbers to a direction, of which the first is the answer, the second the score, and the
-- fourth how many target words there are.
use Rattle.std.specs.Prelude.{ℕ, ◌+◌, ◌*◌, ◌≤◌, ◌<◌, ◌≡◌, cond, List, [], map, ltb, ℤ, pos, length, get_or}
use Rattle.laws.specs.Integers.{Within, nat_of}
use Rattle.laws.specs.Lists.{numbers_from}
use Rattle.meaning.specs.State.{score_bound}
use Rattle.meaning.specs.Sheet.{Row, count_of, answer_line, printed}

-- number `place` of direction k, counted from 0
abbrev pub number_at : List ℤ → ℕ → ℕ → ℤ
number_at answers place k = get_or answers (9 * k + place) (pos 0)

abbrev pub row_at : List ℤ → ℕ → Row
row_at answers k = record { answer = nat_of (number_at answers 0 k); score = number_at answers 1 k; words = nat_of (number_at answers 3 k) }

unfoldable pub rows_in : List ℤ → ℕ → List Row
rows_in answers count = map (row_at answers) (numbers_from 0 count)

-- a row that a line has room for: an answer of the papers, a score, and the words of 32 phrases
pub record RowFits (row : Row) : Type 0 where
  pub answer : row.answer ≤ 34
  pub score : Within score_bound row.score
  pub words : row.words ≤ 256

-- the answers of a round of `count` directions
pub record Fits (answers : List ℤ) (count : ℕ) : Type 0 where
  pub few : count ≤ 64
  pub long : 9 * count ≤ length answers
  pub rows : (k : ℕ) → k < count → RowFits (row_at answers k)
  pub answer : (k : ℕ) → k < count → number_at answers 0 k ≡ pos (row_at answers k).answer
  pub words : (k : ℕ) → k < count → number_at answers 3 k ≡ pos (row_at answers k).words

-- the E line of an answer, where it occurred
abbrev pub count_line : List Row → ℕ → List ℕ
count_line rows answer = cond (ltb 0 (count_of rows answer)) (printed (answer_line rows answer)) []
