-- Ticket 8: the round sheet. "Homes want a sheet for the round"; the call decodes the round "and puts the sheet in lent bytes".
use Rattle.std.specs.Prelude.{ℕ, zero, suc, ◌*◌, max, ◌&&◌, cond, List, [], ◌∷◌, ◌++◌, map, eqb, leb, ltb, ℤ, pos, negsuc, length}
use Rattle.laws.specs.Lists.{concat, count, keep, numbers_from, sumℤ}
use Rattle.meaning.specs.Questions.{◌unless◌, ◌orelse◌, within}
use Rattle.meaning.specs.Numerals.{newline, before}
use Rattle.meaning.specs.Book.{loaded_of, read_refusal}
use Rattle.meaning.specs.Direction.{direction_of, read_direction_refusal}
use Rattle.meaning.specs.Reply.{Reply, refused, done, reply, Lent, decode}
use Rattle.meaning.specs.Render.{printed_line, printed_refusal}
use Rattle.meaning.specs.Round.{directions_of, round_refusal}
use Rattle.meaning.specs.declared.Answer.{Answer}

-- ════ the lines of a sheet

-- what is said of a direction: its answer, its score, and how many target words it has
pub record Row : Type 0 where
  pub answer : ℕ
  pub score : ℤ
  pub words : ℕ

-- "answer 0 for success and score and words 0 on refusal"
abbrev pub row_of : Reply Answer → Row
row_of (done a) = record { answer = 0; score = a.score; words = a.words }
row_of (refused k) = record { answer = k; score = pos 0; words = 0 }

-- a line is its letter and its numbers
pub record Line : Type 0 where
  pub letter : ℕ
  pub numbers : List ℤ

-- "one line per direction, `N,number,answer,score,words`"
abbrev pub direction_line : ℕ → Row → Line
direction_line number row = record { letter = 78; numbers = pos number ∷ pos row.answer ∷ row.score ∷ pos row.words ∷ [] }

-- the directions are numbered from `number` on
abbrev pub direction_lines : ℕ → List Row → List Line
direction_lines number [] = []
direction_lines number (row ∷ rows) = direction_line number row ∷ direction_lines (suc number) rows

-- "Each count is that of the N lines with its answer"
unfoldable pub count_of : List Row → ℕ → ℕ
count_of rows answer = count (λ row. eqb row.answer answer) rows

abbrev pub largest : List Row → ℕ
largest [] = 0
largest (row ∷ rows) = max row.answer (largest rows)

-- "each answer that occurred, rising"
unfoldable pub occurred : List Row → List ℕ
occurred rows = keep (λ answer. ltb 0 (count_of rows answer)) (numbers_from 0 (suc (largest rows)))

-- "`E,answer,count`"
abbrev pub answer_line : List Row → ℕ → Line
answer_line rows answer = record { letter = 69; numbers = pos answer ∷ pos (count_of rows answer) ∷ [] }

-- "`Z,directions,words,score`"; "Z gives their number and the sums of their words and scores"
abbrev pub total_line : List Row → Line
total_line rows = record {
  letter = 90;
  numbers = pos (length rows) ∷ sumℤ (map (λ row. pos row.words) rows) ∷ sumℤ (map (λ row. row.score) rows) ∷ [];
}

-- the N lines, "then" the E lines, "then" the Z line
unfoldable pub sheet_lines : List Row → List Line
sheet_lines rows = direction_lines 1 rows ++ map (answer_line rows) (occurred rows) ++ (total_line rows ∷ [])

-- its bytes; a line ends in byte 10
abbrev pub printed : Line → List ℕ
printed line = printed_line line.letter line.numbers

unfoldable pub sheet_of : List Row → List ℕ
sheet_of rows = concat (map printed (sheet_lines rows))

-- ════ the call

-- what the round says of each direction: ticket 7, "decoded alone with the same store and width"
unfoldable pub rows_of : List ℤ → List (List ℕ) → ℤ → ℕ → List Row
rows_of loaded ds width store = map (λ d. row_of (decode loaded d width (record { steps = 32; words = 256; store = store }))) ds

-- "fewer than 2,048 bytes are 7, after Ticket 7's 12"; `answers` and `sheet` are lengths of lent lists
unfoldable pub sheet_refusal : List ℤ → List ℕ → List ℕ → Lent → ℕ → ℕ → ℕ
sheet_refusal loaded directions ends lent answers sheet =
    round_refusal loaded directions ends lent answers
    orelse 7 unless leb 2_048 sheet

-- "The call decodes the round and puts the sheet in lent bytes": these
unfoldable pub round_sheet : List ℤ → List ℕ → List ℕ → ℤ → ℕ → List ℕ
round_sheet loaded directions ends width store = sheet_of (rows_of loaded (directions_of directions ends) width store)

-- "reporting its length"
unfoldable pub sheet_reply : List ℤ → List ℕ → List ℕ → ℤ → Lent → ℕ → ℕ → Reply ℕ
sheet_reply loaded directions ends width lent answers sheet =
    reply (sheet_refusal loaded directions ends lent answers sheet) (length (round_sheet loaded directions ends width lent.store))

-- ════ the program `round`

-- the lines of standard input, each with its byte 10; what stands behind the last byte 10 is a line too
unfoldable pub direction_texts : List ℕ → List (List ℕ)
direction_texts [] = []
direction_texts (b ∷ text) = cond (eqb b newline) ((b ∷ []) ∷ direction_texts text) (before b (direction_texts text))

-- the questions of a direction's text, of each in turn
abbrev pub texts_refusal : List (List ℕ) → ℕ
texts_refusal [] = 0
texts_refusal (text ∷ texts) = read_direction_refusal text (length (direction_of text)) orelse texts_refusal texts

-- 7 for more bytes than the program takes, the book's questions, 26, and the directions'
unfoldable pub round_input_refusal : List ℕ → List ℕ → ℕ
round_input_refusal book_text text =
    7 unless (leb (length book_text) 8_192 && leb (length text) 32_768)
    orelse read_refusal book_text (length (loaded_of book_text))
    orelse 26 unless within 1 64 (length (direction_texts text))
    orelse texts_refusal (direction_texts text)

-- pruning is off, and the store has 512 states
abbrev pub printed_round_after : ℕ → List ℕ → List ℕ → List ℕ
printed_round_after zero book_text text = sheet_of (rows_of (loaded_of book_text) (map direction_of (direction_texts text)) (negsuc 0) (8 * 512))
printed_round_after (suc k) book_text text = printed_refusal (suc k)

-- what the program writes
unfoldable pub printed_round : List ℕ → List ℕ → List ℕ
printed_round book_text text = printed_round_after (round_input_refusal book_text text) book_text text
