-- The direction: its text, and questions 7 to 10.
use Rattle.std.specs.Prelude.{ℕ, Bool, false, ◌&&◌, List, [], ◌∷◌, map, leb, ℤ, pos, length}
use Rattle.laws.specs.Integers.{nat_of}
use Rattle.laws.specs.Lists.{all, is_empty, concat}
use Rattle.meaning.specs.Questions.{◌unless◌, ◌orelse◌, within}
use Rattle.meaning.specs.Numerals.{lines_of, is_ended, is_number, value_of}
use Rattle.meaning.specs.Book.{is_word}

abbrev pub is_one_line_of_numbers : List (List (List ℕ)) → Bool
is_one_line_of_numbers [] = false
is_one_line_of_numbers (line ∷ lines) = is_empty lines && all is_number line

-- question 8: "Is the text one line, ended by byte 10, of one or more such numbers parted by commas?"
unfoldable pub is_direction_text : List ℕ → Bool
is_direction_text text = is_ended text && is_one_line_of_numbers (lines_of text)

-- the numbers of a direction's text
unfoldable pub direction_numbers : List ℕ → List ℤ
direction_numbers text = map value_of (concat (lines_of text))

-- question 10, of one number: "Is each 1 to 65,535?"
abbrev pub is_direction_word : ℤ → Bool
is_direction_word z = is_word z

-- questions 9, "Are there 1 to 32?", and 10
unfoldable pub numbers_refusal : List ℤ → ℕ
numbers_refusal numbers =
    9 unless within 1 32 (length numbers)
    orelse 10 unless all is_direction_word numbers

-- "A direction as numbers: 9, 10."
unfoldable pub direction_refusal : List ℕ → ℕ
direction_refusal direction = numbers_refusal (map pos direction)

-- "Reading a direction: 8, 9, 10, 7." `places` is the length of the lent list
unfoldable pub read_direction_refusal : List ℕ → ℕ → ℕ
read_direction_refusal text places =
    8 unless is_direction_text text
    orelse numbers_refusal (direction_numbers text)
    orelse 7 unless leb (length (direction_numbers text)) places

-- the words that reading writes
unfoldable pub direction_of : List ℕ → List ℕ
direction_of text = map nat_of (direction_numbers text)

-- "n the direction's words"
unfoldable pub word_count : List ℕ → ℕ
word_count direction = length direction
