-- Lines, fields and decimal numbers in a text of bytes.
use Rattle.std.specs.Prelude.{ℕ, ◌+◌, ◌*◌, ◌-◌, Bool, false, not, ◌&&◌, cond, eqb, leb, ℤ, pos, neg_ℤ, length}
use mathlib.Core.List.{List, [], ◌∷◌, map, drop_last}
use Rattle.laws.specs.Lists.{all, is_empty}
use Rattle.meaning.specs.Questions.{within}

-- "Each line ends in byte 10"
abbrev pub newline : ℕ
newline = 10

-- "fields in a fixed order parted by commas"
abbrev pub comma : ℕ
comma = 44

abbrev pub minus : ℕ
minus = 45

abbrev pub zero_digit : ℕ
zero_digit = 48

-- ════ lines and fields

-- a byte put before the first part
abbrev pub before : ℕ → List (List ℕ) → List (List ℕ)
before b [] = (b ∷ []) ∷ []
before b (part ∷ parts) = (b ∷ part) ∷ parts

-- the parts of a text between the bytes `sep`: one part more than there are such bytes
unfoldable pub split : ℕ → List ℕ → List (List ℕ)
split sep [] = [] ∷ []
split sep (b ∷ text) = cond (eqb b sep) ([] ∷ split sep text) (before b (split sep text))

-- the last part; a text has at least one
abbrev pub last_part : List (List ℕ) → List ℕ
last_part [] = []
last_part (part ∷ []) = part
last_part (part ∷ next ∷ parts) = last_part (next ∷ parts)

-- every line is ended by byte 10: nothing stands behind the last one
unfoldable pub is_ended : List ℕ → Bool
is_ended text = is_empty (last_part (split newline text))

-- the lines of a text, each without its byte 10, as lists of fields
unfoldable pub lines_of : List ℕ → List (List (List ℕ))
lines_of text = map (split comma) (drop_last (split newline text))

-- ════ decimal numbers: "1 to 7 digits, .. with no needless leading zero, and a minus only before a digit 1 to 9"

abbrev pub is_digit : ℕ → Bool
is_digit b = within 48 57 b

-- a digit 1 to 9, then at most six more digits
unfoldable pub is_positive : List ℕ → Bool
is_positive [] = false
is_positive (d ∷ ds) = not (eqb d zero_digit) && is_digit d && all is_digit ds && leb (length ds) 6

-- 0 alone, or a positive number
unfoldable pub is_natural : List ℕ → Bool
is_natural [] = false
is_natural (d ∷ ds) = cond (eqb d zero_digit) (is_empty ds) (is_positive (d ∷ ds))

-- a minus and a positive number, or a number without a minus
unfoldable pub is_number : List ℕ → Bool
is_number [] = false
is_number (b ∷ bs) = cond (eqb b minus) (is_positive bs) (is_natural (b ∷ bs))

-- the value of digits that stand behind others of the value v
abbrev pub digits_value : ℕ → List ℕ → ℕ
digits_value v [] = v
digits_value v (d ∷ ds) = digits_value (v * 10 + (d - zero_digit)) ds

unfoldable pub value_of : List ℕ → ℤ
value_of [] = pos 0
value_of (b ∷ bs) = cond (eqb b minus) (neg_ℤ (pos (digits_value 0 bs))) (pos (digits_value 0 (b ∷ bs)))
