-- A text read a byte at a time: what may follow what has been read, and the number that a comma or a byte 10 ends.
-- What a text is and says is stated in notes' specs (Numerals, Book, Direction); proofs/Form and proofs/Numbers have that both agree.
use Rattle.std.specs.Prelude.{ℕ, zero, suc, ◌+◌, ◌*◌, ◌-◌, Bool, true, false, cond, ◌||◌, List, [], ◌∷◌, Option, Some, None, eqb, ℤ, pos, neg_ℤ}
use Rattle.meaning.specs.Questions.{within}
use Rattle.meaning.specs.Numerals.{newline, comma, minus, zero_digit, is_digit}
use Rattle.meaning.specs.Book.{kind_of_byte}

-- what has been read of the line so far
pub data Scan : Type 0 where
  -- nothing of the line
  Line : Scan
  -- a line's letter, as the number of its kind
  Kind : ℤ → Scan
  -- a comma, so that a number has to follow
  Field : Scan
  -- a minus, so that a digit 1 to 9 has to follow
  Minus : Scan
  -- digits that make this value, after a minus or not
  Digits : Bool → ℕ → Scan
  -- what no text continues
  Broken : Scan

-- ════ what may follow. `book`: the text is a book's, of lines that begin with a letter; else it is a direction's, of one line

-- what a kind says of the letter before it; 0 is no kind
abbrev pub after_letter : ℕ → Scan
after_letter zero = Broken
after_letter (suc k) = Kind (pos (suc k))

-- a letter of the table of kinds
abbrev pub line_start : Bool → ℕ → Scan
line_start book b = cond book (after_letter (kind_of_byte b)) Broken

-- a kind as a number of its line; 0 is no kind
abbrev pub kind_number : ℕ → Option ℤ
kind_number zero = None
kind_number (suc k) = Some (pos (suc k))

-- the kind of a letter; another byte has none
abbrev pub letter_kind : ℕ → Option ℤ
letter_kind b = kind_number (kind_of_byte b)

abbrev pub after_kind : ℕ → Scan
after_kind b = cond (eqb b comma) Field Broken

-- a minus or a digit
abbrev pub field_start : ℕ → Scan
field_start b = cond (eqb b minus) Minus (cond (is_digit b) (Digits false (b - zero_digit)) Broken)

-- a digit 1 to 9
abbrev pub after_minus : ℕ → Scan
after_minus b = cond (eqb b zero_digit) Broken (cond (is_digit b) (Digits true (b - zero_digit)) Broken)

-- a comma, or the byte 10
abbrev pub after_number : ℕ → Scan
after_number b = cond (eqb b comma) Field (cond (eqb b newline) Line Broken)

-- a digit may follow the digits that make v: none follows a 0, nor seven digits
abbrev pub more_digits : ℕ → Bool
more_digits v = within 1 999_999 v

-- a digit more, a comma, or the byte 10
abbrev pub after_digits : Bool → ℕ → ℕ → Scan
after_digits isMinus v b =
    cond (is_digit b) (cond (more_digits v) (Digits isMinus (v * 10 + (b - zero_digit))) Broken) (after_number b)

abbrev pub next : Bool → Scan → ℕ → Scan
next book Line b = line_start book b
next book (Kind k) b = after_kind b
next book Field b = field_start b
next book Minus b = after_minus b
next book (Digits isMinus v) b = after_digits isMinus v b
next book Broken b = Broken

abbrev pub run : Bool → Scan → List ℕ → Scan
run book s [] = s
run book s (b ∷ bs) = run book (next book s b) bs

-- a line has just ended
abbrev pub at_line : Scan → Bool
at_line Line = true
at_line (Kind k) = false
at_line Field = false
at_line Minus = false
at_line (Digits isMinus v) = false
at_line Broken = false

-- ════ the numbers

abbrev pub signed : Bool → ℕ → ℤ
signed isMinus v = cond isMinus (neg_ℤ (pos v)) (pos v)

-- the number that has been read: of a letter its kind, of digits their value
abbrev pub scanned : Scan → ℤ
scanned Line = pos 0
scanned (Kind k) = k
scanned Field = pos 0
scanned Minus = pos 0
scanned (Digits isMinus v) = signed isMinus v
scanned Broken = pos 0

-- a comma or the byte 10: it ends a number
abbrev pub is_mark : ℕ → Bool
is_mark b = eqb b comma || eqb b newline

-- the numbers that the marks end
abbrev pub emit : Bool → Scan → List ℕ → List ℤ
emit book s [] = []
emit book s (b ∷ bs) = cond (is_mark b) (scanned s ∷ emit book (next book s b) bs) (emit book (next book s b) bs)

-- ════ a line of the text

-- the numbers that the marks end up to the first byte 10, that one included
abbrev pub emit_line : Bool → Scan → List ℕ → List ℤ
emit_line book s [] = []
emit_line book s (b ∷ bs) =
    cond (eqb b newline) (scanned s ∷ [])
    (cond (eqb b comma) (scanned s ∷ emit_line book (next book s b) bs) (emit_line book (next book s b) bs))
