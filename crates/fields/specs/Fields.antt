-- A text read a field at a time: what the reading of a field leaves of the text, in the terms of Scan.
use Rattle.std.specs.Prelude.{ℕ, ◌+◌, ◌≤◌, ◌<◌, ◌≡◌, Bool, false, cond, ◌&&◌, List, [], ◌∷◌, Option, Some, None, length, drop, get_or, eqb}
use Rattle.meaning.specs.Numerals.{is_digit, newline}
use Rattle.fields.specs.Scan.{Scan, Line, Field, Digits, more_digits, run, at_line, emit, emit_line}
use Rattle.fields.specs.declared.Numeral.{Numeral}
use Rattle.fields.specs.declared.Piece.{Piece}

-- how many bytes there are up to the first byte 10, that one included
abbrev pub line_length : List ℕ → ℕ
line_length [] = 0
line_length (b ∷ bs) = cond (eqb b newline) 1 (line_length bs + 1)

-- a field starts at a line's beginning, or behind a comma
abbrev pub start : Bool → Scan
start line = cond line Line Field

-- the text goes on from s' at j as from s at i: no mark stands between
pub record Onward (book : Bool) (t : List ℕ) (s : Scan) (i : ℕ) (s' : Scan) (j : ℕ) : Type 0 where
  pub ends : run book s (drop i t) ≡ run book s' (drop j t)
  pub gives : emit book s (drop i t) ≡ emit book s' (drop j t)
  pub row : emit_line book s (drop i t) ≡ emit_line book s' (drop j t)
  pub long : i + line_length (drop i t) ≡ j + line_length (drop j t)

-- no digit follows at `at` the digits that make v
abbrev pub NoMore : List ℕ → ℕ → ℕ → Type 0
NoMore t at v = at < length t → is_digit (get_or t at 0) && more_digits v ≡ false

-- digits were read from `at` on behind those that make v, as many as may follow
pub record DigitsRead (t : List ℕ) (at v : ℕ) (r : Numeral) : Type 0 where
  pub on : (book minus : Bool) → Onward book t (Digits minus v) at (Digits minus r.value) r.end
  pub stop : NoMore t r.end r.value
  pub small : r.value ≤ 9_999_999
  pub later : at ≤ r.end
  pub within : r.end ≤ length t

-- r was read from `at` on, a field that is as it should be, with its mark
pub record PieceRead (book : Bool) (s : Scan) (t : List ℕ) (at : ℕ) (r : Piece) : Type 0 where
  pub ends : at_line (run book s (drop at t)) ≡ at_line (run book (start r.last) (drop r.end t))
  pub gives : emit book s (drop at t) ≡ r.number ∷ emit book (start r.last) (drop r.end t)
  pub row : emit_line book s (drop at t) ≡ r.number ∷ cond r.last [] (emit_line book Field (drop r.end t))
  pub long : at + line_length (drop at t) ≡ r.end + cond r.last 0 (line_length (drop r.end t))
  pub later : at < r.end
  pub within : r.end ≤ length t

-- a field was read from `at` on; where there is none, the text is not as it should be
abbrev pub FieldRead : Bool → Scan → List ℕ → ℕ → Option Piece → Type 0
FieldRead book s t at None = at_line (run book s (drop at t)) ≡ false
FieldRead book s t at (Some r) = PieceRead book s t at r
