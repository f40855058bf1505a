-- A text read a line at a time: the fields of the next line that is not blank ("blank lines .. are passed over"), by the places where they stand.
use Rattle.std.specs.Prelude.{ℕ, suc, ◌+◌, ◌*◌, ◌-◌, ◌≤◌, ◌<◌, ◌≡◌, Bool, not, cond, ◌||◌, List, [], ◌∷◌, eqb, ltb, length, take, drop, get_or, set, Option, MatchOption}
use Rattle.meaning.specs.Numerals.{newline}
use Rattle.arpa.specs.Lines.{is_blank, filled_lines}
use Rattle.tokens.specs.declared.scan.Line.{Line}

-- how many bytes from the front on pass the test
abbrev pub run_length : (ℕ → Bool) → List ℕ → ℕ
run_length test [] = 0
run_length test (b ∷ text) = cond (test b) (suc (run_length test text)) 0

-- a byte that belongs to no field
abbrev pub is_space : ℕ → Bool
is_space b = is_blank b || eqb b newline

-- a byte of a field
abbrev pub is_part : ℕ → Bool
is_part b = not (is_space b)

-- the places with the beginning and the end of field k noted, of the first five
unfoldable pub note_at : List ℕ → ℕ → ℕ → ℕ → List ℕ
note_at places k from to = cond (ltb k 5) (set (set places (2 * k) from) (2 * k + 1) to) places

-- field k, as the places say
unfoldable pub field_at : List ℕ → List ℕ → ℕ → List ℕ
field_at text places k = take (get_or places (2 * k + 1) 0 - get_or places (2 * k) 0) (drop (get_or places (2 * k) 0) text)

-- the places say of field k a part of the text
pub record FieldNoted (text places : List ℕ) (k : ℕ) : Type 0 where
  pub room : 2 * k + 2 ≤ length places
  pub order : get_or places (2 * k) 0 ≤ get_or places (2 * k + 1) 0
  pub within : get_or places (2 * k + 1) 0 ≤ length text

-- the first five of these fields stand where the places say
pub record Noted (text places : List ℕ) (fields : List (List ℕ)) : Type 0 where
  pub part : (k : ℕ) → k < 5 → k < length fields → FieldNoted text places k
  pub is : (k : ℕ) → k < 5 → k < length fields → field_at text places k ≡ get_or fields k []

-- the next line from `at` on that is not blank was read: it has these fields, and the further lines stand from `next` on
pub record LineRead (text : List ℕ) (at : ℕ) (places : List ℕ) (line : Line) : Type 0 where
  pub fields : List (List ℕ)
  pub long : length fields ≡ line.count
  pub noted : Noted text places fields
  pub within : line.next ≤ length text
  pub filled : 1 ≤ line.count
  pub later : at < line.next
  pub is : filled_lines (drop at text) ≡ fields ∷ filled_lines (drop line.next text)

-- where there is one
abbrev pub NextRead : List ℕ → ℕ → List ℕ → Option Line → Type 0
NextRead text at places next = MatchOption next (filled_lines (drop at text) ≡ []) (LineRead text at places)
