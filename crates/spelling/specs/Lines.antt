-- The lines of the word list by places: where each starts.
use Rattle.std.specs.Prelude.{ℕ, ◌+◌, ◌-◌, ◌≤◌, ◌<◌, ◌≡◌, Bool, not, List, [], eqb, length, get_or, take, drop}
use Rattle.meaning.specs.Numerals.{newline}
use Rattle.tokens.specs.Scan.{run_length}
use Rattle.arpa.specs.Words.{spelled_most, spellings}

-- a byte of a line
abbrev pub is_in_line : ℕ → Bool
is_in_line b = not (eqb b newline)

-- how many bytes stand before the first byte 10, or the text's end
abbrev pub line_size : List ℕ → ℕ
line_size text = run_length is_in_line text

-- line k of the word list, from 0 on
unfoldable pub line_at : List ℕ → ℕ → List ℕ
line_at list k = get_or (spellings list) k []

-- how long the list of starts is
abbrev pub starts_size : ℕ
starts_size = spelled_most + 1

-- a line stands from `from` to just before `to`: byte 10, or the text's end
pub record Stands (list : List ℕ) (from to : ℕ) (line : List ℕ) : Type 0 where
  pub after : from < to
  pub inside : to ≤ length list + 1
  pub bytes : take (to - 1 - from) (drop from list) ≡ line

-- the first n lines stand from their starts on, each to just before the next one's start
pub record Starts (list starts : List ℕ) (n : ℕ) : Type 0 where
  pub room : starts_size ≤ length starts
  pub few : n ≤ spelled_most
  pub within : n ≤ length (spellings list)
  pub lines : (k : ℕ) → k < n → Stands list (get_or starts k 0) (get_or starts (k + 1) 0) (line_at list k)

-- all of its lines
pub record Lined (list starts : List ℕ) (n : ℕ) : Type 0 where
  pub lines : Starts list starts n
  pub all : n ≡ length (spellings list)
