-- The state that a step leads to, by the code's numbers.
use Rattle.std.specs.Prelude.{ℕ, suc, ◌+◌, ◌-◌, ◌^◌, ◌≤◌, ◌<◌, List, ℤ, pos, ◌+ℤ◌, ◌*ℤ◌}
use Rattle.laws.specs.Integers.{Within}
use Rattle.positions.specs.Runs.{mask_of}
use Rattle.meaning.specs.Bounds.{penalty_most}
use Rattle.meaning.specs.Book.{Entry}
use Rattle.meaning.specs.State.{score_bound}
use Rattle.meaning.specs.declared.State.{State}
use Rattle.derivation.specs.Model.{empty_row, with_words}
use Rattle.derivation.specs.declared.Setup.{Setup}
use Rattle.derivation.specs.declared.Row.{Row}
use Rattle.derivation.specs.declared.Phrase.{Phrase}

-- |r + 1 − first|
abbrev pub jump_from : ℕ → ℕ → ℕ
jump_from r first = (suc r - first) + (first - suc r)

unfoldable pub gain_by : Setup → Phrase → ℕ → Row → ℤ
gain_by t p far row = p.g +ℤ t.eta *ℤ pos far +ℤ row.score

-- the words of a row are added, the positions covered, and the gain added
abbrev pub state_by : Setup → Phrase → Row → ℕ → ℕ → State → State
state_by t p row first last s = record {
  word1 = row.word1;
  word2 = row.word2;
  covered = s.covered + mask_of first last;
  r = last;
  score = s.score +ℤ gain_by t p (jump_from s.r first) row;
}

-- the row is that of the entry's words
unfoldable pub next_state : List ℕ → Setup → Phrase → Entry → ℕ → ℕ → State → State
next_state index t p e first last s = state_by t p (with_words index t (empty_row s.word1 s.word2) e.target) first last s

-- the positions lie in the direction, there is room for them in the number, the jump is in reach and the numbers are small
pub record CanNext (t : Setup) (first last : ℕ) (s : State) : Type 0 where
  pub first_from : 1 ≤ first
  pub first_to : first ≤ last
  pub last_to : last ≤ 32
  pub room : s.covered + mask_of first last < 2 ^ 32
  pub near : jump_from s.r first ≤ 32
  pub eta_within : Within penalty_most t.eta
  pub score_within : Within score_bound s.score
