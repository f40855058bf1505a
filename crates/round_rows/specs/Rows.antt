-- A round's steps on plain numbers, for a caller who lends step records.
use Rattle.std.specs.Prelude.{ℕ, ◌≤◌, ◌≡◌, List, ℤ, length}
use Rattle.meaning.specs.Reply.{reply_of, written_if, Lent}
use Rattle.meaning.specs.Round.{as_records, decode_round, round_refusal, directions_of, RoundLists}
use Rattle.meaning.specs.Sheet.{sheet_refusal, round_sheet, sheet_reply}
use Rattle.meaning.specs.declared.Step.{Step}
use Rattle.records.specs.Rows.{rows_of, put_over}
use Rattle.round_rows.specs.declared.RowsReply.{RowsReply}

-- what is lent, with a list of `room` step records
abbrev pub lent_records : ℕ → List ℕ → List ℤ → Lent
lent_records room words store = record { steps = room; words = length words; store = length store }

-- the whole of a round, whose steps are to be put over any list of `room` step records
pub record DecodesRows (loaded : List ℤ) (directions ends : List ℕ) (width : ℤ) (room : ℕ) (words₀ words₁ : List ℕ) (store₀ store₁ answers₀ answers₁ : List ℤ) (r : RowsReply Unit) : Type 0 where
  pub has_room : r.rows.count ≤ room
  pub few : r.rows.count ≤ 2048
  pub reply_is : reply_of r.reply ≡ decode_round loaded directions ends (lent_records room words₀ store₀) (length answers₀)
  pub lists_are : (steps : List Step) → length steps ≡ room
      → RoundLists as_records (round_refusal loaded directions ends (lent_records room words₀ store₀) (length answers₀)) loaded (directions_of directions ends) width
      steps (put_over (rows_of r.rows) steps) words₀ words₁ store₀ store₁ answers₀ answers₁

-- and of a round whose sheet is asked for
pub record SheetsRows (loaded : List ℤ) (directions ends : List ℕ) (width : ℤ) (room : ℕ) (words₀ words₁ : List ℕ) (store₀ store₁ answers₀ answers₁ : List ℤ) (sheet₀ sheet₁ : List ℕ) (r : RowsReply ℕ) : Type 0 where
  pub has_room : r.rows.count ≤ room
  pub few : r.rows.count ≤ 2048
  pub reply_is : reply_of r.reply ≡ sheet_reply loaded directions ends width (lent_records room words₀ store₀) (length answers₀) (length sheet₀)
  pub lists_are : (steps : List Step) → length steps ≡ room
      → RoundLists as_records (sheet_refusal loaded directions ends (lent_records room words₀ store₀) (length answers₀) (length sheet₀)) loaded (directions_of directions ends) width
      steps (put_over (rows_of r.rows) steps) words₀ words₁ store₀ store₁ answers₀ answers₁
  pub sheet_is : sheet₁ ≡ written_if (sheet_refusal loaded directions ends (lent_records room words₀ store₀) (length answers₀) (length sheet₀)) (round_sheet loaded directions ends width (length store₀)) sheet₀
