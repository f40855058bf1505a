-- What is told of a round whose sheet is asked for.
use Rattle.std.specs.declared.result.Result.TheVariants.{Ok, Err}
use Rattle.std.specs.declared.result.Result.{Result}
use Rattle.meaning.specs.declared.Refusal.{Refusal}
use Rattle.std.specs.Prelude.{ℕ, ◌≤◌, ◌≡◌, List, ℤ, length}
use Rattle.meaning.specs.Questions.{number}
use Rattle.meaning.specs.Reply.{refused, done, reply_of, written_over}
use Rattle.meaning.specs.Sheet.{sheet_of}
use Rattle.sheet.specs.Rows.{rows_in, Fits}

-- a round that was decoded has answers that fit, and there are bytes enough
abbrev pub Tellable : Result Unit Refusal → List ℤ → ℕ → List ℕ → Type 0
Tellable (Ok tt) answers count sheet = Fits answers count × (2_048 ≤ length sheet)
Tellable (Err refusal) answers count sheet = Unit

-- the sheet, its length and the bytes afterwards; or the refusal, and the bytes as before
abbrev pub Told : Result Unit Refusal → List ℤ → ℕ → List ℕ → List ℕ → Result ℕ Refusal → Type 0
Told (Ok tt) answers count sheet₀ sheet₁ r = (reply_of r ≡ done (length (sheet_of (rows_in answers count)))) × (sheet₁ ≡ written_over (sheet_of (rows_in answers count)) sheet₀)
Told (Err refusal) answers count sheet₀ sheet₁ r = (reply_of r ≡ refused (number refusal)) × (sheet₁ ≡ sheet₀)
