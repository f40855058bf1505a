-- What the parts of the program `round` ensure, in terms of the lists that they lend.
use Rattle.std.specs.Prelude.{ℕ, zero, suc, List, ℤ, negsuc}
use Rattle.meaning.specs.Reply.{Lent}
use Rattle.meaning.specs.Render.{printed_refusal}
use Rattle.meaning.specs.Sheet.{sheet_of, rows_of}

-- places for 64 directions, and a store of 512 states
abbrev pub program_lent : Lent
program_lent = record { steps = 2_048; words = 16_384; store = 4_096 }

-- what is printed once the book is read, by the refusal, 0 for none
abbrev pub printed_sheet : ℕ → List ℤ → List (List ℕ) → List ℕ
printed_sheet zero loaded ds = sheet_of (rows_of loaded ds (negsuc 0) 4_096)
printed_sheet (suc k) loaded ds = printed_refusal (suc k)
