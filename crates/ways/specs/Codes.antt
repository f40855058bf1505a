-- A step as one number: first, then last, then entry are its digits, so that the order of the numbers is the order of the steps (proofs/Codes).
use Rattle.std.specs.Prelude.{ℕ, ◌+◌, ◌*◌, ◌/◌, ◌%◌}
use Rattle.meaning.specs.declared.Step.{Step}

unfoldable pub code_of : Step → ℕ
code_of step = step.first * 4_194_304 + step.last * 65_536 + step.entry

unfoldable pub step_of : ℕ → Step
step_of code = record { first = code / 4_194_304; last = code / 65_536 % 64; entry = code % 65_536 }

-- more than the number of any step whose first, last and entry fit
abbrev pub codes : ℕ
codes = 274_877_906_944
