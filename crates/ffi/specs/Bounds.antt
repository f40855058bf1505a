-- Counts that a signed 64-bit number holds.
use Rattle.std.specs.declared.result.Result.TheVariants.{Ok, Err}
use Rattle.std.specs.declared.result.Result.{Result}
use Rattle.meaning.specs.declared.Refusal.{Refusal}
use Rattle.std.specs.Prelude.{ℕ}
use Rattle.std.specs.Prelude.{◌<◌}

abbrev pub Counted : Result ℕ Refusal → Type 0
Counted (Ok n) = n < 9_223_372_036_854_775_808
Counted (Err refusal) = Unit
