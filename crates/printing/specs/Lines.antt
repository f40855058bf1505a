-- Parts of the lines that the rendering program prints.
use Rattle.std.specs.Prelude.{ℕ, List}
use Rattle.records.specs.declared.Plain.{Plain}

-- steps that stand in a list as plain numbers, three to a step
abbrev pub plain_of : List ℕ → ℕ → Plain
plain_of numbers count = record { count = count; numbers = numbers }
