-- A step over a loaded list, from one line to the next.
use Rattle.std.specs.Prelude.{ℕ, ◌+◌, ◌<◌, ◌≡◌, Option, MatchOption, List, ℤ, take, drop}
use Rattle.std.specs.Borrow.{Bor}
use Rattle.book.specs.Loaded.{size_at}

-- from the line at `at`: no whole line stands there, and the step stays there; or the line is given with its place, and the step goes behind it
abbrev pub Passes : List ℤ → ℕ → Option (ℕ × Bor (List ℤ)) → ℕ → Type 0
Passes loaded at r next = MatchOption r ((size_at loaded at ≡ 0) × (next ≡ at))
    (λ x. (0 < size_at loaded at) × (x.0 ≡ at) × (x.1.now ≡ take (size_at loaded at) (drop at loaded)) × (next ≡ at + size_at loaded at))
