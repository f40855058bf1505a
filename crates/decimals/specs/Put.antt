-- What every function that prints ensures: which bytes it put, and where.
use Rattle.std.specs.Prelude.{ℕ, ◌+◌, ◌≤◌, ◌≡◌, List, ◌∷◌, ◌++◌, ℤ, length, take, drop}
use Rattle.meaning.specs.Numerals.{comma}
use Rattle.meaning.specs.Render.{decimal}

-- the bytes bs stand in the list from place `at` up to r, and the rest of the list is as it was
pub record Put (bs : List ℕ) (at r : ℕ) (old new : List ℕ) : Type 0 where
  pub end : r ≡ at + length bs
  pub room : r ≤ length old
  pub same : length new ≡ length old
  pub list : new ≡ take at old ++ bs ++ drop r old

-- a number of a line, after its comma
abbrev pub field : ℤ → List ℕ
field z = comma ∷ decimal z
