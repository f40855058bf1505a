-- The fields of a line that was read, by their places.
use Rattle.std.specs.Prelude.{ℕ, ◌≡◌, List, length}
use Rattle.tokens.specs.Scan.{Noted}

-- these are the line's fields, and the places say where the first five stand
pub record FieldsAt (text places : List ℕ) (count : ℕ) (fields : List (List ℕ)) : Type 0 where
  pub long : length fields ≡ count
  pub noted : Noted text places fields

-- so many fields were read
pub record FieldsRead (text places : List ℕ) (count : ℕ) : Type 0 where
  pub fields : List (List ℕ)
  pub at : FieldsAt text places count fields
