-- The digits of a value, and the numbers that they make, as code reads them.
use Rattle.std.specs.Prelude.{ℕ, ◌-◌, ◌≤◌, ◌≡◌, min, List, get_or}
use Rattle.meaning.specs.Numerals.{zero_digit}

-- digit k behind the point, 0 where there is none
abbrev pub digit_at : List ℕ → ℕ → ℕ
digit_at fraction k = get_or fraction k zero_digit - zero_digit

-- r is that digit
pub record DigitIs (fraction : List ℕ) (k r : ℕ) : Type 0 where
  pub is : r ≡ digit_at fraction k
  pub small : r ≤ 9

-- r counts m: it is m, or the largest number of its type where m would not fit
abbrev pub CountIs : ℕ → ℕ → Type 0
CountIs m r = r ≡ min m 18_446_744_073_709_551_615
