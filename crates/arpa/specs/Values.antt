-- Values: "digits, with at most a minus before and a point and digits after"; "Logarithms become thousandths, nearest, halves away from 0".
use Rattle.std.specs.Prelude.{ℕ, ◌+◌, ◌*◌, ◌/◌, ◌^◌, Bool, false, ◌&&◌, cond, List, [], ◌∷◌, ◌++◌, eqb, ℤ, pos, neg_ℤ, length}
use Rattle.laws.specs.Lists.{all}
use Rattle.meaning.specs.Numerals.{minus, is_digit, split, digits_value}

abbrev pub point : ℕ
point = 46

-- "digits": one or more
abbrev pub are_digits : List ℕ → Bool
are_digits [] = false
are_digits (d ∷ ds) = all is_digit (d ∷ ds)

-- what a point parts is digits, or digits and digits
abbrev pub is_decimal : List (List ℕ) → Bool
is_decimal [] = false
is_decimal (whole ∷ []) = are_digits whole
is_decimal (whole ∷ fraction ∷ []) = are_digits whole && are_digits fraction
is_decimal (whole ∷ fraction ∷ part ∷ parts) = false

-- "with at most a minus before"
unfoldable pub is_value : List ℕ → Bool
is_value [] = false
is_value (b ∷ bytes) = cond (eqb b minus) (is_decimal (split point bytes)) (is_decimal (split point (b ∷ bytes)))

-- the thousandths nearest to n / 10 ^ places, the greater of two that are as near
unfoldable pub nearest : ℕ → ℕ → ℕ
nearest n places = (2000 * n + 10 ^ places) / (2 * 10 ^ places)

-- those of a number without its minus
abbrev pub magnitude : List (List ℕ) → ℕ
magnitude [] = 0
magnitude (whole ∷ []) = nearest (digits_value 0 whole) 0
magnitude (whole ∷ fraction ∷ parts) = nearest (digits_value 0 (whole ++ fraction)) (length fraction)

-- "thousandths, nearest, halves away from 0"
unfoldable pub thousandths : List ℕ → ℤ
thousandths [] = pos 0
thousandths (b ∷ bytes) = cond (eqb b minus) (neg_ℤ (pos (magnitude (split point bytes)))) (pos (magnitude (split point (b ∷ bytes))))
