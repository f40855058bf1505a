-- Values and their thousandths, "nearest, halves away from 0", and fields that are no values.
use mathlib.Core.Path.{◌≡◌, refl}
use mathlib.Core.Bool.{true, false}
use mathlib.Core.List.{[], ◌∷◌}
use lib.IntN.{pos, negsuc}
use Rattle.meaning.specs.Numerals.{split}
use Rattle.arpa.specs.Values.{is_value, nearest, thousandths}

-- 0.0005
half : (is_value (48 ∷ 46 ∷ 48 ∷ 48 ∷ 48 ∷ 53 ∷ []) ≡ true) × (thousandths (48 ∷ 46 ∷ 48 ∷ 48 ∷ 48 ∷ 53 ∷ []) ≡ pos 1)
unfolding is_value thousandths nearest split
half = (refl, refl)

-- 0.00049999
below_half : (is_value (48 ∷ 46 ∷ 48 ∷ 48 ∷ 48 ∷ 52 ∷ 57 ∷ 57 ∷ 57 ∷ 57 ∷ []) ≡ true) × (thousandths (48 ∷ 46 ∷ 48 ∷ 48 ∷ 48 ∷ 52 ∷ 57 ∷ 57 ∷ 57 ∷ 57 ∷ []) ≡ pos 0)
unfolding is_value thousandths nearest split
below_half = (refl, refl)

-- -0.0005
minus_half : (is_value (45 ∷ 48 ∷ 46 ∷ 48 ∷ 48 ∷ 48 ∷ 53 ∷ []) ≡ true) × (thousandths (45 ∷ 48 ∷ 46 ∷ 48 ∷ 48 ∷ 48 ∷ 53 ∷ []) ≡ negsuc 0)
unfolding is_value thousandths nearest split
minus_half = (refl, refl)

-- -0.0004
below_minus_half : (is_value (45 ∷ 48 ∷ 46 ∷ 48 ∷ 48 ∷ 48 ∷ 52 ∷ []) ≡ true) × (thousandths (45 ∷ 48 ∷ 46 ∷ 48 ∷ 48 ∷ 48 ∷ 52 ∷ []) ≡ pos 0)
unfolding is_value thousandths nearest split
below_minus_half = (refl, refl)

-- 2.5
one_place : (is_value (50 ∷ 46 ∷ 53 ∷ []) ≡ true) × (thousandths (50 ∷ 46 ∷ 53 ∷ []) ≡ pos 2500)
unfolding is_value thousandths nearest split
one_place = (refl, refl)

-- 1.2345
four_places : (is_value (49 ∷ 46 ∷ 50 ∷ 51 ∷ 52 ∷ 53 ∷ []) ≡ true) × (thousandths (49 ∷ 46 ∷ 50 ∷ 51 ∷ 52 ∷ 53 ∷ []) ≡ pos 1235)
unfolding is_value thousandths nearest split
four_places = (refl, refl)

-- -99
no_point : (is_value (45 ∷ 57 ∷ 57 ∷ []) ≡ true) × (thousandths (45 ∷ 57 ∷ 57 ∷ []) ≡ negsuc 98_999)
unfolding is_value thousandths nearest split
no_point = (refl, refl)

-- -0
minus_zero : (is_value (45 ∷ 48 ∷ []) ≡ true) × (thousandths (45 ∷ 48 ∷ []) ≡ pos 0)
unfolding is_value thousandths nearest split
minus_zero = (refl, refl)

-- no values
-- `-.5`
point_first : is_value (45 ∷ 46 ∷ 53 ∷ []) ≡ false
unfolding is_value split
point_first = refl

-- `5.`
point_last : is_value (53 ∷ 46 ∷ []) ≡ false
unfolding is_value split
point_last = refl

-- `+1`
plus : is_value (43 ∷ 49 ∷ []) ≡ false
unfolding is_value split
plus = refl

-- `1e-5`
exponent : is_value (49 ∷ 101 ∷ 45 ∷ 53 ∷ []) ≡ false
unfolding is_value split
exponent = refl

-- the empty field
empty : is_value [] ≡ false
unfolding is_value
empty = refl

-- `-`
minus_alone : is_value (45 ∷ []) ≡ false
unfolding is_value split
minus_alone = refl

-- `.`
point_alone : is_value (46 ∷ []) ≡ false
unfolding is_value split
point_alone = refl

-- `1.2.3`
two_points : is_value (49 ∷ 46 ∷ 50 ∷ 46 ∷ 51 ∷ []) ≡ false
unfolding is_value split
two_points = refl
