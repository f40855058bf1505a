-- A number below 2 ^ 32 in a list of numbers of 16 bits, as two of them side by side.
use Rattle.std.specs.Prelude.{ℕ, ◌+◌, ◌*◌, ◌/◌, ◌%◌, List, [], ◌∷◌, ℤ, pos, ◌+ℤ◌, ◌-ℤ◌, get_or}
use Rattle.laws.specs.Integers.{nat_of}

-- the numbers of 16 bits, 0 to 65,535
abbrev pub half_span : ℕ
half_span = 65_536

-- the two halves of a number: the rest below 65,536, and how many times 65,536
abbrev pub halves_of : ℕ → List ℕ
halves_of n = n % half_span ∷ n / half_span ∷ []

-- the number whose halves stand at `at` and behind it
unfoldable pub whole_at : List ℕ → ℕ → ℕ
whole_at numbers at = get_or numbers at 0 + half_span * get_or numbers (at + 1) 0

-- a signed number of 32 bits stands in the list as a natural one: 2 ^ 31 is added
abbrev pub sign_shift : ℕ
sign_shift = 2_147_483_648

abbrev pub shifted : ℤ → ℕ
shifted z = nat_of (z +ℤ pos sign_shift)

-- the signed number whose halves stand at `at` and behind it
unfoldable pub signed_at : List ℕ → ℕ → ℤ
signed_at numbers at = pos (whole_at numbers at) -ℤ pos sign_shift
