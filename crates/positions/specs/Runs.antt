-- Runs of free positions, and what the arrays of the loops hold.
use Rattle.std.specs.Prelude.{ℕ, suc, ◌+◌, ◌-◌, ◌^◌, ◌≤◌, ◌<◌, ◌≡◌, Bool, true, false, cond, List, [], ◌∷◌, eqb, get_or, drop}
use Rattle.laws.specs.Bits.{bits_of, one}

-- how many bits from the first on are false
unfoldable pub free_run : List Bool → ℕ
free_run [] = 0
free_run (true ∷ bits) = 0
free_run (false ∷ bits) = suc (free_run bits)

abbrev pub run_here : ℕ → ℕ → ℕ
run_here digit behind = cond (eqb digit 1) 0 (behind + 1)

-- the first i places hold the digits of c
pub record Unpacked (digits : List ℕ) (n c i : ℕ) : Type 0 where
  pub digit_at : (j : ℕ) → j < i → get_or digits j 0 ≡ one (get_or (bits_of n c) j false)

-- the places below i hold digits, and those from i on runs
pub record RunsFrom (run : List ℕ) (n c i : ℕ) : Type 0 where
  pub digit_at : (j : ℕ) → j < i → get_or run j 0 ≡ one (get_or (bits_of n c) j false)
  pub run_at : (j : ℕ) → i ≤ j → j ≤ n → get_or run j 0 ≡ free_run (drop j (bits_of n c))

-- the number whose digits are 1 at the positions first to last
abbrev pub mask_of : ℕ → ℕ → ℕ
mask_of first last = 2 ^ last - 2 ^ (first - 1)
