-- The ends that are left to look at.
use Prim.Native.Nat.{ℕ, ◌+◌, ◌≤◌, ◌<◌}
use mathlib.Core.Path.{◌≡◌, refl, ap, ◌∙◌}
use mathlib.Core.Bool.{Bool, true, false, ◌&&◌}
use mathlib.Core.List.{List}
use lib.Dec.{leb, ltb}
use lib.ListN.{length, get_or, drop}
use lib.ListN.{drop_of_length-le}
use Rattle.laws.specs.Lists.{all}
use Rattle.laws.proofs.Lists.{drop_next}
use Rattle.meaning.specs.Round.{are_rising}
use Rattle.round_parts.specs.Asked.{are_rising_to}

crossed : (a b c d : Bool) → (a && b) && (c && d) ≡ (a && c) && (b && d)
crossed true true c d = refl
crossed true false true d = refl
crossed true false false d = refl
crossed false b c d = refl

module _ (most : ℕ) (ends : List ℕ) (before k : ℕ) where
  -- the next one, and those behind it
  pub rising_here : (b : Bool) → k < length ends → ltb before (get_or ends k 0) && leb (get_or ends k 0) most ≡ b
      → are_rising_to most before (drop k ends) ≡ b && are_rising_to most (get_or ends k 0) (drop (k + 1) ends)
  rising_here b h e =
      ap (are_rising_to most before) (drop_next ends k 0 h)
      ∙ crossed (ltb before (get_or ends k 0)) (are_rising (get_or ends k 0) (drop (k + 1) ends)) (leb (get_or ends k 0) most) (all (λ end. leb end most) (drop (k + 1) ends))
      ∙ ap (λ (x : Bool). x && are_rising_to most (get_or ends k 0) (drop (k + 1) ends)) e

  -- none is left
  pub rising_end : length ends ≤ k → are_rising_to most before (drop k ends) ≡ true
  rising_end h = ap (are_rising_to most before) (drop_of_length-le ends h)
