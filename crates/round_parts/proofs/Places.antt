-- A part of a list as the code lends it, from `size * k` to `size * k + size`, is the places of direction k.
use Prim.Native.Nat.{ℕ, ◌+◌, ◌-◌, ◌*◌, ◌≤◌}
use native.Mathlib.Omega.{arith}
use mathlib.Core.Path.{◌≡◌, ap, ◌∙◌}
use mathlib.Core.List.{List, ◌++◌}
use lib.ListN.{length, take, drop}
use borrow.Rule.Slice.PartMut.{mid_of, put_mid, mid_len}
use Rattle.round_parts.specs.Places.{places_at, put_at}

so_many : (a n : ℕ) → a + n - a ≡ n
so_many a n = omega arith

module _ {A : Type 0} (size k : ℕ) (list : List A) where
  pub mid_is : mid_of (size * k) (size * k + size - size * k) list ≡ places_at size k list
  mid_is = ap (λ (n : ℕ). take n (drop (size * k) list)) (so_many (size * k) size)

  pub mid_put : (places : List A) → put_mid (size * k) (size * k + size - size * k) list places ≡ put_at size k list places
  mid_put places = ap (λ (n : ℕ). take (size * k) list ++ (places ++ drop n (drop (size * k) list))) (so_many (size * k) size)

  pub mid_long : size * k + size ≤ length list → length (mid_of (size * k) (size * k + size - size * k) list) ≡ size
  mid_long h = mid_len (size * k) (size * k + size) list h ∙ so_many (size * k) size
