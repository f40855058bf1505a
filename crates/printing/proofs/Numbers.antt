-- A count of a line as code casts it.
use Prim.Native.Nat.{ℕ, ◌≤◌, ◌^◌}
use native.Mathlib.Omega.{arith}
use mathlib.Core.Path.{◌≡◌}
use lib.IntN.{pos}
use mir.Syntax.{w64}
use mir.Val.{to_z}
use mir.Facts.{to_z_pos}

-- is the count
pub cast_is : (n : ℕ) → n ≤ 2 ^ 62 → to_z w64 n ≡ pos n
cast_is n h = to_z_pos w64 (omega arith)
