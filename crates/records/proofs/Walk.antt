-- What the walks of a loop over step records share.
use Prim.Native.Nat.{ℕ, zero, suc, ◌<◌, ◌*◌, ◌^◌}
use native.Mathlib.Omega.{arith}
use mathlib.Core.List.{List, [], ◌∷◌}
use mir.Syntax.{Ty, Local, local, Body, skip, seq, assign, block, loop, cond, switch, exit, return, call, call_v, lend_static, unreachable, ty_unit}
use denote.Slice.{Room}
use Rattle.meaning.specs.contracts.Step as T

-- the byte offset of a record fits a usize: the list's bytes have room
pub fits_mul : (n i : ℕ) → Room T.the_row n → i < n → i * 6 < 2 ^ 64
fits_mul n i room l = omega (arith, room.1)

-- the second part of a sequence
abbrev pub after : Body → Body
after skip = skip
after (seq a b) = b
after (assign p r) = skip
after (block a) = skip
after (loop a) = skip
after (cond c a b) = skip
after (switch c s) = skip
after (exit n) = skip
after return = skip
after (call f xs d) = skip
after unreachable = skip
after (call_v _ _ _ _) = skip
after (lend_static _ _ _) = skip

-- the type of local k, as the function has it
abbrev pub ty_at : List Local → ℕ → Ty
ty_at [] k = ty_unit
ty_at (local τ m ∷ ls) zero = τ
ty_at (local τ m ∷ ls) (suc k) = ty_at ls k
