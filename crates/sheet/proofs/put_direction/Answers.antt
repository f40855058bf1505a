-- The four numbers of an N line fit, and are put as a line.
use Prim.Native.Nat.{◌+◌}
use native.Mathlib.Omega.{arith}
use mathlib.Core.Path.{ap}
use mathlib.Core.List.{List}
use lib.IntN.{ℤ}
use lib.ListN.{length}
use Rattle.meaning.specs.Render.{printed_line}
use Rattle.sheet.specs.Rows.{row_at}
use Rattle.sheet.proofs.Lengths.{direction_short}
use Rattle.sheet.proofs.Numbers.{direction_held}
use Rattle.sheet.proofs.put_direction.Goals as goal

pub put_line-requires : goal.put_line-requires
put_line-requires c = let f = c.requires.fits in let k = c.args.k in let l = c.requires.k_lt_count.0 in
    omega (arith, ap (λ (ns : List ℤ). length (printed_line 78 ns)) (direction_held f k l), direction_short (k + 1) (row_at c.args.answers.now k) (omega (arith, f.few)) (f.rows k l))
