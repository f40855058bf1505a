-- The N lines of the directions passed are put.
use Rattle.decimals.proofs.Laws.{put_none}
use Rattle.sheet.proofs.Going.{direction_more}
use Rattle.sheet.proofs.Lengths.{directions_short}
use Rattle.sheet.proofs.Rows.{rows_none, fewer}
use native.Mathlib.Omega.{arith}
use Rattle.sheet.proofs.put_directions.Goals as goal

pub loop-k-init : goal.loop-k-init
loop-k-init c = rw (rows_none c.args.answers.now) (put_none 0 c.args.out.now (omega arith))

pub put_direction-next-requires-clause-k_lt_count : goal.put_direction-next-requires-clause-k_lt_count
put_direction-next-requires-clause-k_lt_count c = let l = c.loop-k in
    let f = c.requires.fits in
    (omega arith, omega (arith, f.few, l.invariant.end, l.invariant.same, directions_short c.args.answers.now l.k (fewer l.k (omega arith) f)))

pub loop-k-preserved : goal.loop-k-preserved
loop-k-preserved c = direction_more c.args.answers.now c.loop-k.k c.loop-k.invariant c.put_direction-next.ensures
