-- The N lines, the E lines and the Z line, one after the other.
use native.Mathlib.Omega.{arith}
use Rattle.decimals.proofs.Laws.{put_is, put_then}
use Rattle.sheet.specs.Rows.{rows_in}
use Rattle.sheet.proofs.Lengths.{directions_short, counts_short, sheet_parts}
use Rattle.sheet.proofs.put_sheet.Goals as goal

pub put_answers-counted-requires-clause-at_in_bounds : goal.put_answers-counted-requires-clause-at_in_bounds
put_answers-counted-requires-clause-at_in_bounds c = let f = c.requires.fits in
    let p = c.put_directions-answered.ensures in
    omega (arith, f.few, p.end, p.same, directions_short c.args.answers.now c.args.count f)

pub put_total-requires-clause-at_in_bounds : goal.put_total-requires-clause-at_in_bounds
put_total-requires-clause-at_in_bounds c = let f = c.requires.fits in
    let p = c.put_directions-answered.ensures in
    let q = c.put_answers-counted.ensures in
    let n = c.args.count in
    omega (arith, f.few, p.end, p.same, q.end, q.same, directions_short c.args.answers.now n f, counts_short c.args.answers.now n f)

pub returns : goal.returns
returns c =
    let p = c.put_directions-answered.ensures in
    let q = c.put_answers-counted.ensures in
    put_is (sheet_parts (rows_in c.args.answers.now c.args.count)) (put_then (put_then p q) c.put_total.ensures)
