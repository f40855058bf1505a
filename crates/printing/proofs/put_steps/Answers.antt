-- The lines of the steps passed are put.
use Prim.Native.Nat.{◌≤◌, ◌<◌}
use native.Mathlib.Omega.{arith}
use lib.ListN.{length}
use Rattle.meaning.specs.Render.{printed_step}
use Rattle.records.specs.Plain.{step_in, steps_of}
use Rattle.records.proofs.Laws.{count_steps, step_at}
use Rattle.printing.specs.Lines.{plain_of}
use Rattle.decimals.proofs.Laws.{each_room, each_more, each_end}
use Rattle.printing.proofs.put_steps.Goals as goal

pub put_step-next-requires : goal.put_step-next-requires
put_step-next-requires c =
    let i = c.loop-i.i in
    let p = plain_of c.args.plain.now c.args.count in
    let h : i < c.args.count = c.loop-i-test.true in
    let l : i < length (steps_of p) = rw (count_steps p c.args.count) h in
    each_room printed_step (steps_of p) i (step_in p 0) l (step_at p c.args.count i (step_in p 0) h) c.loop-i.invariant c.requires.count_in_bounds_2

pub loop-i-preserved : goal.loop-i-preserved
loop-i-preserved c =
    let i = c.loop-i.i in
    let p = plain_of c.args.plain.now c.args.count in
    let h : i < c.args.count = c.loop-i-test.true in
    let l : i < length (steps_of p) = rw (count_steps p c.args.count) h in
    each_more printed_step (steps_of p) i (step_in p 0) l (step_at p c.args.count i (step_in p 0) h) c.loop-i.invariant c.put_step-next.ensures

pub returns : goal.returns
returns c =
    let p = plain_of c.args.plain.now c.args.count in
    let l : length (steps_of p) ≤ c.loop-i.i = rw (count_steps p c.args.count) (omega arith) in
    each_end printed_step (steps_of p) c.loop-i.i l c.loop-i.invariant
