-- From the last position down, each place gets the run that begins there.
use Rattle.std.proofs.Common.{◌≡◌, ◌+◌, ◌-◌, length, ◌∙◌, length-set, rules, arith}
use Rattle.positions.specs.Runs.{RunsFrom}
use Rattle.positions.proofs.Laws.{runs_start, runs_more, behind_small}
use Rattle.positions.proofs.free_runs.Goals as goal

pub loop-i-init : goal.loop-i-init
loop-i-init c = let long : length c.unpack-run.result ≡ 33 = search rules in
    (length-set c.unpack-run.result c.args.n 0 ∙ long, runs_start _ _ _ (omega arith) c.unpack-run.ensures)

pub run_here-requires : goal.run_here-requires
run_here-requires c = let l = c.loop-i in
    let e : l.i - 1 + 1 ≡ l.i = omega arith in
    let r : RunsFrom l.run c.args.n c.args.covered (l.i - 1 + 1) = rw e l.invariant.1 in
    let b = behind_small l.run _ _ (l.i - 1) (omega arith) (omega arith) r in
    omega arith

pub loop-i-preserved : goal.loop-i-preserved
loop-i-preserved c = let l = c.loop-i in
    let e : l.i - 1 + 1 ≡ l.i = omega arith in
    let r : RunsFrom l.run c.args.n c.args.covered (l.i - 1 + 1) = rw e l.invariant.1 in
    (length-set l.run (l.i - 1) _ ∙ l.invariant.0, rw c.run_here.ensures (runs_more l.run _ _ (l.i - 1) (omega arith) (omega arith) r))

pub returns : goal.returns
returns c = let z : c.loop-i.i ≡ 0 = omega arith in rw z at c.loop-i.invariant.1
