-- From the last position down, each place gets the run that begins there.
use Rattle.std.proofs.Common.{◌≡◌, length}
use Rattle.positions.specs.Runs.{RunsFrom}
use Rattle.positions.proofs.free_runs.Given as goal

abbrev pub invariant-loop-i : goal.invariant-loop-i
invariant-loop-i l = (length l.run ≡ 33) × RunsFrom l.run l.n l.covered l.i
