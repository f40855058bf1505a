-- The invariant: the run from `end` on is what is left of the run from `at` on, whatever test the closure is.
use Prim.Native.Nat.{ℕ, ◌+◌, ◌-◌, ◌≤◌}
use mathlib.Core.Path.{◌≡◌}
use mathlib.Core.Bool.{Bool}
use lib.ListN.{length, drop}
use Rattle.tokens.specs.Scan.{run_length}
use Rattle.tokens.proofs.scan.run_end.Given as goal

abbrev pub invariant-loop-end : goal.invariant-loop-end
invariant-loop-end g l = record {
  on : (test : ℕ → Bool) → ((b : ℕ) (r : Bool) → g.F.Fn.post l.passes (b, tt) r → r ≡ test b) → l.end + run_length test (drop l.end l.text) ≡ l.at + run_length test (drop l.at l.text);
  inside : l.end ≤ length l.text;
}

abbrev pub decreases-loop-end : goal.decreases-loop-end
decreases-loop-end g l = length l.text - l.end
