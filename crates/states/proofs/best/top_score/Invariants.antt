-- What is left of the list takes the best score so far to that of the whole list.
use mathlib.Core.Path.{◌≡◌}
use mathlib.Core.List.{List}
use Prim.Native.Nat.{ℕ}
use lib.ListN.{drop}
use Rattle.meaning.specs.State.{Hyp}
use Rattle.std.specs.Prelude.{None}
use Rattle.states.specs.Shows.{Lists}
use Rattle.states.specs.Answer.{top_from}
use Rattle.states.proofs.best.top_score.Given as goal

abbrev pub invariant-loop-k : goal.invariant-loop-k
invariant-loop-k l = (n : ℕ) (hs : List Hyp) → Lists n l.store l.count hs → top_from l.i l.top (drop l.k hs) ≡ top_from l.i None hs
