-- Only sections begin before the n-gram; each line takes some bytes.
use Prim.Native.Nat.{◌-◌}
use mathlib.Core.Path.{◌≡◌}
use lib.ListN.{length}
use Rattle.arpa_model.proofs.Walks.{Going}
use Rattle.arpa_model.proofs.walk.next_gram.Given as goal

abbrev pub invariant-loop-line : goal.invariant-loop-line
invariant-loop-line l = Going l.text l.top l.initial.order l.initial.at l.places l.order l.at × (l.row ≡ l.initial.row)

abbrev pub decreases-loop-line : goal.decreases-loop-line
decreases-loop-line l = length l.text - l.at
