-- The lines that were put and those that are left are all lines (Putting); each n-gram takes some bytes.
use Prim.Native.Nat.{◌-◌}
use mathlib.Core.Path.{◌≡◌}
use lib.ListN.{length}
use Rattle.arpa_model.proofs.Putting.{Writing}
use Rattle.arpa_model.proofs.write.write_model.Given as goal

abbrev pub invariant-loop-met : goal.invariant-loop-met
invariant-loop-met l = Writing l.text l.words.list.now l.initial.from l.initial.out l.from l.n l.out × (length l.row ≡ 5)

abbrev pub decreases-loop-met : goal.decreases-loop-met
decreases-loop-met l = length l.text - l.from.at
