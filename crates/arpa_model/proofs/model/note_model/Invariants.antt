-- What is known and what is left answer together what all n-grams do (Noting); each n-gram takes some bytes.
use Prim.Native.Nat.{◌-◌}
use mathlib.Core.Path.{◌≡◌}
use lib.ListN.{length}
use Rattle.arpa_model.proofs.Noting.{Noting}
use Rattle.arpa_model.proofs.model.note_model.Given as goal

abbrev pub invariant-loop-met : goal.invariant-loop-met
invariant-loop-met l = Noting l.text l.words.list.now l.initial.from l.initial.model l.initial.grams l.initial.tally l.from l.model l.grams l.tally × (length l.row ≡ 5)

abbrev pub decreases-loop-met : goal.decreases-loop-met
decreases-loop-met l = length l.text - l.from.at
