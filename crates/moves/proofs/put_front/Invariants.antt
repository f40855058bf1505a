-- After i turns the first i numbers are put, and the others as they were.
use mathlib.Core.Path.{◌≡◌}
use Rattle.moves.proofs.Moving.{Moved}
use lib.ListN.{length}
use Rattle.moves.proofs.put_front.Given as goal

abbrev pub invariant-loop-i : goal.invariant-loop-i
invariant-loop-i l = (length l.list ≡ length l.initial.list) × Moved l.numbers l.initial.list l.i l.list
