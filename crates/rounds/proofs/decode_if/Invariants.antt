-- The invariant: what was asked has passed, and k directions are decoded.
use mathlib.Core.Path.{◌≡◌}
use lib.ListN.{length}
use Rattle.rounds.proofs.Going.{Going}
use Rattle.rounds.proofs.Whole.{Ready}
use Rattle.rounds.proofs.decode_if.Given as goal

abbrev pub invariant-loop-k : goal.invariant-loop-k
invariant-loop-k l = Ready l.book l.directions l.ends l.initial.steps l.initial.words l.initial.store l.initial.answers l.enough l.index l.counts × Going l.book l.directions l.ends (l.width) l.initial.steps l.initial.words l.initial.store l.initial.answers l.k l.from l.swept l.steps l.words l.store l.answers × (131138 ≡ length l.options)
