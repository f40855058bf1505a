-- The invariant: the test of all ends is the test of those that are left.
use mathlib.Core.Path.{◌≡◌}
use lib.ListN.{drop}
use Rattle.round_parts.specs.Asked.{are_rising_to}
use Rattle.round_parts.proofs.ask.are_rising.Given as goal

abbrev pub invariant-loop-end : goal.invariant-loop-end
invariant-loop-end l = are_rising_to l.most l.before (drop l.end-index l.ends) ≡ are_rising_to l.most 0 l.ends
