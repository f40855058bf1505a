-- The lines that the text gave so far are read.
use mathlib.Core.Path.{◌≡◌}
use lib.ListN.{length}
use Rattle.meaning.specs.Sheet.{direction_texts}
use Rattle.round_lines.proofs.Reading.{Reads}
use Rattle.round_lines.proofs.read_lines.Given as goal

abbrev pub invariant-loop-line : goal.invariant-loop-line
invariant-loop-line l =
    (goal.iterator-loop-line).can_next l.line-iterator
    × (goal.iterator-loop-line).is_finite l.line-iterator
    × (l.n ≡ length l.yielded)
    × Reads (direction_texts l.text) l.directions l.ends l.n l.at
