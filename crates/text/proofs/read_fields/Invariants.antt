-- The invariant: the list holds the numbers of the fields so far, and what the rest of the text gives will make it whole; the rest ends with a line exactly where the whole text does. There are no more numbers than bytes.
use mathlib.Core.Path.{◌≡◌}
use Prim.Native.Nat.{◌-◌, ◌≤◌}
use lib.ListN.{length, drop}
use Rattle.fields.specs.Scan.{run, at_line, emit}
use Rattle.fields.specs.Fields.{start}
use Rattle.text.proofs.Row.{Writing}
use Rattle.text.proofs.read_fields.Given as goal

abbrev pub invariant-loop-at : goal.invariant-loop-at
invariant-loop-at l = record {
  written : Writing l.initial.list l.list l.n (emit l.book (start l.line) (drop l.at l.text)) (emit l.book (start l.first) l.text);
  ends : at_line (run l.book (start l.line) (drop l.at l.text)) ≡ at_line (run l.book (start l.first) l.text);
  few : l.n ≤ l.at;
  within : l.at ≤ length l.text;
}

abbrev pub decreases-loop-at : goal.decreases-loop-at
decreases-loop-at l = length l.text - l.at
