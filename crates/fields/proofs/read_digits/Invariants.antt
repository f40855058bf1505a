-- The invariant: from the value so far at its end the text goes on as from v at `at`. A digit more is read of at most 999,999, so that the sum has seven digits at most.
use Prim.Native.Nat.{◌+◌, ◌≤◌}
use mathlib.Core.Path.{◌≡◌}
use mathlib.Core.Bool.{Bool}
use Rattle.fields.specs.Scan.{Digits}
use Rattle.fields.specs.Fields.{Onward}
use Rattle.fields.proofs.read_digits.Given as goal

abbrev pub invariant-loop-b : goal.invariant-loop-b
invariant-loop-b l = record {
  on : (book minus : Bool) → Onward book l.text (Digits minus l.v) l.at (Digits minus l.value) l.end;
  small : l.value ≤ 9999999;
  place : l.end ≡ l.at + l.b-index;
}
