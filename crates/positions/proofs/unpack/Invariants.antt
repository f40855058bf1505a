-- What is left of the number holds the digits that are still to come.
use Rattle.std.proofs.Common.{◌≡◌, ◌-◌, length, drop}
use Rattle.laws.specs.Bits.{bits_of}
use Rattle.positions.specs.Runs.{Unpacked}
use Rattle.positions.proofs.unpack.Given as goal

abbrev pub invariant-loop-digit : goal.invariant-loop-digit
invariant-loop-digit l = record {
  ends : l.digit-index-end ≡ l.n;
  long : length l.digit-items ≡ l.n;
  unpacked : Unpacked l.digit-items l.n l.covered l.digit-index;
  left : bits_of (l.n - l.digit-index) l.rest ≡ drop l.digit-index (bits_of l.n l.covered);
}
