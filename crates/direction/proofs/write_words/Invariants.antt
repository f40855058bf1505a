-- The words up to `place` are written, and with those from it on they are all.
use mathlib.Core.List.{map}
use lib.ListN.{drop}
use Rattle.laws.specs.Integers.{nat_of}
use Rattle.laws.proofs.Fill.{Filled}
use Rattle.direction.proofs.write_words.Given as goal

abbrev pub invariant-loop-place : goal.invariant-loop-place
invariant-loop-place l = Filled l.initial.direction l.direction l.place (map nat_of (drop l.place l.row)) (map nat_of l.row)
