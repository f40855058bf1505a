-- The steps are written from the last to the first: each turn writes the number of the place's step and goes to its parent, whose steps are the ones before.
use mathlib.Core.List.{List}
use Prim.Native.Nat.{◌<◌}
use lib.ListN.{length}
use Rattle.meaning.specs.State.{Hyp}
use Rattle.ways.specs.Back.{Chains, Behind}
use Rattle.ways.proofs.paths.path.Given as goal

abbrev pub invariant-loop-left : goal.invariant-loop-left
invariant-loop-left l = (hs : List Hyp) → Chains l.store hs → l.k < length hs → Behind hs l.k l.d l.out l.at l.left
