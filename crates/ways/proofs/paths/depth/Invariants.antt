-- Each turn goes to the parent, whose steps are one fewer; the first place has none, and the place k at most 32.
use mathlib.Core.List.{List}
use Prim.Native.Nat.{◌+◌, ◌-◌, ◌<◌, ◌≤◌}
use lib.ListN.{length, get_or}
use Rattle.meaning.specs.State.{Hyp}
use Rattle.ways.specs.Back.{nobody}
use mathlib.Core.Path.{◌≡◌}
use Rattle.ways.specs.Back.{Chains}
use Rattle.ways.proofs.paths.depth.Given as goal

abbrev pub invariant-loop-at : goal.invariant-loop-at
invariant-loop-at l = (l.d ≤ 32) × ((hs : List Hyp) → Chains l.store hs → l.k < length hs → (l.at < length hs) × (length (get_or hs l.at nobody).steps + l.d ≡ length (get_or hs l.k nobody).steps))

abbrev pub decreases-loop-at : goal.decreases-loop-at
decreases-loop-at l = 33 - l.d
