-- The steps are written from the last to the first: each turn writes the number of the place's step and goes to its parent, whose steps are the ones before.
use native.Mathlib.Omega.{arith}
use Prim.Native.Nat.{◌≤◌}
use lib.ListN.{length}
use Rattle.ways.proofs.Back.{back_goes}
use Rattle.ways.proofs.paths.path.Goals as goal
use Rattle.ways.proofs.paths.path.Goals.{After-place_at-x}

-- the list is as long as the longest path
room : (c : After-place_at-x) → c.depth-d.result ≤ length c.loop-left.out
room c =
    let q = c.requires.leads in
    omega (arith, c.depth-d.ensures q.list q.chains q.inside, q.short, c.requires.in_bounds)

pub loop-left-preserved : goal.loop-left-preserved
loop-left-preserved c =
    let p = c.loop-left in
    λ l g h. back_goes g _ _ p.out p.at p.left c.place_at-x.result c.loop-left-test.true p.auto.left (room (goal.at.loop-left-preserved c).After-place_at-x) c.place_at-x.ensures (p.invariant l g h)
