-- Each turn goes back from the place that covers more words; at one place the steps after it decide.
use mathlib.Core.List.{List, [], ◌∷◌, ◌++◌}
use Prim.Native.Nat.{◌+◌}
use lib.ListN.{get_or}
use Rattle.meaning.specs.State.{Hyp}
use Rattle.store.specs.Store.{place_at}
use Rattle.ways.specs.Back.{nobody}
use Rattle.ways.specs.Codes.{step_of}
use Rattle.ways.specs.Ties.{Beside, Parting}
use Rattle.ways.proofs.order.comes_first.Given as goal

abbrev pub invariant-loop-a : goal.invariant-loop-a
invariant-loop-a l = (hs : List Hyp) → Beside l.store hs l.j l.o l.k → Parting l.store hs ((get_or hs l.j nobody).steps ++ (step_of l.o ∷ [])) (get_or hs l.k nobody).steps l.a l.s l.b l.t

-- the words that the two places cover
abbrev pub decreases-loop-a : goal.decreases-loop-a
decreases-loop-a l = (place_at l.store l.a).size + (place_at l.store l.b).size
