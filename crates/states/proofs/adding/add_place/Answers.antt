-- What find_equal answers decides: an equal state is overwritten or stays, a new one is appended where there is room.
use Rattle.store.proofs.Indexing.{indexed_set}
use Rattle.states.proofs.adding.add_place.Goals as goal

pub returns-then-is_better-clause-indexed_after : goal.returns-then-is_better-clause-indexed_after
returns-then-is_better-clause-indexed_after c =
    indexed_set _ _ _ _ _ c.requires.indexed c.in-Some.ensures.0 c.put_place.ensures.put c.put_place.ensures.spare c.in-Some.ensures.1
