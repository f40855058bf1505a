-- The start state, then one set after the other.
use native.Mathlib.Omega.{arith}
use mathlib.Core.Path.{refl}
use lib.ListN.{length}
use Rattle.meaning.specs.Book.{book_of}
use Rattle.meaning.proofs.Demands.{direction_to}
use Rattle.states.proofs.Ghost.{some_state}
use Rattle.store.proofs.Indexing.{indexed_none}
use Rattle.sets.proofs.Visits.{start_put}
use Rattle.sets.proofs.search.Goals as goal

pub returns-then-store-lt8 : goal.returns-then-store-lt8
returns-then-store-lt8 c = omega (arith, some_state (book_of c.args.task.now.book.now) c.args.task.now.direction.now c.args.task.now.beam.width, c.if-store-lt8.true)

pub append_place-requires-clause-indexed : goal.append_place-requires-clause-indexed
append_place-requires-clause-indexed c = let h = c.if-store-lt8.false in
    indexed_none _ (length c.args.store.now) (omega arith) c.requires.store_value

pub loop-i-init : goal.loop-i-init
loop-i-init c = let a = c.append_place in start_put _ _ _ (direction_to _ c.args.task.now.searchable.prepared.directed) c.start.ensures refl a.ensures.put a.ensures.indexed_2
