-- The row is that of the entry's words, the state is the next one, and the entry's positions are covered too.
use Prim.Native.Nat.{ℕ, ◌+◌}
use mathlib.Core.Path.{ap₂}
use Rattle.meaning.specs.declared.State.{State}
use Rattle.derivation.proofs.Rows.{next_by}
use Rattle.store.specs.declared.Place.{Place}
use Rattle.extending.specs.Extend.{next_place}
use Rattle.extending.proofs.next_place.Goals as goal

pub returns : goal.returns
unfolding next_place
returns c = λ e q.
    let a = c.args in
    ap₂ {C = Place} (λ (z : State) (m : ℕ). record { state = z; size = a.turn.spot.source.place.size + a.p.long; parent = a.turn.spot.source.at; step = m })
    (next_by a.index.now a.t a.p e a.turn.spot.first _ a.turn.spot.source.place.state c.next_state-state.result c.row_of-row.result (c.row_of-row.ensures.value e q) c.next_state-state.ensures)
    c.code.ensures
