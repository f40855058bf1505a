-- The option is passed over where the run is too short for it, and else the search's next state is added.
use Rattle.extending.proofs.Turns.{turn_skips, turn_can, turn_storable, turn_leads, turn_grows}
use Rattle.extending.proofs.extend_option.Goals as goal

pub returns-then-turn-p : goal.returns-then-turn-p
returns-then-turn-p c = turn_skips c.requires.turn_of c.phrase_at-p.ensures c.requires.growing c.if-turn-p.true

pub next_place-y-requires-clause-can_place : goal.next_place-y-requires-clause-can_place
next_place-y-requires-clause-can_place c = let of = c.phrase_at-p.ensures in
    turn_can c.requires.turn_of of c.if-turn-p.false

pub grow-requires-clause-leading : goal.grow-requires-clause-leading
grow-requires-clause-leading c = let of = c.phrase_at-p.ensures in
    let h = c.if-turn-p.false in
    let e = c.next_place-y.ensures _ of in
    turn_leads c.requires.turn_of of h _ e c.requires.growing

pub grow-requires-clause-storable : goal.grow-requires-clause-storable
grow-requires-clause-storable c = let of = c.phrase_at-p.ensures in
    let h = c.if-turn-p.false in
    let e = c.next_place-y.ensures _ of in
    turn_storable c.requires.turn_of of h _ e

pub returns : goal.returns
returns c =
    let of = c.phrase_at-p.ensures in
    turn_grows c.requires.turn_of of c.if-turn-p.false _ (c.next_place-y.ensures _ of) c.requires.growing _ c.grow.ensures
