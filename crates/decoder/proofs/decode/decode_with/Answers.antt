-- The questions in their order; then the lists of the search are ready.
use borrow.Author.Rules.{rules}
use native.Mathlib.Omega.{arith}
use mathlib.Core.Path.{refl, ◌∙◌}
use lib.ListN.{length}
use Rattle.laws.proofs.Linear.{signed}
use Rattle.meaning.specs.Direction.{word_count}
use Rattle.meaning.proofs.Demands.{direction_to}
use Rattle.decoder.proofs.Replies.{width_is, refuses_11, refuses_12, searches, made_searchable, room_is, room_both}
use Rattle.decoder.proofs.decode.decode_with.Goals as goal

pub returns-then-width-ltminus1 : goal.returns-then-width-ltminus1
returns-then-width-ltminus1 c = refuses_11 _ _ _ _ _ _ c.requires.prepared.passed c.requires.prepared.directed (omega (arith, signed, width_is c.args.beam.width _ (search rules) c.if-width-ltminus1.true)) c.refused.ensures

pub has_room-requires : goal.has_room-requires
has_room-requires c = let R = c.requires.prepared in let n = R.n_is in let f = direction_to _ R.directed in omega arith

pub returns-then-not-has_room : goal.returns-then-not-has_room
returns-then-not-has_room c = refuses_12 _ _ _ _ _ _ c.requires.prepared.passed c.requires.prepared.directed (omega (arith, signed, width_is c.args.beam.width _ (search rules) c.if-width-ltminus1.false)) (room_is c.args.lent.room (length c.args.words.now) c.requires.prepared.n_is c.has_room.ensures ∙ c.if-not-has_room.true) c.refused-then-not-has_room.ensures

pub list_options-requires-clause-direction_len_bound : goal.list_options-requires-clause-direction_len_bound
unfolding word_count
list_options-requires-clause-direction_len_bound c = direction_to _ c.requires.prepared.directed

pub invariant_of-task : goal.invariant_of-task
invariant_of-task c =
    let o = c.list_options in
    record { searchable = made_searchable c.requires.prepared o.ensures (let k = o.auto.options in search rules) }

pub returns : goal.returns
returns c =
    let R = c.requires.prepared in
    let l = room_is c.args.lent.room (length c.args.words.now) R.n_is c.has_room.ensures ∙ c.if-not-has_room.false in
    let fits = (room_both (word_count c.args.direction.now) c.args.lent.room (length c.args.words.now) l).0 in
    let b = c.search_for_best in
    searches _ _ _ _ _ _ R.passed R.directed (omega (arith, signed, width_is c.args.beam.width _ (search rules) c.if-width-ltminus1.false)) l fits (direction_to _ R.directed) _ _ b.ensures.store_after _ refl _ b.ensures.searched
