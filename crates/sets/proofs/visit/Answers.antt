-- A place of another set and one out of the width are passed over; any other is extended by every option.
use borrow.Author.Rules.{rules}
use borrow.Author.Tests.{ne_eqb}
use native.Mathlib.Omega.{arith}
use mathlib.Core.Path.{◌≡◌, sym, ◌∙◌, ap, subst}
use lib.IntN.{ℤ}
use mir.Val.{to_z, of_z}
use mir.Syntax.{w64}
use Rattle.laws.specs.Integers.{Within}
use Rattle.meaning.specs.Book.{book_of}
use Rattle.meaning.specs.State.{score_bound}
use Rattle.meaning.proofs.Demands.{direction_to}
use Rattle.meaning.proofs.Ranges.{loaded_ranged}
use Rattle.states.specs.Ghost.{in_width, top_of}
use Rattle.store.specs.declared.Place.{Place}
use Rattle.states.proofs.Ghost.{here_inside, passed, dropped, here_score, top_small}
use Rattle.sets.proofs.Visits.{to_extend}
use Rattle.sets.proofs.visit.Goals as goal
use Rattle.sets.proofs.visit.Goals.{After-is_within}

tested : (c : After-is_within) → (c.is_within.result ≡ in_width c.args.task.now.beam.width (top_of (book_of c.args.task.now.book.now) c.args.task.now.direction.now c.args.task.now.beam.width c.args.candidate.set) c.place_at-x.result.state.score)
tested c =
    let y = c.place_at-x.result.state.score in
    let p : to_z w64 (of_z w64 c.args.task.now.beam.width) ≡ c.args.task.now.beam.width = search rules in
    let q : to_z w64 (of_z w64 c.args.candidate.top) ≡ c.args.candidate.top = search rules in
    c.is_within.ensures ∙ ap (λ (w : ℤ). in_width w (to_z w64 (of_z w64 c.args.candidate.top)) y) p ∙ ap (λ (z : ℤ). in_width c.args.task.now.beam.width z y) (q ∙ c.requires.top_value)

pub place_at-x-requires : goal.place_at-x-requires
place_at-x-requires c = here_inside _ _ _ c.requires.levelling c.requires.set_lt_n.1

pub returns-then-x-candidate : goal.returns-then-x-candidate
returns-then-x-candidate c = passed _ _ _ c.requires.levelling c.requires.set_lt_n.1 (ne_eqb _ _ (λ z. c.if-x-candidate.true (ap (λ (y : Place). y.size) c.place_at-x.ensures ∙ z)))

pub is_within-requires : goal.is_within-requires
is_within-requires c =
    let R = c.args.task.now.searchable.prepared in
    let l = loaded_ranged _ R.passed in
    let few = direction_to _ R.directed in
    let q : to_z w64 (of_z w64 c.args.candidate.top) ≡ c.args.candidate.top = search rules in
    (subst (Within score_bound) (sym (q ∙ c.requires.top_value)) (top_small _ _ _ l few _), here_score _ _ _ c.requires.levelling c.requires.set_lt_n.1 l few (let h = c.requires.set_lt_n.0 in let e = R.n_is in omega arith) c.place_at-x.ensures c.if-x-candidate.false)

pub returns-then-not-is_within : goal.returns-then-not-is_within
returns-then-not-is_within c = dropped _ _ _ c.requires.levelling c.requires.set_lt_n.1
    (ap (λ (y : Place). in_width c.args.task.now.beam.width (top_of (book_of c.args.task.now.book.now) c.args.task.now.direction.now c.args.task.now.beam.width c.args.candidate.set) y.state.score) (sym c.place_at-x.ensures)
    ∙ sym (tested (goal.at.returns-then-not-is_within c).After-is_within) ∙ c.if-not-is_within.true)

pub extend_all-requires-clause-chosen : goal.extend_all-requires-clause-chosen
extend_all-requires-clause-chosen c = let u = to_extend _ _ _ c.requires.levelling c.requires.set_lt_n.1 c.place_at-x.ensures c.if-x-candidate.false (sym (tested (goal.at.extend_all-requires-clause-chosen c).After-is_within) ∙ c.if-not-is_within.false) (let h = c.requires.set_lt_n.0 in let e = c.args.task.now.searchable.prepared.n_is in omega arith) in
    let h = here_inside _ _ _ c.requires.levelling c.requires.set_lt_n.1 in
    (u.0, search rules)

pub extend_all-requires-clause-growing : goal.extend_all-requires-clause-growing
extend_all-requires-clause-growing c = let u = to_extend _ _ _ c.requires.levelling c.requires.set_lt_n.1 c.place_at-x.ensures c.if-x-candidate.false (sym (tested (goal.at.extend_all-requires-clause-growing c).After-is_within) ∙ c.if-not-is_within.false) (let h = c.requires.set_lt_n.0 in let e = c.args.task.now.searchable.prepared.n_is in omega arith) in
    u.1
