-- A state of another size changes nothing; the first one is the best; another is, if it is better.
use native.Mathlib.Omega.{arith}
use mathlib.Core.Path.{◌≡◌, sym, ap, ◌∙◌}
use mathlib.Core.Bool.{Bool, true, false, cond}
use mathlib.Core.List.{List}
use Prim.Native.Nat.{◌<◌}
use Rattle.meaning.specs.State.{Hyp}
use Rattle.store.specs.Store.{place_at}
use Rattle.std.specs.Prelude.{Some}
use Rattle.store.specs.declared.Place.{Place}
use Rattle.ways.specs.Ties.{Walked}
use Rattle.states.proofs.Testing.{places_beside}
use Rattle.states.specs.Shows.{Lists}
use Rattle.states.specs.Answer.{picked, with_place}
use Rattle.states.proofs.Answer.{chosen_better}
use Rattle.states.proofs.best.better_of.Goals as goal
use Rattle.states.proofs.best.better_of.Goals.{After-is_better, After-place_at-x, In-Some}

size_is : (c : After-place_at-x) → c.place_at-x.result.size ≡ (place_at c.args.store.now c.args.k).size
size_is c = ap (λ (x : Place). x.size) c.place_at-x.ensures

-- the place of the best so far is an earlier one, of n words
earlier : (c : In-Some) → (c.in-Some.j < c.args.k) × ((place_at c.args.store.now c.in-Some.j).size ≡ c.args.n)
earlier c = rw c.in-Some.is at c.requires.below

-- the better of the two
chosen : (c : After-is_better) {r : Bool} → c.is_better.result ≡ r → (l : List Hyp) → Walked c.args.store.now l → Lists c.args.n c.args.store.now c.args.count l
    → picked l (cond r (Some c.args.k) (Some c.in-Some.j)) ≡ with_place c.args.n c.args.store.now l c.args.best c.args.k
chosen c {r} e l W L =
    let n = c.args.n in
    let h : (c.in-Some.j < c.args.k) × ((place_at c.args.store.now c.in-Some.j).size ≡ n) = rw c.in-Some.is at c.requires.below in
    let s : c.place_at-x.result.size ≡ (place_at c.args.store.now c.args.k).size = ap (λ (x : Place). x.size) c.place_at-x.ensures in
    chosen_better n _ _ l L W c.args.best _ _ c.place_at-x.result c.place_at-y.result c.place_at-x.ensures c.place_at-y.ensures
    h.0 c.requires.walks.1 (sym s ∙ c.if-x-n.false) h.1 c.in-Some.is (rw e at c.is_better.ensures)

pub is_better-requires : goal.is_better-requires
is_better-requires c =
    let h = earlier (goal.at.is_better-requires c).In-Some in
    let q = c.requires.walks in
    let s : c.place_at-x.result.size ≡ (place_at c.args.store.now c.args.k).size = ap (λ (x : Place). x.size) c.place_at-x.ensures in
    record { list = q.0.list; beside = places_beside q.0.walked c.place_at-x.result c.place_at-x.ensures h.0 (omega (arith, q.0.long, q.1)) (h.1 ∙ sym (sym s ∙ c.if-x-n.false)) }

pub returns-then-is_better-clause-result_value : goal.returns-then-is_better-clause-result_value
returns-then-is_better-clause-result_value c = chosen (goal.at.returns-then-is_better-clause-result_value c).After-is_better {r = true} c.if-is_better.true

pub returns-else-is_better-clause-result_value : goal.returns-else-is_better-clause-result_value
returns-else-is_better-clause-result_value c = chosen (goal.at.returns-else-is_better-clause-result_value c).After-is_better {r = false} c.if-is_better.false
