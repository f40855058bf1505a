-- What is left of the list takes the best score so far to that of the whole list.
use borrow.Author.Rules.{rules}
use mathlib.Core.Path.{◌≡◌, sym, ap, ◌∙◌}
use Prim.Native.Nat.{◌+◌}
use lib.IntN.{ℤ, pos}
use lib.ListN.{drop}
use Rattle.std.specs.Prelude.{Option, unwrap_or}
use Rattle.laws.proofs.Got.{i64}
use Rattle.store.specs.Store.{place_at}
use Rattle.states.specs.Answer.{raised, top_from}
use Rattle.store.specs.declared.Place.{Place}
use Rattle.states.proofs.Answer.{top_is, top_turn, top_end}
use Rattle.states.proofs.best.top_score.Goals as goal

pub loop-k-preserved : goal.loop-k-preserved
loop-k-preserved c =
    let s = c.args in
    let p = c.loop-k in
    let e : c.raise-top.result ≡ raised s.i p.top (place_at s.store.now p.k).size (place_at s.store.now p.k).state.score =
    c.raise-top.ensures ∙ ap (λ (x : Place). raised s.i p.top x.size x.state.score) c.place_at.ensures in
    λ n l g. ap (λ (t : Option ℤ). top_from s.i t (drop (p.k + 1) l)) e ∙ top_turn n _ _ l g s.i p.k p.top c.loop-k-test.true ∙ p.invariant n l g

pub returns : goal.returns
returns c =
    let s = c.args in
    let p = c.loop-k in
    let q : i64 c.unwrap_or.result ≡ c.unwrap_or.result = search rules in
    λ n l g. q ∙ c.unwrap_or.ensures ∙ ap (λ (t : Option ℤ). unwrap_or t (pos 0)) (sym (top_end n _ _ l g s.i p.k p.top c.loop-k-test.false) ∙ p.invariant n l g) ∙ top_is s.i l
