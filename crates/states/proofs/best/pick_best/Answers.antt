-- What is left of the list takes the best place so far to the answer of the whole list.
use mathlib.Core.Path.{sym, ◌∙◌}
use Rattle.states.proofs.Answer.{pick_turn, pick_ends}
use Rattle.states.proofs.best.pick_best.Goals as goal

pub loop-k-preserved : goal.loop-k-preserved
loop-k-preserved c =
    let s = c.args in
    let p = c.loop-k in
    let e = c.better_of-best.ensures in (
      e.below_2,
      λ l W L. pick_turn s.n s.store.now s.count l L p.best c.better_of-best.result p.k c.loop-k-test.true (e.result_value l W L) ∙ p.invariant.1 l W L,
    )

pub returns-clause-l_value : goal.returns-clause-l_value
returns-clause-l_value c = let s = c.args in
    let p = c.loop-k in
    λ l W L. sym (p.invariant.1 l W L) ∙ pick_ends s.n s.store.now s.count l L p.best p.k c.loop-k-test.false
