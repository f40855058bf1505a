-- A state of another size changes nothing; the first one is the best so far; of others the larger score is.
use borrow.Author.Rules.{rules}
use mathlib.Core.Path.{◌≡◌}
use Rattle.laws.proofs.Got.{i64}
use Rattle.states.proofs.Answer.{raise_other, raise_first, raise_best}
use Rattle.states.proofs.best.raise.Goals as goal

pub returns-then-x-i : goal.returns-then-x-i
returns-then-x-i c = raise_other _ _ _ _ c.if-x-i.true

pub returns-in-Some : goal.returns-in-Some
returns-in-Some c =
    let s = c.args in
    let p : i64 c.in-Some.best ≡ c.in-Some.best = search rules in
    let q : i64 s.x.state.score ≡ s.x.state.score = search rules in
    let r : i64 c.max.result ≡ c.max.result = search rules in
    rw r (raise_best s.i s.top s.x.size s.x.state.score c.if-x-i.false c.in-Some.is (rw (p, q) at c.max.ensures.value))

pub returns-in-None : goal.returns-in-None
returns-in-None c =
    let s = c.args in
    let q : i64 s.x.state.score ≡ s.x.state.score = search rules in
    rw q (raise_first s.i s.top s.x.size s.x.state.score c.if-x-i.false c.in-None.is)
