-- A weight stands behind the words where the line has one more field than they and the score.
use mathlib.Core.Path.{◌≡◌, refl}
use mir.Syntax.{w32}
use mir.Val.{to_z, of_z}
use borrow.Author.Rules.{rules}
use Rattle.ngram_lines.proofs.Values.{weight_noted, weight_none}
use Rattle.ngram_lines.proofs.weight_of.Goals as goal

pub value_at-requires-clause-k_value : goal.value_at-requires-clause-k_value
value_at-requires-clause-k_value c = let p = c.requires in
    let n = c.args.at.order in
    (weight_noted p.at p.top n p.order_to p.is c.if-at-order.true).0

pub returns-then-at-order : goal.returns-then-at-order
returns-then-at-order c = λ fields top f g.
    let r : to_z w32 (of_z w32 c.value_at.result) ≡ c.value_at.result = search rules in
    rw (r, (weight_noted f top c.args.at.order c.requires.order_to g c.if-at-order.true).1) c.value_at.ensures

pub returns : goal.returns
returns c = λ fields top f g.
    rw (weight_none f top c.args.at.order c.requires.order_to g c.if-at-order.false) (record { in_range = refl; same = λ _. refl })
