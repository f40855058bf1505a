-- After i turns the first i numbers are put, and the others as they were.
use native.Mathlib.Omega.{arith}
use borrow.Author.Rules.{rules}
use lib.ListN.{length-set}
use Rattle.moves.proofs.Moving.{move_more, moved_all}
use Rattle.moves.proofs.put_front.Goals as goal

pub loop-i-preserved : goal.loop-i-preserved
loop-i-preserved c =
    let a = c.args in
    let l = c.loop-i in
    (simp length-set l.invariant.0, move_more a.numbers.now a.list.now l.list l.i (omega arith) (omega arith) l.invariant.1 (search rules))

pub returns : goal.returns
returns c =
    let a = c.args in
    let l = c.loop-i in
    moved_all a.numbers.now a.list.now l.list l.i (omega arith) l.invariant.1
