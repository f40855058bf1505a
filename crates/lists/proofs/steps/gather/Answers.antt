-- The numbers are copied; three of them are a step.
use Rattle.std.proofs.Common.{ℕ, ◌*◌, List, ◌++◌, replicate, drop, ap, arith}
use Rattle.lists.proofs.Threes.{gathered}
use Rattle.lists.proofs.steps.gather.Goals as goal

pub returns : goal.returns
returns c =
    let a = c.args in
    let count = c.at_most_33-count.result in
    let rest : List ℕ = drop (3 * count) (replicate 99 0) in
    (gathered a.steps.now _ rest count (3 * count) c.at_most_33-count.ensures (omega arith) (ap (λ (l : List ℕ). l ++ rest) c.copy_from_slice.ensures.after), omega arith)
