-- The numbers are copied; three of them are a step.
use Rattle.std.proofs.Common.{ℕ, ◌≡◌, ◌*◌, List, ◌++◌, length, drop, ap, arith}
use Rattle.lists.proofs.Threes.{put_steps}
use Rattle.lists.proofs.steps.put_all.Goals as goal

pub returns : goal.returns
returns c =
    let a = c.args in
    let long : length a.plain.numbers ≡ 99 = omega arith in
    put_steps a.plain a.steps.now _ (3 * a.plain.count) (omega arith) (omega arith) (ap (λ (l : List ℕ). l ++ drop (3 * a.plain.count) a.steps.now) c.copy_from_slice.ensures.after)
