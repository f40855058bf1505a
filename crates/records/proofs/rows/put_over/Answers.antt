-- After `count` turns all steps are put.
use Rattle.std.proofs.Common.{◌≡◌, ℕ, ap, ◌∙◌, arith}
use Rattle.records.proofs.Placing.{put_to, put_all_over}
use Rattle.records.proofs.rows.put_over.Goals as goal

pub returns : goal.returns
returns c =
    let e : c.loop-k.k ≡ c.args.rows.count = omega arith in
    c.loop-k.invariant ∙ ap (λ (k : ℕ). put_to c.args.rows.numbers k c.args.steps.now) e ∙ put_all_over c.args.rows.numbers c.args.rows.count c.args.steps.now c.requires.0
