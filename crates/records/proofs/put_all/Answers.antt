-- After `count` turns all steps are put.
use Rattle.std.proofs.Common.{◌≡◌, ℕ, ap, ◌∙◌, arith}
use Rattle.records.proofs.Laws.{put_from, put_over}
use Rattle.records.proofs.put_all.Goals as goal

pub returns : goal.returns
returns c =
    let e : c.loop-k.k ≡ c.args.plain.count = omega arith in
    c.loop-k.invariant ∙ ap (λ (k : ℕ). put_from c.args.plain k c.args.steps.now) e ∙ put_over c.args.plain c.args.steps.now c.requires.0
