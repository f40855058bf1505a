-- A turn takes one record more; at the end the first 33 are taken, or all where there are fewer.
use Rattle.std.proofs.Common.{ℕ, ◌<◌, length, min, take, ap, ◌∙◌, arith}
use lib.ListN.{length-take}
use lib.Seq.{take_all}
use Rattle.meaning.specs.Derivation.{no_step}
use Rattle.records.proofs.Laws.{gather_more, gather_all}
use Rattle.records.proofs.gather.Goals as goal

pub loop-step-preserved : goal.loop-step-preserved
loop-step-preserved c =
    let l = c.loop-step in
    let n = c.at_most_33.result in
    let few : l.step-index < min (length (take n c.args.steps.now)) 33 = omega (arith, length-take n c.args.steps.now, c.at_most_33.ensures, c.loop-step-test.true) in
    gather_more (take n c.args.steps.now) l.step-index l.plain c.with_step-plain.result no_step few l.invariant c.with_step-plain.ensures

pub returns : goal.returns
returns c =
    let l = c.loop-step in
    let n = c.at_most_33.result in
    gather_all c.args.steps.now l.plain (l.invariant ∙ take_all l.step-index (take n c.args.steps.now) c.loop-step-test.false ∙ ap (λ (k : ℕ). take k c.args.steps.now) c.at_most_33.ensures)
