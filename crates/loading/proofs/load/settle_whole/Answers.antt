-- What questions 3 to 5 and 21 answer is the lines' refusal, and where they pass, what questions 6 and 20 answer.
use Rattle.std.proofs.lemmas.Result.{err_from_is_err_and}
use mathlib.Core.Path.{sym, ap, ◌∙◌}
use Rattle.loading.specs.Loaded.{refusal_of}
use Rattle.loading.proofs.Answers.{judged_few, judged_passed, stored_so, judged_so}
use Rattle.loading.proofs.load.settle_whole.Goals as goal

pub compare-requires-clause-tally_value : goal.compare-requires-clause-tally_value
compare-requires-clause-tally_value c = let a = c.args in
    let four = judged_passed a.s a.tally.now a.counted (sym c.judge.ensures ∙ ap refusal_of c.in_ok-judge.was) in
    let few = judged_few a.s a.tally.now four.0 in
    few

pub compare-requires-clause-tally_in_bounds : goal.compare-requires-clause-tally_in_bounds
compare-requires-clause-tally_in_bounds c = let a = c.args in
    let four = judged_passed a.s a.tally.now a.counted (sym c.judge.ensures ∙ ap refusal_of c.in_ok-judge.was) in
    let few = judged_few a.s a.tally.now four.0 in
    c.requires few

pub returns : goal.returns
returns c = λ form lines index₀ w counts.
    let a = c.args in
    let four = judged_passed a.s a.tally.now a.counted (sym c.judge.ensures ∙ ap refusal_of c.in_ok-judge.was) in
    c.compare.ensures form lines index₀ a.s w four.0 (sym (stored_so w counts four.0) ∙ four.1)

pub returns-in_err-judge : goal.returns-in_err-judge
returns-in_err-judge c = let p = err_from_is_err_and c.from_residual.result c.from_residual.ensures.1 in rw (p.1, p.2) (λ form lines index₀ w counts. judged_so w counts _ (sym (ap refusal_of c.in_err-judge.was) ∙ c.judge.ensures))
