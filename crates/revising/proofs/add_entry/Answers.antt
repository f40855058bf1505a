-- What the questions refuse is refused; where they pass, the line was put (Replies).
use Rattle.std.proofs.lemmas.Result.{err_from_is_err_and}
use native.Mathlib.Omega.{arith}
use mathlib.Core.Path.{sym, ap, ◌∙◌}
use Rattle.meaning.specs.Questions.{number}
use Rattle.meaning.specs.Reply.{reply_of}
use Rattle.meaning.specs.Revision.{add_refusal}
use Rattle.meaning.proofs.Chains.{refused_is}
use Rattle.revising.proofs.Books.{in_use, added_long}
use Rattle.revising.proofs.Replies.{passes, addable, add_refused, add_done}
use Rattle.revising.proofs.add_entry.Goals as goal

pub overflow_add-result : goal.overflow_add-result
overflow_add-result c =
    let a = c.args in
    let able = addable a.list.now a.used a.line.now (passes (add_refusal a.list.now a.used a.line.now) (sym c.check_addition.ensures ∙ ap reply_of c.in_ok-check_addition.was)) in
    omega (arith, able.fits, added_long (in_use a.list.now a.used able.asked) a.line.now able.is_p_lem)

pub returns-clause-result_value : goal.returns-clause-result_value
returns-clause-result_value c = let a = c.args in
    let passed = passes (add_refusal c.args.list.now c.args.used c.args.line.now) (sym c.check_addition.ensures ∙ ap reply_of c.in_ok-check_addition.was) in
    let able = addable a.list.now a.used a.line.now passed in
    let said = add_done a.list.now a.used a.line.now _ (sym (added_long (in_use a.list.now a.used able.asked) a.line.now able.is_p_lem)) passed in
    said.0

pub returns-clause-list_after : goal.returns-clause-list_after
returns-clause-list_after c = let a = c.args in
    let passed = passes (add_refusal c.args.list.now c.args.used c.args.line.now) (sym c.check_addition.ensures ∙ ap reply_of c.in_ok-check_addition.was) in
    let able = addable a.list.now a.used a.line.now passed in
    let said = add_done a.list.now a.used a.line.now _ (sym (added_long (in_use a.list.now a.used able.asked) a.line.now able.is_p_lem)) passed in
    c.put_entry.ensures ∙ said.1

pub returns-in_err-check_addition-clause-result_value : goal.returns-in_err-check_addition-clause-result_value
returns-in_err-check_addition-clause-result_value c =
    let a = c.args in
    let p = err_from_is_err_and c.from_residual.result c.from_residual.ensures.1 in rw (p.1, p.2)
    (add_refused a.list.now a.used a.line.now _
    (refused_is (add_refusal a.list.now a.used a.line.now) (number _) tt (sym c.check_addition.ensures ∙ ap reply_of c.in_err-check_addition.was))).0

pub returns-in_err-check_addition-clause-list_after : goal.returns-in_err-check_addition-clause-list_after
returns-in_err-check_addition-clause-list_after c =
    let a = c.args in
    (add_refused a.list.now a.used a.line.now _
    (refused_is (add_refusal a.list.now a.used a.line.now) (number _) tt (sym c.check_addition.ensures ∙ ap reply_of c.in_err-check_addition.was))).1
