-- The book's refusal is the removal's; where the book passes, the entry is looked for.
use Rattle.std.proofs.lemmas.Result.{err_from_is_err_and}
use mathlib.Core.Path.{sym, ap, ◌∙◌}
use Rattle.meaning.specs.Questions.{number}
use Rattle.meaning.specs.Reply.{reply_of}
use Rattle.meaning.specs.Revision.{in_use_refusal}
use Rattle.meaning.proofs.Chains.{refused_is}
use Rattle.revising.proofs.Replies.{remove_in_use, remove_refused}
use Rattle.revising.proofs.remove_entry.Goals as goal

pub returns-in_err-check_in_use-clause-list_after : goal.returns-in_err-check_in_use-clause-list_after
returns-in_err-check_in_use-clause-list_after c =
    let a = c.args in
    (remove_refused a.list.now a.used a.entry _ (remove_in_use a.list.now a.used a.entry _
    (refused_is (in_use_refusal a.list.now a.used) (number _) tt (sym c.check_in_use.ensures ∙ ap reply_of c.in_err-check_in_use.was)))).1

pub returns-in_err-check_in_use-clause-result_value : goal.returns-in_err-check_in_use-clause-result_value
returns-in_err-check_in_use-clause-result_value c =
    let a = c.args in
    let p = err_from_is_err_and c.from_residual.result c.from_residual.ensures.1 in rw (p.1, p.2)
    (remove_refused a.list.now a.used a.entry _ (remove_in_use a.list.now a.used a.entry _
    (refused_is (in_use_refusal a.list.now a.used) (number _) tt (sym c.check_in_use.ensures ∙ ap reply_of c.in_err-check_in_use.was)))).0
