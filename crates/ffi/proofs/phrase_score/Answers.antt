-- The first 33 steps decide; the score with its counts or the refusal is what C is told.
use native.Mathlib.Omega.{arith}
use mathlib.Core.Path.{sym, ap, ◌∙◌}
use Rattle.meaning.specs.Reply.{Reply, reply_of}
use Rattle.meaning.specs.Reply.{filled_with}
use Rattle.meaning.specs.declared.Totals.{Totals}
use Rattle.phrase.proofs.Front.{gathered_decide}
use Rattle.lists.specs.Steps.{records_in}
use Rattle.ffi.specs.Calls.{zero_or_refusal, score_report}
use Rattle.records.specs.Plain.{steps_of}
use Rattle.records.proofs.Laws.{count_steps}
use Rattle.ffi.proofs.Scoring.{few_supplied}
use Rattle.meaning.proofs.Filled.{filled_none}
use borrow.Author.Rules.{rules}
use mathlib.Core.Path.{◌≡◌}
use mir.Syntax.{w32}
use mir.Val.{to_z, of_z}
use Rattle.std.specs.declared.result.Result.{Result}
use Rattle.meaning.specs.declared.Refusal.{Refusal}
use Rattle.ffi.proofs.phrase_score.Goals as goal
use Rattle.ffi.proofs.phrase_score.Goals.{in-Ok, in_default}

pub put_totals-requires : goal.put_totals-requires
put_totals-requires c =
    let a = c.args in
    let p = c.gather-plain in
    let e = sym c.score_plain-reply.ensures ∙ ap reply_of c.in-Ok.is in
    few_supplied a.book.now a.direction.now (steps_of p.result) c.in-Ok.totals (omega (arith, count_steps p.result p.result.count, p.ensures.1)) e

pub returns-clause-value : goal.returns-clause-value
returns-clause-value c = let a = c.args in
    let r = c.score_plain-reply in
    let e = gathered_decide a.book.now a.direction.now (records_in a.steps.now) c.gather-plain.result r.result c.gather-plain.ensures r.ensures in
    let same : c.match-reply.reply ≡ r.result = elim c.match-reply.branch [ in-Ok w ↦ w.reply-is ∙ sym w.in-Ok.is | in_default w ↦ w.reply-is ] in
    let back : to_z w32 (of_z w32 c.zero_or_refusal.result) ≡ c.zero_or_refusal.result = search rules in
    back ∙ c.zero_or_refusal.ensures ∙ ap (λ (x : Result Totals Refusal). zero_or_refusal (reply_of x)) same ∙ ap (zero_or_refusal {A = Totals}) e

pub returns-clause-report_after : goal.returns-clause-report_after
returns-clause-report_after c = let a = c.args in
    let r = c.score_plain-reply in
    let e = gathered_decide a.book.now a.direction.now (records_in a.steps.now) c.gather-plain.result r.result c.gather-plain.ensures r.ensures in
    elim c.match-reply.branch [ in-Ok w ↦ w.report-is ∙ w.put_totals.ensures ∙ ap (λ (x : Reply Totals). filled_with (score_report x) a.report.now) (sym (ap reply_of w.in-Ok.is) ∙ e) | in_default w ↦ w.report-is ∙ filled_none a.report.now ∙ ap (λ (x : Reply Totals). filled_with (score_report x) a.report.now) (sym (ap reply_of w.in_default.is) ∙ e) ]
