-- The decode on plain numbers is asked, its steps are put as numbers, and its reply is told.
use Rattle.std.specs.declared.result.Result.{Result}
use Rattle.meaning.specs.declared.Refusal.{Refusal}
use Rattle.meaning.specs.declared.Answer.{Answer}
use native.Mathlib.Omega.{arith}
use Prim.Native.Nat.{◌/◌}
use mathlib.Core.Path.{◌≡◌, sym, ap, ◌∙◌, subst}
use lib.IntN.{ℤ}
use lib.ListN.{length}
use mir.Syntax.{w32, w64}
use mir.Val.{to_z, of_z}
use Rattle.decoder.specs.Decodes.{PlainDecodes}
use Rattle.meaning.specs.Reply.{reply_of}
use Rattle.meaning.specs.Reply.{filled_with}
use Rattle.ffi.specs.Calls.{zero_or_refusal, decode_report}
use Rattle.round_parts.proofs.Counted.{countable}
use Rattle.ffi.proofs.Decoding.{decoded_numbers_lem}
use Rattle.meaning.proofs.Filled.{filled_none}
use borrow.Author.Rules.{rules}
use Rattle.ffi.proofs.phrase_decode.Goals as goal
use Rattle.ffi.proofs.phrase_decode.Goals.{Start, in-Ok, in_default}

-- the width, read from the number that was handed on
width_read : (s : Start) → to_z w64 (of_z w64 s.args.width) ≡ s.args.width
width_read s = search rules

pub put_answer-requires : goal.put_answer-requires
put_answer-requires c =
    let D = c.decode_plain-told.ensures in
    countable _ _ _ _ _ _ _ _ _ D (omega arith) (omega arith) (omega arith) c.in-Ok.a c.in-Ok.is

pub returns : goal.returns
returns c =
    let a = c.args in
    let told = c.decode_plain-told in
    let width = width_read (goal.at.returns c).Start in
    let same : c.match-reply.reply ≡ told.result.reply = elim c.match-reply.branch [ in-Ok w ↦ w.reply-is ∙ sym w.in-Ok.is | in_default w ↦ w.reply-is ] in
    let back : to_z w32 (of_z w32 c.zero_or_refusal.result) ≡ c.zero_or_refusal.result = search rules in
    let reported : c.match-reply.report ≡ filled_with (decode_report (reply_of told.result.reply)) a.report.now =
    elim c.match-reply.branch [ in-Ok w ↦ w.report-is ∙ w.put_answer.ensures ∙ sym (ap (λ (r : Result Answer Refusal). filled_with (decode_report (reply_of r)) a.report.now) w.in-Ok.is) | in_default w ↦ w.report-is ∙ filled_none a.report.now ∙ sym (ap (λ (r : Result Answer Refusal). filled_with (decode_report (reply_of r)) a.report.now) w.in_default.is) ] in
    decoded_numbers_lem a.book.now a.direction.now a.width a.steps.now c.put_all.new.steps a.words.now told.new.words a.store.now told.new.store told.result
    (subst (λ (w : ℤ). PlainDecodes a.book.now a.direction.now w (length a.steps.now / 3) a.words.now told.new.words a.store.now told.new.store told.result) width told.ensures)
    a.report.now c.match-reply.report _ c.put_all.ensures
    (back ∙ c.zero_or_refusal.ensures ∙ ap (λ (r : Result Answer Refusal). zero_or_refusal (reply_of r)) same)
    reported
