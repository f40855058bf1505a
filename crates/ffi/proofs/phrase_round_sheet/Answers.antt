-- The length of the sheet or the refusal, as a signed number.
use native.Mathlib.Omega.{arith}
use lib.ListN.{length}
use mir.Facts.{to_z-of_z}
use Rattle.lists.specs.Steps.{lent_numbers}
use Rattle.ffi.proofs.Codes.{sheet_counted}
use Rattle.ffi.proofs.phrase_round_sheet.Goals as goal

pub count_or_refusal-requires : goal.count_or_refusal-requires
count_or_refusal-requires c =
    let v = rw (to_z-of_z c.ranges.width) at c.round_sheet-reply.ensures.result_value in
    let s = rw (to_z-of_z c.ranges.width) at c.round_sheet-reply.ensures.sheet_after in
    let a = c.args in
    sheet_counted a.book.now a.directions.now a.ends.now a.width (lent_numbers a.steps.now a.words.now a.store.now) (length a.answers.now) a.sheet.now _
    c.round_sheet-reply.result v s (omega arith)
