-- As `decode_rows`.
use mathlib.Core.Path.{refl}
use mir.Facts.{to_z-of_z}
use Rattle.round_rows.proofs.Spread.{sheets_rows}
use Rattle.round_rows.proofs.sheet_rows.Goals as goal

pub returns : goal.returns
returns c =
    let call = c.round_sheet-reply in
    sheets_rows c.args.book.now c.args.directions.now c.args.ends.now c.args.width c.args.room c.count_for-count.result 6144 c.args.words.now _ c.args.store.now _ c.args.answers.now _ _
    c.count_for-count.ensures refl call.auto.steps c.args.sheet.now _ call.result (rw (to_z-of_z c.ranges.width) at call.ensures.result_value) (rw (to_z-of_z c.ranges.width) at call.ensures.round_lists) (rw (to_z-of_z c.ranges.width) at call.ensures.sheet_after)
