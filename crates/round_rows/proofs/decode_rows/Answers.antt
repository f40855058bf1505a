-- The round is on the numbers that are lent of so many zeros. That there are so many is said by `length-replicate`: `search` would compute it, a step for each number.
use mathlib.Core.Path.{refl}
use mir.Facts.{to_z-of_z}
use Rattle.round_rows.proofs.Spread.{decodes_rows}
use Rattle.round_rows.proofs.decode_rows.Goals as goal

pub returns : goal.returns
returns c =
    let call = c.decode_round-reply in
    decodes_rows c.args.book.now c.args.directions.now c.args.ends.now c.args.width c.args.room c.count_for-count.result 6144 c.args.words.now _ c.args.store.now _ c.args.answers.now _ _
    c.count_for-count.ensures refl call.auto.steps call.result call.ensures.result_value (rw (to_z-of_z c.ranges.width) at call.ensures.round_lists)
