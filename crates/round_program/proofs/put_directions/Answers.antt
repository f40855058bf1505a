-- The directions that were read are those of the text, and their ends are right.
use native.Mathlib.Omega.{arith}
use Rattle.decimals.proofs.Laws.{put_is}
use Rattle.printing.proofs.Lengths.{refusal_short}
use Rattle.round_program.proofs.Sheets.{sheet_read}
use Rattle.round_program.proofs.put_directions.Goals as goal

pub put_refusal-requires : goal.put_refusal-requires
put_refusal-requires c = omega (arith, refusal_short c.in-Err.refusal)

pub returns-in-Ok : goal.returns-in-Ok
returns-in-Ok c =
    let a = rw c.in-Ok.is at c.read_lines.ensures in
    put_is (sheet_read _ _ _ _ _ c.requires.book_value a) c.put_round.ensures
