-- The letter, the fields of the numbers and the end make the line.
use mathlib.Core.Path.{sym}
use native.Mathlib.Omega.{arith}
use Rattle.decimals.proofs.Laws.{put_is, put_then}
use Rattle.printing.proofs.Lines.{line_is, line_long}
use Rattle.printing.proofs.put_line.Goals as goal

pub put_byte-first-requires : goal.put_byte-first-requires
put_byte-first-requires c = omega (arith, line_long c.args.letter c.args.numbers.now)

pub put_fields-end-requires : goal.put_fields-end-requires
put_fields-end-requires c = omega (arith, line_long c.args.letter c.args.numbers.now, c.put_byte-first.ensures)

pub put_byte-requires : goal.put_byte-requires
put_byte-requires c = omega (arith, line_long c.args.letter c.args.numbers.now, c.put_byte-first.ensures, c.put_fields-end.ensures)

pub returns : goal.returns
returns c = put_is (sym (line_is c.args.letter c.args.numbers.now))
    (put_then (put_then c.put_byte-first.ensures c.put_fields-end.ensures) c.put_byte.ensures)
