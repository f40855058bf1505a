-- What is left of the number holds the digits that are still to come.
use Rattle.std.proofs.Common.{◌<◌, length, ◌∙◌, length-set, arith}
use Rattle.positions.proofs.Laws.{unpack_more, left_more}
use Rattle.positions.proofs.unpack.Goals as goal

pub loop-digit-preserved : goal.loop-digit-preserved
loop-digit-preserved c =
    let l = c.loop-digit in
    let k = l.invariant in
    let room : l.digit-index < length l.digit-items = omega arith in
    record {
      ends = k.ends;
      long = length-set l.digit-items l.digit-index _ ∙ k.long;
      unpacked = unpack_more l.digit-items _ _ l.digit-index l.rest (omega arith) room k.unpacked k.left;
      left = left_more l.digit-items _ _ l.digit-index l.rest (omega arith) room k.unpacked k.left;
    }
