-- The reader's count or refusal, as a signed number.
use native.Mathlib.Omega.{arith}
use lib.ListN.{length}
use Rattle.meaning.specs.Direction.{read_direction_refusal, direction_of}
use Rattle.ffi.proofs.Codes.{counted, direction_fits, direction_reply}
use Rattle.ffi.proofs.phrase_read_direction.Goals as goal

pub count_or_refusal-requires : goal.count_or_refusal-requires
count_or_refusal-requires c =
    let a = c.args in
    counted c.read_direction-reply.result (read_direction_refusal a.text.now (length a.direction.now)) (length (direction_of a.text.now)) (length a.direction.now) (direction_reply a.text.now (length a.direction.now) c.read_direction-reply.result c.read_direction-reply.ensures.result_value) (direction_fits a.text.now (length a.direction.now)) (omega arith)
