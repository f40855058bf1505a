-- The words that were read are the direction's; a refusal's number is put.
use mathlib.Core.Path.{sym}
use native.Mathlib.Omega.{arith}
use lib.Seq.{length-take-le}
use Rattle.meaning.specs.Direction.{read_direction_refusal, direction_of}
use Rattle.decimals.proofs.Laws.{put_is}
use Rattle.rendering.proofs.Inputs.{Filled, direction_filled, direction_refusal, direction_refused, direction_decoded}
use Rattle.printing.proofs.Lengths.{refusal_short}
use Rattle.rendering.proofs.put_direction.Goals as goal
use Rattle.rendering.proofs.put_direction.Goals.{In-Ok}

-- the words that were read
words_read : (c : In-Ok)
    → Filled (read_direction_refusal c.args.text.now 32) c.in-Ok.n (direction_of c.args.text.now) c.read_direction.new.direction
words_read c =
    direction_filled _ _ _ _ _ c.in-Ok.is c.read_direction.ensures.result_value c.read_direction.ensures.direction_after

pub slice_bounds-words-end : goal.slice_bounds-words-end
slice_bounds-words-end c = (words_read (goal.at.slice_bounds-words-end c).In-Ok).inside

pub slice_bounds-put_decode-end : goal.slice_bounds-put_decode-end
slice_bounds-put_decode-end c = sym (length-take-le _ _ (words_read (goal.at.slice_bounds-put_decode-end c).In-Ok).inside)

pub put_refusal-requires : goal.put_refusal-requires
put_refusal-requires c = omega (arith, refusal_short c.in-Err.refusal)

pub returns-in-Ok : goal.returns-in-Ok
returns-in-Ok c = put_is (direction_decoded _ _ (words_read (goal.at.returns-in-Ok c).In-Ok)) c.put_decode.ensures

pub returns-in-Err : goal.returns-in-Err
returns-in-Err c =
    put_is
    (direction_refused _ _ c.in-Err.refusal
    (direction_refusal _ _ 32 _ c.in-Err.is c.read_direction.ensures.result_value))
    c.put_refusal.ensures
