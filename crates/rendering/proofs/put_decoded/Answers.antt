-- Each reply with its lines.
use native.Mathlib.Omega.{arith}
use Rattle.printing.proofs.Lengths.{refusal_short}
use Rattle.rendering.proofs.put_decoded.Goals as goal

pub put_refusal-requires : goal.put_refusal-requires
put_refusal-requires c = omega (arith, refusal_short c.in-Err.refusal)
