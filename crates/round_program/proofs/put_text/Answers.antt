-- How many lines there are, and then their directions.
use native.Mathlib.Omega.{arith}
use Rattle.meaning.specs.declared.Refusal.TheVariants.{RoundEnds}
use Rattle.printing.proofs.Lengths.{refusal_short}
use Rattle.round_program.proofs.put_text.Goals as goal

pub put_refusal-requires : goal.put_refusal-requires
put_refusal-requires c = omega (arith, refusal_short RoundEnds)
