-- So many count lines were read (Tally), until a line is none or the highest order is reached.
use Rattle.outline.proofs.Tally.{Tally}
use Rattle.outline.proofs.counts.read_counts.Given as goal

abbrev pub invariant-loop-n : goal.invariant-loop-n
invariant-loop-n l = Tally l.text l.at l.counts l.n l.from
