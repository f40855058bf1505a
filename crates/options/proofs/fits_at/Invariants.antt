-- Four tests leave a part of the direction as long as the entry's source words; then the words decide, one after the other.
use Rattle.options.proofs.Fits.{Agreed}
use Rattle.options.proofs.fits_at.Given as goal

abbrev pub invariant-loop-j : goal.invariant-loop-j
invariant-loop-j l = Agreed l.book l.direction l.first l.last l.p l.j
