-- The last digits are put; those before them are the digits of `rest`.
use Rattle.decimals.proofs.Behind.{Behind}
use Rattle.decimals.proofs.put_natural.Given as goal

abbrev pub invariant-loop-i : goal.invariant-loop-i
invariant-loop-i l = Behind l.n l.rest l.at l.end l.i l.initial.out l.out
