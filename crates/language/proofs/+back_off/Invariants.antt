-- The measure is how many words the n-gram has.
use Rattle.language.proofs.+back_off.Given as goal

abbrev pub decreases-back_off : goal.decreases-back_off
decreases-back_off l = l.key.order
