-- The part that was found, taken of the list.
use Rattle.book.proofs.Sought.{part_is}
use Rattle.loading.proofs.check.target_words.Goals as goal

pub returns : goal.returns
returns c = record { numbers = part_is c.target_part-part.ensures; place = rw c.target_part-part.ensures.start_is }
