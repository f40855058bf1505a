-- The list has so many places.
use lib.ListN.{length-replicate}
use Rattle.reading.proofs.check_with.Goals as goal

pub check_in-requires : goal.check_in-requires
check_in-requires g c = λ n few bytes. rw length-replicate (c.requires.room n few bytes)
