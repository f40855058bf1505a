-- The core is asked, with the words and the store on loan, and its steps are written over the caller's records; the reply is the core's.
use mir.Facts.{to_z-of_z}
use Rattle.decoder.proofs.Replies.{decodes_into}
use Rattle.phrase.proofs.decode.Goals as goal

pub returns : goal.returns
returns c = decodes_into (rw (to_z-of_z c.ranges.width) at c.decode_plain-answer.ensures) c.put_all.ensures
