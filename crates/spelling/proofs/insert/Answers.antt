-- The line's link is its bucket's old head, and the head is the line: the index of one line more.
use Rattle.spelling.proofs.Index.{index_more}
use Rattle.spelling.proofs.insert.Goals as goal

pub returns : goal.returns
returns c = index_more c.requires.indexed c.requires.starts c.bucket_at-h.ensures.0 c.bucket_at-h.ensures.1
