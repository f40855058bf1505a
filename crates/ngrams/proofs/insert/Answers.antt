-- The record's link is its bucket's old head, and the head is the record: the index of one record more.
use mathlib.Core.Path.{ap, ◌∙◌}
use Rattle.ngrams.specs.Grams.{bucket_of}
use Rattle.ngrams.proofs.Index.{index_more}
use Rattle.ngrams.proofs.insert.Goals as goal

pub returns : goal.returns
returns c = index_more c.requires.indexed c.requires.room (c.bucket-h.ensures.0 ∙ ap bucket_of c.key_at.ensures) c.bucket-h.ensures.1
