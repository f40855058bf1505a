-- The stores are those of the definition: three words, how many there are, then the halves of the score and of the weight.
use mathlib.Core.Path.{◌∙◌}
use mir.Syntax.{w32}
use Rattle.laws.proofs.Integers.{back}
use Rattle.ngrams.proofs.Records.{put_is}
use Rattle.ngrams.proofs.put_record.Goals as goal

pub returns : goal.returns
returns c =
    let s = c.args in
    put_is s.index.now s.line.now s.k
    c.order_of-n.ensures.value
    c.word_or_0.ensures
    c.word_or_0-2.ensures
    c.word_or_0-3.ensures
    (back w32 c.number_at.result c.number_at.type_inv ∙ c.number_at.ensures)
    (back w32 c.number_at-2.result c.number_at-2.type_inv ∙ c.number_at-2.ensures)
    c.put_signed.ensures
    c.put_signed-2.ensures
