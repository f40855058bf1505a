-- The lines that were put and those that are left are all lines (Putting); each n-gram takes some bytes.
use mathlib.Core.Path.{◌∙◌}
use Rattle.arpa_model.proofs.Walks.{none_met}
use Rattle.arpa_model.proofs.Putting.{writing_end, writing_next}
use Rattle.arpa_model.proofs.write.write_model.Goals as goal

pub loop-met-preserved : goal.loop-met-preserved
loop-met-preserved c =
    let m = c.in-Some.ensures.next_is in
    (writing_next c.loop-met.invariant.0 c.next_gram.new.row c.in-Some.met m c.put_gram-n.ensures, c.next_gram.ensures.row_len_unchanged ∙ c.loop-met.invariant.1)

pub returns : goal.returns
returns c =
    let n = c.next_gram in
    writing_end c.loop-met.invariant.0 (none_met c.args.text.now c.args.words.now.list.now c.loop-met.from n.new.row n.result c.in_default.not-Some n.ensures.next_is)
