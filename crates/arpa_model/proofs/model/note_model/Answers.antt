-- What is known and what is left answer together what all n-grams do (Noting); each n-gram takes some bytes.
use mathlib.Core.Path.{◌∙◌}
use Rattle.arpa_model.proofs.Noting.{noting_end, noting_next}
use Rattle.arpa_model.proofs.Walks.{none_met}
use Rattle.arpa_model.proofs.model.note_model.Goals as goal

pub loop-met-preserved : goal.loop-met-preserved
loop-met-preserved c =
    let m = c.in-Some.ensures.next_is in
    (noting_next c.loop-met.invariant.0 c.next_gram.new.row c.in-Some.met m c.with_gram-model.ensures, c.next_gram.ensures.row_len_unchanged ∙ c.loop-met.invariant.1)

pub returns : goal.returns
returns c =
    let n = c.next_gram in
    noting_end c.args.survey c.loop-met.invariant.0 c.begin-model.ensures (none_met c.args.text.now c.args.words.now.list.now c.loop-met.from n.new.row n.result c.in_default.not-Some n.ensures.next_is)
