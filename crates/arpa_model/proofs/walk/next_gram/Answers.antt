-- Only sections begin before the n-gram; each line takes some bytes.
use mathlib.Core.Path.{sym, ◌∙◌}
use Rattle.arpa_model.specs.Walk.{ngrams_at}
use Rattle.arpa_model.proofs.Walks.{going_gram, going_met, going_on, end_read, ngrams_over}
use Rattle.arpa_model.proofs.walk.next_gram.Goals as goal

pub read_gram-gram-requires-clause-gram_read : goal.read_gram-gram-requires-clause-gram_read
read_gram-gram-requires-clause-gram_read c = let l = c.loop-line in
    going_gram l.invariant.0 c.in-Some.ensures.line_read c.if-line-ne1.true c.requires.walking.few

pub returns-then-line-ne1-clause-next_is : goal.returns-then-line-ne1-clause-next_is
returns-then-line-ne1-clause-next_is c = let l = c.loop-line in
    let k = c.read_gram-gram in
    going_met l.invariant.0 c.in-Some.ensures.line_read c.args.words.now.list.now k.new.row k.result c.if-line-ne1.true c.requires.walking.few k.ensures.by_index

pub returns-then-order-top-clause-next_is : goal.returns-then-order-top-clause-next_is
unfolding ngrams_at
returns-then-order-top-clause-next_is c = let l = c.loop-line in
    sym l.invariant.0.same ∙ end_read c.in-Some.ensures.line_read c.args.cursor.top l.order l.invariant.0.walk c.if-line-ne1.false c.if-order-top.true

pub loop-line-preserved : goal.loop-line-preserved
loop-line-preserved c = let l = c.loop-line in (going_on l.invariant.0 c.in-Some.ensures.line_read c.read_line.ensures.places_len_unchanged c.if-line-ne1.false c.if-order-top.false, l.invariant.1)

pub returns-clause-next_is : goal.returns-clause-next_is
unfolding ngrams_at
returns-clause-next_is c =
    let l = c.loop-line in
    sym l.invariant.0.same ∙ ngrams_over c.args.text.now c.args.cursor.top l.order l.at c.read_line.new.places c.read_line.result c.in_default.not-Some c.read_line.ensures.line_read
