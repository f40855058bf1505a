-- What is left of the words, added to the counts so far, makes the counts of all; after i words there are i in all.
use Rattle.std.proofs.Common.{ℕ, ◌+◌, sym, ap, ◌∙◌}
use Rattle.meaning.specs.Derivation.{suppliers}
use Rattle.ngrams.specs.Grams.{grams_in}
use Rattle.judging.proofs.Counts.{left_next, left_none, one_more, from_nothing}
use Rattle.judging.proofs.judge_words.Goals as goal

pub loop-word-preserved : goal.loop-word-preserved
loop-word-preserved c =
    let a = c.args in
    let l = c.loop-word in
    let grams = grams_in a.index.now a.t.model.count in
    record {
      counted = rw c.with_supplier-s.ensures (one_more l.s c.supplier.result ∙ ap (λ (n : ℕ). n + 1) l.invariant.counted);
      left_of = rw (c.with_supplier-s.ensures, c.supplier.ensures) (sym (left_next grams a.words.now l.s l.v l.w l.word-index c.loop-word-test.true) ∙ l.invariant.left_of);
    }

pub returns : goal.returns
returns c =
    let a = c.args in
    let l = c.loop-word in
    let grams = grams_in a.index.now a.t.model.count in
    sym (left_none grams a.words.now l.s l.v l.w l.word-index c.loop-word-test.false) ∙ l.invariant.left_of ∙ from_nothing (suppliers grams 0 0 a.words.now)
