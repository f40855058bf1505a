-- What the tests say of it is what becomes of it; its line has the words' numbers and the two values, which are exact where both are in a score's range.
use mathlib.Core.Path.{◌≡◌, refl, sym, ◌∙◌}
use native.Mathlib.Omega.{arith}
use mir.Syntax.{w32}
use mir.Val.{to_z, of_z}
use borrow.Author.Rules.{rules}
use Rattle.arpa.specs.File.{ngram_of}
use Rattle.arpa.proofs.Ngrams.{gram_long}
use Rattle.ngram_lines.proofs.Places.{word_noted}
use Rattle.ngram_lines.proofs.Values.{score_noted}
use Rattle.ngram_lines.proofs.Imported.{passed_is, unknown_is, row_is}
use Rattle.ngram_lines.proofs.read_gram.Goals as goal

pub returns-then-is_passed_over-clause-by_index : goal.returns-then-is_passed_over-clause-by_index
returns-then-is_passed_over-clause-by_index c = λ fields top f h. passed_is (ngram_of c.args.at.order fields) (sym (c.is_passed_over.ensures fields top f h) ∙ c.if-is_passed_over.true)

pub value_at-score-requires-clause-k_value : goal.value_at-score-requires-clause-k_value
value_at-score-requires-clause-k_value c = let p = c.requires.gram_read in
    (score_noted p.at p.top c.args.at.order p.order_to p.is).0

pub value_at-score-requires-clause-field_noted : goal.value_at-score-requires-clause-field_noted
value_at-score-requires-clause-field_noted c = let p = c.requires.gram_read in
    word_noted p 0 (omega arith)

pub is_unknown-requires-clause-order_bound : goal.is_unknown-requires-clause-order_bound
is_unknown-requires-clause-order_bound c = let p = c.requires.gram_read in
    omega (arith, gram_long p.top c.args.at.order p.fields p.is, p.at.long)

pub returns-then-is_unknown-clause-by_index : goal.returns-then-is_unknown-clause-by_index
returns-then-is_unknown-clause-by_index c = let r : to_z w32 (of_z w32 c.value_at-score.result) ≡ c.value_at-score.result = search rules in
    λ fields top f h.
    let u = sym (c.is_unknown.ensures fields f) ∙ c.if-is_unknown.true in
    (unknown_is (ngram_of c.args.at.order fields) u, u, rw (r, (score_noted f top c.args.at.order c.requires.gram_read.order_to h).1) c.value_at-score.ensures)

pub put_row-size-requires-clause-are_small : goal.put_row-size-requires-clause-are_small
put_row-size-requires-clause-are_small c = let p = c.requires.gram_read in
    (c.words_of-numbers.ensures p.fields p.top p.at p.is).small

pub returns-clause-by_index : goal.returns-clause-by_index
returns-clause-by_index c =
    let n = c.args.at.order in
    let score = c.value_at-score in
    let weight = c.weight_of-weight in
    let p : to_z w32 (of_z w32 score.result) ≡ score.result = search rules in
    let q : to_z w32 (of_z w32 weight.result) ≡ weight.result = search rules in
    let put = c.put_row-size.ensures in
    λ fields top f h.
    row_is c.args.words.now.list.now (ngram_of n fields) c.put_row-size.result c.put_row-size.new.row
    (sym (c.is_passed_over.ensures fields top f h) ∙ c.if-is_passed_over.false)
    (sym (c.is_unknown.ensures fields f) ∙ c.if-is_unknown.false)
    (c.words_of-numbers.ensures fields top f h)
    (rw (score_noted f top n c.requires.gram_read.order_to h).1 score.ensures)
    (weight.ensures fields top f h)
    (rw (c.is_score.ensures, c.is_score-2.ensures, p, q) refl)
    (rw (p, q) at put.row_after)
    put.upper_bound.0
