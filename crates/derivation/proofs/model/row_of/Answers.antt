-- What is left of the words, added to the row so far, makes the whole row; after j words the sum is within j times triple_bound.
use Rattle.std.proofs.Common.{◌≡◌, ◌+◌, ◌-◌, List, ℤ, pos, get_or, take, drop, sym, ◌∙◌, ap, rules}
use Rattle.derivation.specs.Model.{word_of, empty_row, with_words}
use Rattle.derivation.proofs.Rows.{words_are, row_next, row_end, row_within}
use Rattle.derivation.proofs.model.row_of.Goals as goal

pub loop-x-preserved : goal.loop-x-preserved
loop-x-preserved c =
    let l = c.loop-x in
    let a = c.args in
    let numbers : List ℤ = take (a.p.target + a.p.count - a.p.target) (drop a.p.target a.book.now) in
    let y : c.word_of.result ≡ word_of (get_or numbers l.x-index (pos 0)) = search rules in
    rw (c.add_word-row.ensures, y) (record {
      within = row_within a.index.now a.t c.requires.model.scores_within l.row _ l.x-index l.invariant.within;
      left = sym (row_next a.index.now a.t l.row numbers l.x-index c.loop-x-test.true) ∙ l.invariant.left;
    })

pub returns-clause-value : goal.returns-clause-value
returns-clause-value c =
    let a = c.args in
    λ e q. sym (row_end a.index.now a.t c.loop-x.row _ c.loop-x.x-index c.loop-x-test.false) ∙ c.loop-x.invariant.left ∙ ap (with_words a.index.now a.t (empty_row a.word1 a.word2)) (words_are q.target_at)
