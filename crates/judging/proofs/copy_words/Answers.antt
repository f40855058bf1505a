-- The list is filled with the numbers of the entry's target words, as words, from its front.
use Rattle.std.proofs.Common.{ℕ, ◌≡◌, ◌+◌, ◌-◌, ◌≤◌, List, ℤ, pos, get_or, take, drop, length, ap, ◌∙◌, rules, arith}
use lib.ListN.{length-drop}
use lib.Seq.{length-take-le}
use Rattle.laws.proofs.Fill.{fill_start}
use Rattle.meaning.specs.Reply.{written_over}
use Rattle.derivation.specs.Model.{word_of}
use Rattle.derivation.specs.declared.Phrase.{Phrase}
use Rattle.derivation.proofs.Rows.{words_are}
use Rattle.judging.proofs.Words.{copy_more, copy_ends}
use Rattle.judging.proofs.copy_words.Goals as goal

-- the numbers of the entry's target words
abbrev numbers : List ℤ → Phrase → List ℤ
numbers book p = take (p.target + p.count - p.target) (drop p.target book)

room : (book : List ℤ) (p : Phrase) (words : List ℕ) → p.target + p.count ≤ length book → p.count ≤ length words → length (numbers book p) ≤ length words
room book p words h k = let l = length-take-le (p.target + p.count - p.target) (drop p.target book) (let d = length-drop p.target book in omega arith) in omega arith

pub loop-j-init : goal.loop-j-init
loop-j-init c = fill_start _ _

pub loop-j-preserved : goal.loop-j-preserved
loop-j-preserved c =
    let a = c.args in
    let l = c.loop-j in
    let y : c.word_of.result ≡ word_of (get_or (numbers a.book.now a.p) l.j (pos 0)) = search rules in
    rw y (copy_more (numbers a.book.now a.p) a.words.now (room a.book.now a.p a.words.now c.requires.phrased.is.target_at.inside c.requires.count_in_bounds) l.j c.loop-j-test.true l.invariant)

pub returns : goal.returns
returns c =
    let a = c.args in
    let l = c.loop-j in
    λ e q.
    copy_ends (numbers a.book.now a.p) a.words.now (room a.book.now a.p a.words.now c.requires.phrased.is.target_at.inside c.requires.count_in_bounds) l.j c.loop-j-test.false l.invariant
    ∙ ap (λ (xs : List ℕ). written_over xs a.words.now) (words_are q.target_at)
