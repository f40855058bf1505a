-- Four tests leave a part of the direction as long as the entry's source words; then the words decide, one after the other.
use Rattle.std.proofs.Common.{◌≡◌, ◌+◌, sym, ◌∙◌, rules}
use Rattle.derivation.specs.Model.{word_in}
use Rattle.options.proofs.Fits.{agreed_more, agreed_stops, agreed_ends, no_first, no_last, no_end, no_many, by_words}
use Rattle.options.proofs.fits_at.Goals as goal
use Rattle.options.proofs.fits_at.Goals.{then-first-lt1-via-then-first-lt1, then-first-lt1-via-else-first-lt1+then-last-first, then-first-lt1-via-else-first-lt1+else-last-first+then-direction-last, then-first-lt1-via-else-first-lt1+else-last-first+else-direction-last+then-last-first-2}

pub returns-then-first-lt1 : goal.returns-then-first-lt1
returns-then-first-lt1 c =
    let s = c.args in
    λ e q.
    elim c.then-first-lt1.branch [
      | then-first-lt1-via-then-first-lt1 w ↦ no_first e.source s.direction.now s.first s.last w.if-first-lt1.true
      | then-first-lt1-via-else-first-lt1+then-last-first w ↦ no_last e.source s.direction.now s.first s.last w.if-first-lt1.false w.if-last-first.true
      | then-first-lt1-via-else-first-lt1+else-last-first+then-direction-last w ↦ no_end e.source s.direction.now s.first s.last w.if-first-lt1.false w.if-last-first.false w.if-direction-last.true
      | then-first-lt1-via-else-first-lt1+else-last-first+else-direction-last+then-last-first-2 w ↦
          no_many e.source s.direction.now s.first s.last w.if-first-lt1.false w.if-last-first.false w.if-direction-last.false (λ x. w.if-last-first-2.true (x ∙ sym q.source_at.many_are))
    ]

pub returns-then-word_of-direction : goal.returns-then-word_of-direction
returns-then-word_of-direction c =
    let s = c.args in
    let l = c.loop-j in
    let f = c.if-first-lt1.false in
    let g = c.if-last-first.false in
    let d = c.if-direction-last.false in
    let y : c.word_of.result ≡ word_in s.book.now (s.p.source + l.j) = search rules in
    λ e q.
    sym (agreed_stops s.book.now s.direction.now s.first s.last s.p l.j f d (sym c.if-last-first-2.false) l.invariant
    c.loop-j-test.true (λ x. c.if-word_of-direction.true (y ∙ x)) e q)
    ∙ by_words e.source s.direction.now s.first s.last f g d

pub loop-j-preserved : goal.loop-j-preserved
loop-j-preserved c =
    let s = c.args in
    let l = c.loop-j in
    let y : c.word_of.result ≡ word_in s.book.now (s.p.source + l.j) = search rules in
    agreed_more s.book.now s.direction.now s.first s.last s.p l.j c.if-first-lt1.false c.if-direction-last.false (sym c.if-last-first-2.false) l.invariant
    c.loop-j-test.true (sym y ∙ c.if-word_of-direction.false)

pub returns : goal.returns
returns c =
    let s = c.args in
    let l = c.loop-j in
    let f = c.if-first-lt1.false in
    let g = c.if-last-first.false in
    let d = c.if-direction-last.false in
    λ e q.
    sym (agreed_ends s.book.now s.direction.now s.first s.last s.p l.j f d (sym c.if-last-first-2.false) l.invariant c.loop-j-test.false e q)
    ∙ by_words e.source s.direction.now s.first s.last f g d
