-- The first k entries are done; in the inner loop the first j words of the entry after them agree with the direction's.
use Rattle.std.proofs.Common.{◌≡◌, ◌+◌, ◌-◌, ◌<◌, length, sym, ◌∙◌, rules, arith}
use Rattle.meaning.specs.Book.{book_of}
use Rattle.meaning.specs.Derivation.{entry_at}
use Rattle.derivation.specs.Model.{word_in}
use Rattle.options.specs.Options.{options_from}
use Rattle.options.proofs.Fits.{agreed_more, agreed_stops, agreed_ends, entry_past, entry_here}
use Rattle.options.proofs.Listing.{at_none, listed_none, entry_skipped, entry_room, entry_taken}
use Rattle.options.proofs.list_at.Goals as goal
use Rattle.options.proofs.list_at.Goals.{After-words}

-- there is room for one option more
room : (c : After-words) → options_from + c.entries.count < length c.entries.options
room c =
    let l = c.entries in
    entry_room (book_of c.args.book.now) c.args.direction.now c.args.first l.k l.invariant c.args.t.phrases c.entries-test.true c.requires.phrases_in_bounds

pub entries-init : goal.entries-init
entries-init c = let s = c.args in rw at_none (listed_none s.options.now s.from)

pub entries-preserved-then-direction-first : goal.entries-preserved-then-direction-first
entries-preserved-then-direction-first c =
    let l = c.entries in
    let h = c.entries-test.true in
    let p = c.phrase_at-p in
    let n = c.requires.entries_at.counted in
    entry_skipped (book_of c.args.book.now) c.args.direction.now c.args.first l.k l.invariant
    (entry_past c.args.book.now (book_of c.args.book.now) c.args.direction.now c.args.first (l.k + 1) p.result p.ensures (omega arith) (omega arith) c.requires.le_first.0 c.if-direction-first.true)

pub entries-preserved-then-word_of-direction : goal.entries-preserved-then-word_of-direction
entries-preserved-then-word_of-direction c =
    let l = c.entries in
    let w = c.words in
    let h = c.entries-test.true in
    let o = c.if-direction-first.false in
    let p = c.phrase_at-p in
    let f = c.requires.le_first.0 in
    let some = p.ensures.source_at.some in
    let n = c.requires.entries_at.counted in
    let y : c.word_of.result ≡ word_in c.args.book.now (p.result.source + w.j) = search rules in
    entry_skipped (book_of c.args.book.now) c.args.direction.now c.args.first l.k l.invariant
    (entry_here c.args.book.now (book_of c.args.book.now) c.args.direction.now c.args.first (l.k + 1) p.result p.ensures (omega arith) (omega arith) f o
    ∙ agreed_stops c.args.book.now c.args.direction.now c.args.first (c.args.first + p.result.long - 1) p.result w.j f (omega arith) (omega arith) w.invariant
    c.words-test.true (λ x. c.if-word_of-direction.true (y ∙ x)) (entry_at (book_of c.args.book.now) (l.k + 1)) p.ensures)

pub words-preserved : goal.words-preserved
words-preserved c =
    let w = c.words in
    let o = c.if-direction-first.false in
    let p = c.phrase_at-p in
    let f = c.requires.le_first.0 in
    let some = p.ensures.source_at.some in
    let y : c.word_of.result ≡ word_in c.args.book.now (p.result.source + w.j) = search rules in
    agreed_more c.args.book.now c.args.direction.now c.args.first (c.args.first + p.result.long - 1) p.result w.j f (omega arith) (omega arith) w.invariant
    c.words-test.true (sym y ∙ c.if-word_of-direction.false)

pub bounds-options-count : goal.bounds-options-count
bounds-options-count c = room (goal.at.bounds-options-count c).After-words

pub entries-preserved : goal.entries-preserved
entries-preserved c =
    let l = c.entries in
    let w = c.words in
    let h = c.entries-test.true in
    let o = c.if-direction-first.false in
    let p = c.phrase_at-p in
    let f = c.requires.le_first.0 in
    let some = p.ensures.source_at.some in
    let n = c.requires.entries_at.counted in
    entry_taken (book_of c.args.book.now) c.args.direction.now c.args.first l.k l.invariant
    (entry_here c.args.book.now (book_of c.args.book.now) c.args.direction.now c.args.first (l.k + 1) p.result p.ensures (omega arith) (omega arith) f o
    ∙ agreed_ends c.args.book.now c.args.direction.now c.args.first (c.args.first + p.result.long - 1) p.result w.j f (omega arith) (omega arith) w.invariant
    c.words-test.false (entry_at (book_of c.args.book.now) (l.k + 1)) p.ensures)
    (room (goal.at.entries-preserved c).After-words)
