-- The entry is one of the book's, and then its words decide.
use native.Mathlib.Omega.{arith}
use mathlib.Core.Path.{◌∙◌}
use Rattle.meaning.specs.Book.{book_of}
use Rattle.meaning.specs.Derivation.{entry_at}
use Rattle.proposal.specs.Proposal.{step_of}
use Rattle.proposal.proofs.Asking.{not_from, not_to, fits_words}
use Rattle.proposal.proofs.is_fitting.Goals as goal
use Rattle.proposal.proofs.is_fitting.Goals.{then-entry-lt1-via-then-entry-lt1, then-entry-lt1-via-else-entry-lt1+then-t-entry}

pub returns-then-entry-lt1 : goal.returns-then-entry-lt1
returns-then-entry-lt1 c =
    let s = c.args in
    let n = c.requires.counted in
    elim c.then-entry-lt1.branch [
      | then-entry-lt1-via-then-entry-lt1 w ↦ not_from (book_of s.book.now) s.direction.now (step_of s.first s.last s.entry) w.if-entry-lt1.true
      | then-entry-lt1-via-else-entry-lt1+then-t-entry w ↦
          let h = w.if-t-entry.true in
          not_to (book_of s.book.now) s.direction.now (step_of s.first s.last s.entry) w.if-entry-lt1.false (omega arith)
    ]

pub returns : goal.returns
returns c =
    let s = c.args in
    let a = c.if-entry-lt1.false in
    let n = c.requires.counted in
    let h = c.if-t-entry.false in
    c.fits_at.ensures (entry_at (book_of s.book.now) s.entry) c.phrase_at-p.ensures
    ∙ fits_words (book_of s.book.now) s.direction.now (step_of s.first s.last s.entry) (omega arith) (omega arith)
