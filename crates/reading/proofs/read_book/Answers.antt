-- What questions 1 to 6 and 20 refuse is refused, and then question 7 is asked (Reading); where all pass the numbers that it writes are the loaded book's.
use Rattle.std.proofs.lemmas.Result.{err_from_is_err_and}
use native.Mathlib.Omega.{arith}
use mathlib.Core.Path.{◌∙◌}
use borrow.Author.Tests.{le-leb, lt-leb}
use lib.ListN.{length}
use Rattle.meaning.specs.Book.{loaded_of}
use Rattle.meaning.specs.declared.Refusal.TheVariants.{ListTooShort}
use Rattle.reading.proofs.Reading.{text_refused, no_room, has_room, refused_so, done_so}
use Rattle.reading.proofs.read_book.Goals as goal

pub returns-then-book-numbers : goal.returns-then-book-numbers
returns-then-book-numbers c =
    let a = c.args in
    let p = c.in_ok-counts.ensures in
    let r = refused_so a.text.now a.book.now ListTooShort (no_room a.text.now (length a.book.now) p.passed (lt-leb (length (loaded_of a.text.now)) (length a.book.now) (omega (arith, p.numbers_are, c.if-book-numbers.true)))) in
    record { result_value = r.0; book_after = r.1 }

pub returns : goal.returns
returns c =
    let a = c.args in
    let p = c.in_ok-counts.ensures in
    let r = done_so a.text.now a.book.now _ p.numbers_are (has_room a.text.now (length a.book.now) p.passed (le-leb (length (loaded_of a.text.now)) (length a.book.now) (omega (arith, p.numbers_are, c.if-book-numbers.false)))) in
    record { result_value = r.0; book_after = c.write_book.ensures ∙ r.1 }

pub returns-in_err-counts : goal.returns-in_err-counts
returns-in_err-counts c =
    let a = c.args in
    let r = refused_so a.text.now a.book.now _ (text_refused a.text.now (length a.book.now) _ c.in_err-counts.ensures) in
    let p = err_from_is_err_and c.from_residual.result c.from_residual.ensures.1 in
    record { result_value = rw (p.1, p.2) r.0; book_after = r.1 }
