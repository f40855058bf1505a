-- 7 before all else, then 23, then the rest.
use native.Mathlib.Omega.{arith}
use Rattle.meaning.specs.declared.Refusal.TheVariants.{ListTooShort, ArpaText}
use Rattle.importing.proofs.Replies.{import_refused, too_many, no_arpa}
use Rattle.importing.proofs.import_arpa.Goals as goal

pub returns-then-book-used : goal.returns-then-book-used
returns-then-book-used c =
    let a = c.args in
    let r = import_refused a.text.now a.list.now a.book.now a.used ListTooShort (too_many a.text.now a.list.now a.book.now a.used c.if-book-used.true) in
    record { result_value = r.0; book_after = r.1 }

pub returns-in-None : goal.returns-in-None
returns-in-None c =
    let a = c.args in
    let r = import_refused a.text.now a.list.now a.book.now a.used ArpaText (no_arpa a.text.now a.list.now a.book.now a.used (omega arith) c.in-None.ensures) in
    record { result_value = r.0; book_after = r.1 }
