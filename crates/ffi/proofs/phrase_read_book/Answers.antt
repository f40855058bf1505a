-- The reader's count or refusal, as a signed number.
use native.Mathlib.Omega.{arith}
use lib.ListN.{length}
use Rattle.meaning.specs.Book.{loaded_of, read_refusal}
use Rattle.ffi.proofs.Codes.{counted, book_fits, book_reply}
use Rattle.ffi.proofs.phrase_read_book.Goals as goal

pub count_or_refusal-requires : goal.count_or_refusal-requires
count_or_refusal-requires c =
    let a = c.args in
    counted c.read_book-reply.result (read_refusal a.text.now (length a.book.now)) (length (loaded_of a.text.now)) (length a.book.now) (book_reply a.text.now (length a.book.now) c.read_book-reply.result c.read_book-reply.ensures.result_value) (book_fits a.text.now (length a.book.now)) (omega arith)
