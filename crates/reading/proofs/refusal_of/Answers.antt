-- Of a book's text a line is not whole, which is refusal 2; of another, refusal 1.
use mathlib.Core.Path.{◌≡◌, sym, ◌∙◌}
use mathlib.Core.Bool.{true}
use Rattle.meaning.specs.Book.{in_text, is_book_text, text_lines}
use Rattle.book.proofs.Counts.{broken_refusal}
use Rattle.reading.proofs.refusal_of.Goals as goal

pub returns-then-is_book_text : goal.returns-then-is_book_text
returns-then-is_book_text c =
    let t = c.args.text.now in
    let e : is_book_text t ≡ true = sym c.is_book_text.ensures ∙ c.if-is_book_text.true in
    rw (e, broken_refusal in_text (text_lines t) (c.requires e))
