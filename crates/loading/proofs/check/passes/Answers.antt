-- A check passes exactly where its number is 0.
use mathlib.Core.Path.{◌∙◌}
use Rattle.loading.proofs.Replies.{check_number, test_passes}
use Rattle.meaning.specs.Book.{book_refusal}
use Rattle.loading.proofs.check.passes.Goals as goal

pub returns : goal.returns
returns c =
    let k = c.check_book in
    c.is_ok.ensures.value ∙ test_passes (book_refusal c.args.book.now) k.result (check_number c.args.book.now k.result k.ensures)
