-- What the questions refuse is refused; where they pass, the lines are put.
use Rattle.std.proofs.lemmas.Result.{err_from_is_err_and}
use Rattle.importing.proofs.Replies.{import_refused, judged_refused}
use Rattle.importing.proofs.import_model.Goals as goal

pub returns-in_err-longer : goal.returns-in_err-longer
returns-in_err-longer c =
    let a = c.args in
    let r = import_refused a.text.now a.words.now.list.now a.book.now a.used _ (judged_refused a.text.now a.words.now.list.now a.book.now a.used c.requires.used_in_bounds c.requires.opened.arpa _ c.in_err-longer.ensures) in
    let p = err_from_is_err_and c.from_residual.result c.from_residual.ensures.1 in
    record { result_value = rw (p.1, p.2) r.0; book_after = r.1 }
