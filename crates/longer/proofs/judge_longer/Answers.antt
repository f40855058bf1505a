-- The survey of the book is carried on over the imported lines, and is that of the longer book (Judging).
use Rattle.std.proofs.lemmas.Result.{err_from_is_err_and}
use mathlib.Core.Path.{sym, ap, ◌∙◌}
use native.Mathlib.Omega.{arith}
use Rattle.loading.specs.Loaded.{refusal_of}
use Rattle.longer.proofs.Judging.{surveyed_whole, not_broken, room_book, judged, since, found}
use Rattle.longer.proofs.judge_longer.Goals as goal

pub returns-in_default : goal.returns-in_default
returns-in_default c = absurd (not_broken c.args.book.now c.requires.book_value c.in_default.ensures)

pub note_model-model-requires-clause-room : goal.note_model-model-requires-clause-room
note_model-model-requires-clause-room c =
    let b = surveyed_whole c.args.book.now c.requires.book_value c.in-Some.ensures in
    room_book b (omega arith)

pub size_since-requires : goal.size_since-requires
size_since-requires c =
    let b = surveyed_whole c.args.book.now c.requires.book_value c.in-Some.ensures in
    let i = c.note_model-model.ensures in
    let k = c.check_longer in
    let e = judged c.requires.opened b i k.result k.ensures in
    rw (c.counts_of-before.ensures, c.counts_of-after.ensures) (since c.requires.opened b i (sym e ∙ ap refusal_of c.in_ok-check_longer.was))

pub returns : goal.returns
returns c =
    let b = surveyed_whole c.args.book.now c.requires.book_value c.in-Some.ensures in
    let i = c.note_model-model.ensures in
    let k = c.check_longer in
    let e = judged c.requires.opened b i k.result k.ensures in
    rw (c.size_since.ensures, c.counts_of-before.ensures, c.counts_of-after.ensures) (found c.requires.opened b i (sym e ∙ ap refusal_of c.in_ok-check_longer.was))

pub returns-in_err-check_longer : goal.returns-in_err-check_longer
returns-in_err-check_longer c =
    let b = surveyed_whole c.args.book.now c.requires.book_value c.in-Some.ensures in
    let i = c.note_model-model.ensures in
    let k = c.check_longer in
    let e = judged c.requires.opened b i k.result k.ensures in
    let p = err_from_is_err_and c.from_residual.result c.from_residual.ensures.1 in rw (p.1, p.2)
    (sym e ∙ ap refusal_of c.in_err-check_longer.was)
