-- The caller's book is asked before the longer one.
use Prim.Native.Nat.{ℕ}
use mathlib.Core.Path.{sym, ap, ◌∙◌}
use Rattle.meaning.specs.Questions.{◌orelse◌}
use Rattle.meaning.specs.Book.{book_refusal}
use Rattle.loading.specs.Loaded.{refusal_of}
use Rattle.loading.proofs.Replies.{check_number}
use Rattle.revising.proofs.Replies.{refused_in_use}
use Rattle.longer.specs.Longer.{texts_refusal, longer_of}
use Rattle.longer.proofs.judge.Goals as goal

pub judge_longer-requires-clause-book_value : goal.judge_longer-requires-clause-book_value
judge_longer-requires-clause-book_value c =
    let k = c.check_book in
    check_number c.args.book.now k.result k.ensures ∙ ap refusal_of c.in-Ok.is

pub returns-in-Err : goal.returns-in-Err
returns-in-Err c =
    let k = c.check_book in
    let q = c.in-Err.refusal in
    let e = check_number c.args.book.now k.result k.ensures ∙ ap refusal_of c.in-Err.is in
    ap (λ (j : ℕ). texts_refusal c.args.text.now c.args.words.now.list.now orelse j) (refused_in_use q (book_refusal c.args.book.now) (book_refusal (longer_of c.args.text.now c.args.words.now.list.now c.args.book.now)) e)
    ∙ sym c.refuse_book.ensures
