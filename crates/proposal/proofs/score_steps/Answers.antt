-- What the walk over the steps answers is the reply; where it is a score, each step has an entry of the book, and the words are judged.
use Rattle.std.proofs.lemmas.Result.{err_from_is_err_and}
use mathlib.Core.Path.{◌≡◌}
use Rattle.laws.proofs.Got.{i64}
use Rattle.meaning.specs.Book.{book_of}
use Rattle.proposal.proofs.Numbers.{entries_in, said, said_passes, totalled, turned_down}
use borrow.Author.Rules.{rules}
use Rattle.proposal.proofs.score_steps.Goals as goal

pub judge_steps-supplied-requires-clause-by_index : goal.judge_steps-supplied-requires-clause-by_index
judge_steps-supplied-requires-clause-by_index c = let e = said (book_of c.args.book.now) c.args.direction.now c.args.plain (rw c.in_ok-score.was at c.sum_steps.ensures) in
    entries_in c.requires.prepared.entries_at c.args.direction.now c.args.plain (said_passes (book_of c.args.book.now) c.args.direction.now c.args.plain _ e)

pub returns : goal.returns
returns c =
    let back : i64 c.in_ok-score.score ≡ c.in_ok-score.score = search rules in
    totalled (book_of c.args.book.now) c.args.direction.now c.args.plain back c.judge_steps-supplied.ensures
    (said (book_of c.args.book.now) c.args.direction.now c.args.plain (rw c.in_ok-score.was at c.sum_steps.ensures))

pub returns-in_err-score : goal.returns-in_err-score
returns-in_err-score c = let p = err_from_is_err_and c.from_residual.result c.from_residual.ensures.1 in rw (p.1, p.2)
    (turned_down (book_of c.args.book.now) c.args.direction.now c.args.plain _
    (said (book_of c.args.book.now) c.args.direction.now c.args.plain (rw c.in_err-score.was at c.sum_steps.ensures)))
