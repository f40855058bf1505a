-- What loading answers, without the list, is the reply of questions 2 to 6 and 20. That a list of so many zeros has this length is said by
-- `length-replicate`: `search` would compute it, a step for each number.
use Rattle.meaning.specs.Book.{book_refusal}
use mathlib.Core.Path.{ap, ◌∙◌}
use Rattle.loading.proofs.Replies.{answer_reply}
use Rattle.meaning.specs.Reply.{reply_of, check_book}
use Rattle.loading.proofs.check.check_book.Goals as goal

pub returns : goal.returns
unfolding check_book
returns c =
    let k = c.load-loaded in
    ap reply_of c.reply_of.ensures ∙ answer_reply (book_refusal c.args.book.now) _ _ k.result k.ensures
