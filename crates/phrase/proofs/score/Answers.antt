-- The first 33 records, or all, are gathered as plain numbers, and the reply to them is the reply to the list.
use Rattle.phrase.proofs.Front.{gathered_decide}
use Rattle.phrase.proofs.score.Goals as goal

pub returns : goal.returns
returns c = gathered_decide c.args.book.now c.args.direction.now c.args.steps.now c.gather-plain.result _ c.gather-plain.ensures c.score_plain.ensures
