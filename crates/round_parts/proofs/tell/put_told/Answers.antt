-- The steps, the nine numbers, and whether the store is all zero.
use Rattle.meaning.specs.Reply.{reply_of}
use Rattle.meaning.proofs.Lengths.{answer_nine}
use Rattle.round_parts.proofs.Telling.{filled_whole}
use Rattle.round_parts.proofs.tell.put_told.Goals as goal

pub returns-then-swept-clause-answers_after : goal.returns-then-swept-clause-answers_after
returns-then-swept-clause-answers_after c = let s = c.args in
    filled_whole _ s.answers.now _ c.fill.ensures c.numbers_of-numbers.ensures (answer_nine (reply_of s.told.reply)) c.requires.answers_len

pub returns-else-swept-clause-answers_after : goal.returns-else-swept-clause-answers_after
returns-else-swept-clause-answers_after c = let s = c.args in
    filled_whole _ s.answers.now _ c.fill.ensures c.numbers_of-numbers.ensures (answer_nine (reply_of s.told.reply)) c.requires.answers_len
