-- What is asked before gives the refusal, or the lists that the search rules. That a list of so many zeros has this length is said by
-- `length-replicate`: `search` would compute it, a step for each number.
use Rattle.plain.proofs.Whole.{refused_book}
use Rattle.plain.proofs.decode_plain.Goals as goal

pub returns-in-Err : goal.returns-in-Err
returns-in-Err c = refused_book _ _ _ _ _ _ _ (c.in-Err.ensures) c.refused.ensures
