-- No sheet is asked for, so 7 is not the answer.
use Rattle.rounds.proofs.Whole.{without_sheet}
use Rattle.rounds.proofs.decode_round.Goals as goal

pub returns-clause-result_value : goal.returns-clause-result_value
returns-clause-result_value c = let a = c.args in
    let d = c.decode_if in
    (without_sheet a.book.now a.directions.now a.ends.now _ a.steps.now _ a.words.now _ a.store.now _ a.answers.now _ d.result (d.ensures.result_value, d.ensures.round_lists)).0
