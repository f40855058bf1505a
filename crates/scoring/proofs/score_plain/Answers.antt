-- What is asked before gives the refusal, or the list that 16 to 19 are asked with.
-- That a list of so many zeros has this length is said by `length-replicate`: `search` would compute it, a step for each number.
use Rattle.std.proofs.lemmas.Result.{err_from_is_err_and}
use mathlib.Core.Path.{◌∙◌}
use Rattle.records.specs.Plain.{steps_of}
use Rattle.scoring.proofs.Scoring.{asked_last, refused_before}
use Rattle.scoring.proofs.score_plain.Goals as goal

pub returns : goal.returns
returns c =
    let a = c.args in
    let s = c.in_ok-t.ensures in
    c.score_steps.ensures ∙ asked_last a.book.now a.direction.now (steps_of a.plain) s.passed s.directed

pub returns-in_err-t : goal.returns-in_err-t
returns-in_err-t c =
    let a = c.args in
    let p = err_from_is_err_and c.from_residual.result c.from_residual.ensures.1 in rw (p.1, p.2)
    (refused_before a.book.now a.direction.now (steps_of a.plain) _ c.in_err-t.ensures)
