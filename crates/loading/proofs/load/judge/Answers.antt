-- What the survey refuses by 3, 4 or 5 is refused; then 21 is asked.
use mathlib.Core.Path.{sym}
use Rattle.loading.proofs.Answers.{judged_first, judged_stored}
use Rattle.loading.proofs.load.judge.Goals as goal

pub returns-in-Some : goal.returns-in-Some
returns-in-Some c = judged_first c.in-Some.refusal _ c.in-Some.ensures

pub returns-then-not-counted : goal.returns-then-not-counted
returns-then-not-counted c = judged_stored (sym c.in_default.ensures) c.if-not-counted.true

pub returns : goal.returns
returns c = judged_stored (sym c.in_default.ensures) c.if-not-counted.false
