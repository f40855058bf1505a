-- As many of the numbers as there are places for are copied; the places behind them stay.
use Rattle.std.proofs.Common.{List, ℤ, ◌++◌, drop, ap, ◌∙◌}
use Rattle.lists.proofs.Reports.{filled_front}
use Rattle.lists.proofs.report.fill.Goals as goal

pub returns : goal.returns
returns c =
    let a = c.args in
    let n = c.min-n.result in
    ap (λ (l : List ℤ). l ++ drop n a.report.now) c.copy_from_slice.ensures.after ∙ filled_front a.numbers.now a.report.now n c.min-n.ensures
