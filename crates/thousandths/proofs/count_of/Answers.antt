-- The digits are counted by an iterator.
use Rattle.std.proofs.Common.{◌∙◌, rules, tests, arith}
use Rattle.std.proofs.lemmas.Iterator.{YieldsList-from_slice}
use Rattle.std.proofs.lemmas.Iterator.Consumers.{fold_from_yields_List}
use Rattle.thousandths.proofs.Places.{with_digit, count_all}
use Rattle.thousandths.proofs.count_of.Goals as goal

pub returns : goal.returns
returns c =
    let t = c.args.digits.now in
    fold_from_yields_List _ with_digit 0 c.fold.result c.fold.ensures.ran (YieldsList-from_slice t c.iter.ensures.rest) (λ a x b q k. search (rules, tests)) ∙ count_all t 0 0 (omega arith)
