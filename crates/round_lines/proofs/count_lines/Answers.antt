-- The parts that are counted are the lines.
use borrow.Author.Tests.{tests}
use Rattle.std.proofs.Common.{rules}
use Rattle.std.proofs.lemmas.Iterator.Consumers.{count_from_yields_List}
use Rattle.round_lines.proofs.Lines.{lines_given}
use Rattle.round_lines.proofs.count_lines.Goals as goal

pub returns : goal.returns
returns c =
    count_from_yields_List c.split_inclusive.result c.count.result c.count.ensures.ran
    (lines_given _ c.args.text.now c.split_inclusive.ensures.rest c.split_inclusive.ensures.closure (λ x b q k. search (rules, tests)))
