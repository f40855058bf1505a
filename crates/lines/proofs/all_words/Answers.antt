-- What `all` gives over the numbers, each tested by `is_word`.
use mathlib.Core.Path.{◌∙◌}
use Rattle.std.proofs.Common.{rules, tests}
use Rattle.std.proofs.lemmas.Iterator.{YieldsList-from_slice}
use Rattle.std.proofs.lemmas.Iterator.Search.{all_from_yields_List}
use Rattle.meaning.specs.Book.{is_word}
use Rattle.lines.proofs.Lines.{all_is}
use Rattle.lines.proofs.all_words.Goals as goal

pub returns : goal.returns
returns c =
    all_from_yields_List is_word _ _ c.all.result c.all.ensures.ran (YieldsList-from_slice c.args.numbers.now cc) (λ x b q k. search (rules, tests))
    ∙ all_is is_word c.args.numbers.now
