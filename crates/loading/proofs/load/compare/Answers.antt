-- The records in the list are those of the lines, and question 5 has passed, so there is room for their index; their comparison answers questions 6 and 20.
use mathlib.Core.Path.{sym, ap, ◌∙◌}
use Rattle.ngrams.specs.Grams.{repeat_refusal, Indexed}
use Rattle.book.specs.Survey.{gram_count}
use Rattle.loading.proofs.Answers.{compared_so, different_so}
use Rattle.loading.proofs.load.compare.Goals as goal

pub returns-in-Some : goal.returns-in-Some
returns-in-Some c = λ form lines index₀ s w four stored.
    sym (compared_so w c.requires.tally_in_bounds four stored) ∙ ap (repeat_refusal c.args.index.now) (sym c.grams-count.ensures) ∙ sym c.in-Some.ensures.answer

pub returns : goal.returns
returns c = λ form lines index₀ s w four stored.
    let x = c.in_default.ensures in
    let n = c.grams-count.ensures in
    let i : Indexed c.index_all.new.index (gram_count c.args.tally.now) = rw n at x.indexed in
    rw (n, c.shorter-shorter.ensures)
    (different_so w c.requires.tally_in_bounds four stored x.kept (sym (x.answer ∙ ap (repeat_refusal c.args.index.now) n)) i)
