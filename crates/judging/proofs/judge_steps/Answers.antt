-- The words that are written are the derivation's own, and they are judged in a row.
use mathlib.Core.Path.{◌∙◌}
use lib.ListN.{replicate}
use Rattle.meaning.specs.Book.{book_of}
use Rattle.records.specs.Plain.{steps_of}
use Rattle.judging.proofs.Counts.{judged}
use Rattle.judging.proofs.judge_steps.Goals as goal

pub returns : goal.returns
returns c =
    let w = c.write_words-count in
    c.judge_words.ensures ∙ judged (book_of c.args.book.now) (steps_of c.args.plain) (replicate 264 0) c.requires.prepared.grams_are w.ensures.words_after w.ensures.value
