-- The survey of the list is that of its lines, and what they answer is what the list answers.
use Rattle.meaning.specs.Book.{in_list, loaded_lines, book_refusal, book_of}
use Rattle.loading.proofs.Answers.{survey_loaded, tally_loaded, stored_loaded}
use Rattle.loading.proofs.load.load.Goals as goal

pub returns : goal.returns
unfolding book_refusal book_of
returns c =
    let a = c.args in
    let k = c.survey_loaded-surveyed in
    c.settle.ensures in_list (loaded_lines a.book.now) a.index.now (survey_loaded a.book.now a.index.now _ _ k.result k.ensures)
    (stored_loaded a.book.now _ _ c.is_counted-counted.ensures (tally_loaded a.book.now a.index.now _ _ k.result k.ensures))
