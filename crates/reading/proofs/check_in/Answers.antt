-- A survey that breaks off is refusal 1 or 2; of a whole one, whose records the list has room for, what questions 3 to 6 and 20 answer is the text's answer.
use native.Mathlib.Omega.{arith}
use Rattle.meaning.specs.Book.{in_text, text_lines}
use Rattle.book.specs.Survey.{gram_count}
use Rattle.loading.proofs.Answers.{few_grams}
use Rattle.reading.proofs.TextReplies.{answer_counted, text_counted}
use Rattle.reading.proofs.Room.{eight_bytes}
use Rattle.reading.proofs.check_in.Goals as goal

pub settle_whole-loaded-requires : goal.settle_whole-loaded-requires
settle_whole-loaded-requires c =
    let tally = c.survey_text.new.tally in
    let w = c.in-Some.ensures in
    λ few. omega (arith, c.requires (gram_count tally) (few_grams tally few) (eight_bytes w))

pub returns : goal.returns
returns c =
    let t = c.args.text.now in
    let k = c.settle_whole-loaded in
    let s = c.in-Some.ensures in
    rw c.counted.ensures
    (answer_counted t c.in-Some.surveyed.count _ _ _ k.result s.formed s.counted s.lines.tallied (k.ensures in_text (text_lines t) _ s.lines (text_counted (text_lines t))))
