-- The numbers that the store leads back to are those of the state's steps.
use borrow.Author.Rules.{rules}
use native.Mathlib.Omega.{arith}
use mathlib.Core.Path.{◌≡◌, ◌∙◌, ap}
use mir.Val.{to_z, of_z}
use mir.Syntax.{w64}
use Rattle.meaning.specs.Book.{book_of}
use Rattle.records.specs.Plain.{steps_of}
use Rattle.judging.proofs.Counts.{judged}
use Rattle.store.specs.declared.Place.{Place}
use Rattle.answer.proofs.Answers.{ends_few, way_long, step_entry, told}
use Rattle.answer.proofs.trace.Goals as goal

pub write_words-many-requires-clause-by_index : goal.write_words-many-requires-clause-by_index
write_words-many-requires-clause-by_index c = let E = c.requires.ended.ends in
    let w = c.path-d in
    let W = w.ensures E.list E.chains E.inside in
    let l = way_long E W in
    let h = E.short in
    let f = ends_few E in
    let p = c.steps_of-plain in
    let n = p.ensures.0 in
    let r = c.requires.direction_in_bounds in
    step_entry c.requires.prepared.entries_at E p.result w.new.out w.result W (let k = w.auto.out in omega arith) p.ensures

pub returns : goal.returns
returns c =
    let back : to_z w64 (of_z w64 c.place_at-x.result.state.score) ≡ c.place_at-x.result.state.score = search rules in
    λ q E.
    let w = c.path-d in
    let W = w.ensures E.list E.chains E.inside in
    let l = way_long E W in
    let h = E.short in
    let f = ends_few E in
    let k = w.auto.out in
    let p = c.steps_of-plain in
    let m = c.write_words-many in
    told E p.result W (omega arith) p.ensures (m.ensures.value, m.ensures.words_after) (back ∙ ap (λ (x : Place). x.state.score) c.place_at-x.ensures)
    (c.judge_words-supplied.ensures ∙ judged (book_of c.args.book.now) (steps_of p.result) c.args.words.now c.requires.prepared.grams_are m.ensures.words_after m.ensures.value)
