-- The lines that the text gave so far are read.
use Rattle.std.proofs.lemmas.Result.{err_from_is_err_and}
use Prim.Native.Nat.{◌<◌}
use native.Mathlib.Omega.{arith}
use mathlib.Core.Path.{◌≡◌, ◌∙◌, ap, refl}
use borrow.Author.Tests.{tests}
use mathlib.Core.List.{[], ◌∷◌}
use lib.ListN.{length, get_or, length-append}
use Rattle.std.proofs.Common.{rules, of_calls}
use Rattle.std.specs.Slice.Iter.{split_inclusive_rest, split_inclusive_callee}
use Rattle.meaning.specs.Sheet.{direction_texts}
use Rattle.round_lines.proofs.Lines.{line_turn, line_end}
use Rattle.round_lines.proofs.Reading.{reads_begin, reads_room, reads_place, reads_few, reads_refused, reads_next, reads_end}
use Rattle.round_lines.proofs.read_lines.Goals as goal
use Rattle.round_lines.proofs.read_lines.Goals.{In-Some}

-- the text gave line n, or none more
turn : (c : In-Some) → (c.loop-line.n < length (direction_texts c.args.text.now)) × (c.in-Some.line.now ≡ get_or (direction_texts c.args.text.now) c.loop-line.n c.in-Some.line.now)
turn c =
    let i = c.into_iter-line-iterator.ensures.into_iter_gives in
    let s = c.split_inclusive-line-items.ensures in
    line_turn _ c.into_iter-line-iterator.result c.loop-line.line-iterator c.next.new.self c.args.text.now (ap split_inclusive_rest i ∙ s.rest) (ap split_inclusive_callee i ∙ s.closure) (λ x b q k. search (rules, tests))
    c.loop-line.yielded c.loop-line.yielded_by c.loop-line.invariant.2 c.next.ensures.steps c.in-Some.is

pub loop-line-init : goal.loop-line-init
loop-line-init c = (search of_calls, tt, refl, reads_begin c.requires.text_value c.requires.in_bounds c.requires.in_bounds_2)

pub read_at-requires : goal.read_at-requires
read_at-requires c = let t = turn (goal.at.read_at-requires c).In-Some in reads_room c.loop-line.invariant.3 t.0 t.1

pub returns-in_err-at : goal.returns-in_err-at
returns-in_err-at c = let t = turn (goal.at.returns-in_err-at c).In-Some in let p = err_from_is_err_and c.from_residual.result c.from_residual.ensures.1 in rw (p.1, p.2) (reads_refused c.loop-line.invariant.3 t.0 t.1 _ c.in_err-at.ensures)

pub bounds-ends-n : goal.bounds-ends-n
bounds-ends-n c = let t = turn (goal.at.bounds-ends-n c).In-Some in reads_place c.loop-line.invariant.3 t.0 t.1

pub offset_bounds-ends-n : goal.offset_bounds-ends-n
offset_bounds-ends-n c = let t = turn (goal.at.offset_bounds-ends-n c).In-Some in search (rules, reads_few c.loop-line.invariant.3 t.0 t.1)

pub overflow_add-n : goal.overflow_add-n
overflow_add-n c = let t = turn (goal.at.overflow_add-n c).In-Some in search (rules, reads_few c.loop-line.invariant.3 t.0 t.1)

pub loop-line-preserved : goal.loop-line-preserved
loop-line-preserved c =
    let t = turn (goal.at.loop-line-preserved c).In-Some in
    (search rules, tt, omega (arith, length-append c.loop-line.yielded (c.in-Some.line ∷ []), c.loop-line.invariant.2), reads_next c.loop-line.invariant.3 t.0 t.1 c.in_ok-at.ensures c.read_at.auto.directions)

pub returns : goal.returns
returns c =
    let i = c.into_iter-line-iterator.ensures.into_iter_gives in
    let s = c.split_inclusive-line-items.ensures in
    let e = line_end _ c.into_iter-line-iterator.result c.loop-line.line-iterator c.next.new.self c.args.text.now (ap split_inclusive_rest i ∙ s.rest) (ap split_inclusive_callee i ∙ s.closure) (λ x b q k. search (rules, tests)) c.loop-line.yielded c.loop-line.yielded_by c.loop-line.invariant.2 c.next.ensures.steps c.in-None.is in
    reads_end c.loop-line.invariant.3 e
