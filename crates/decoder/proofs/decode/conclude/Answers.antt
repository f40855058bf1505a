-- Where no place covers every word there is no answer; else the best place's state is the answer.
use borrow.Author.Rules.{rules}
use mathlib.Core.Path.{◌≡◌, refl, ◌∙◌, ap}
use Rattle.decoder.proofs.Deciding.{last_ends, told_all, found_is, concluded_by}
use Rattle.states.proofs.Ghost.{start_walks}
use Rattle.decoder.specs.Decodes.{refused_by, no_answer}
use mir.Val.{to_z, of_z}
use mir.Syntax.{w64}
use borrow.Author.Rules.{rules}
use Rattle.decoder.proofs.decode.conclude.Goals as goal

pub pick_best-requires : goal.pick_best-requires
pick_best-requires c = start_walks _ _ _ c.requires.starting

pub trace-told-requires-clause-ended : goal.trace-told-requires-clause-ended
trace-told-requires-clause-ended c = let b = c.in-Some.ensures.below.0 in
    record { state = _; ends = last_ends _ _ _ c.requires.starting _ b }

pub returns-in-None-clause-concluded : goal.returns-in-None-clause-concluded
returns-in-None-clause-concluded c = let back : to_z w64 (of_z w64 c.args.task.now.beam.width) ≡ c.args.task.now.beam.width = search rules in let e = found_is _ _ _ c.requires.starting c.args.task.now.searchable.prepared.n_is _ c.pick_best.ensures.l_value c.in-None.is in
    concluded_by _ _ _ c.requires.starting e _ _ _ (c.refused.ensures ∙ ap refused_by (c.no_answer.ensures ∙ ap no_answer back), refl)

pub returns-in-Some-clause-concluded : goal.returns-in-Some-clause-concluded
returns-in-Some-clause-concluded c = let b = c.in-Some.ensures.below.0 in let e = found_is _ _ _ c.requires.starting c.args.task.now.searchable.prepared.n_is _ c.pick_best.ensures.l_value c.in-Some.is in
    concluded_by _ _ _ c.requires.starting e _ _ _ (told_all _ _ _ c.requires.starting (c.trace-told.ensures _ (last_ends _ _ _ c.requires.starting _ b)))
