-- One place after the other, of those that were there when the set began.
use borrow.Author.Rules.{rules}
use native.Mathlib.Omega.{arith}
use mathlib.Core.Path.{◌≡◌, ◌∙◌}
use mir.Val.{to_z, of_z}
use mir.Syntax.{w64}
use Rattle.states.proofs.Ghost.{level_starts, level_ends, top_read}
use Rattle.sets.proofs.level.Goals as goal

pub loop-j-init : goal.loop-j-init
loop-j-init c = level_starts _ _ _ c.requires.starting

pub visit-requires-clause-top_value : goal.visit-requires-clause-top_value
visit-requires-clause-top_value c = let r = c.top_score-top in let back : to_z w64 (of_z w64 r.result) ≡ r.result = search rules in
    back ∙ top_read _ _ _ c.requires.starting r.ensures

pub returns : goal.returns
returns c = level_ends _ _ _ (omega (arith, c.requires.starting.long, c.loop-j-test.false)) c.loop-j.invariant
