-- The invariant: what was asked has passed, and k directions are decoded.
use Rattle.std.proofs.lemmas.Result.{err_from_is_err_and}
use Prim.Native.Nat.{ℕ, ◌<◌}
use native.Mathlib.Omega.{arith}
use mathlib.Core.Path.{◌≡◌, refl, sym, ◌∙◌}
use Rattle.laws.proofs.Integers.{back}
use mir.Syntax.{w64}
use Rattle.round_parts.proofs.Counted.{all_countable}
use Rattle.rounds.proofs.Going.{going_begins}
use Rattle.rounds.proofs.Whole.{ready, store_long, words_many, going_next, round_ends, round_refused}
use Rattle.rounds.proofs.decode_if.Goals as goal

below : {n m : ℕ} → n ≡ m → m < 9_223_372_036_854_775_808 → n < 9_223_372_036_854_775_808
below e h = omega arith

pub returns-in_err-counts-clause-round_lists : goal.returns-in_err-counts-clause-round_lists
returns-in_err-counts-clause-round_lists c = (round_refused _ _ _ _ _ _ _ c.args.enough c.args.width _ c.in_err-counts.ensures).1

pub returns-in_err-counts-clause-result_value : goal.returns-in_err-counts-clause-result_value
returns-in_err-counts-clause-result_value c = let p = err_from_is_err_and c.from_residual.result c.from_residual.ensures.1 in rw (p.1, p.2) (round_refused _ _ _ _ _ _ _ c.args.enough c.args.width _ c.in_err-counts.ensures).0

pub loop-k-init : goal.loop-k-init
loop-k-init c =
    let o = c.in_ok-counts.ensures in
    (ready _ _ _ _ _ _ _ _ o.0 o.1, going_begins _ _ _ _ _ _ _ _, refl)

pub put_at-swept-requires-clause-all_countable : goal.put_at-swept-requires-clause-all_countable
put_at-swept-requires-clause-all_countable c = let h = c.loop-k-test.true in
    let D = c.decode_at-told.ensures.decodes in
    all_countable _ _ _ _ _ _ _ _ _ D (omega arith) (below (words_many _ _ _ _ _ _ _ _ _ c.loop-k.invariant.0 c.loop-k.invariant.1 h) (omega arith)) (below (store_long _ _ _ _ _ _ _ _ _ c.loop-k.invariant.0 c.loop-k.invariant.1) (omega arith))

pub loop-k-preserved : goal.loop-k-preserved
loop-k-preserved c =
    let h = c.loop-k-test.true in (
      c.loop-k.invariant.0,
      going_next _ _ _ _ _ _ _ _ _ c.loop-k.invariant.0 c.loop-k.invariant.1 h c.decode_at-told.result c.decode_at-told.new.words c.decode_at-told.new.store c.decode_at-told.ensures c.put_at-swept.result c.put_at-swept.new.steps c.put_at-swept.new.answers c.put_at-swept.ensures.steps_after c.put_at-swept.ensures.answers_after c.put_at-swept.ensures.value,
      c.loop-k.invariant.2 ∙ sym c.decode_at-told.auto.options,
    )

pub returns-clause-round_lists : goal.returns-clause-round_lists
returns-clause-round_lists c = rw (back w64 c.args.width c.ranges.width.sfits) at (round_ends _ _ _ _ _ _ _ _ _ c.loop-k.invariant.0 c.loop-k.invariant.1 (omega arith))
