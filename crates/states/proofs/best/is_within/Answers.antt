-- top - score <= width says the same as top - width <= score, and cannot wrap.
use mathlib.Core.Path.{◌≡◌, ap, ◌∙◌}
use mathlib.Core.Bool.{false}
use native.Mathlib.Omega.{arith}
use lib.IntN.{ℤ, negsuc, ◌-ℤ◌}
use lib.Signed.{le_z}
use mir.Syntax.{w64}
use mir.Facts.{to_z-of_z}
use Rattle.laws.specs.Integers.{eqℤ}
use Rattle.laws.proofs.Bounds.{within_fits}
use Rattle.laws.proofs.Linear.{signed, bits_ne, ne_out}
use Rattle.laws.proofs.Got.{Got, i64, leaf, sub, kept}
use Rattle.meaning.specs.State.{spread_bound}
use Rattle.states.proofs.Answer.{within_on}
use Rattle.states.proofs.best.is_within.Goals as goal

pub returns-else-width-eqminus1 : goal.returns-else-width-eqminus1
returns-else-width-eqminus1 c =
    let e : eqℤ c.args.width (negsuc 0) ≡ false = omega (arith, signed, ne_out (bits_ne w64 c.args.width (negsuc 0) c.if-width-eqminus1.false)) in
    let less : Got spread_bound (i64 c.args.top -ℤ i64 c.args.x.score) (c.args.top -ℤ c.args.x.score) = sub (leaf c.ranges.top c.requires.0) (leaf (within_fits w64 c.requires.1 (omega arith)) c.requires.1) in
    ap (λ (z : ℤ). le_z z (i64 c.args.width)) (kept w64 less (omega arith)).is ∙ ap (le_z (c.args.top -ℤ c.args.x.score)) (to_z-of_z c.ranges.width)
    ∙ within_on c.args.width c.args.top c.args.x.score e
