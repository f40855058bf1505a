-- What stands before the first point is digits, and what stands behind it (Magnitude).
use Rattle.std.proofs.Common.{◌≡◌, true, ◌&&◌, sym, ap, ◌∙◌}
use mathlib.Core.Bool.{Bool}
use Rattle.arpa.specs.Values.{are_digits}
use Rattle.thousandths.proofs.Magnitude.{decimal_is}
use Rattle.thousandths.proofs.is_decimal.Goals as goal

pub returns-then-are_digits : goal.returns-then-are_digits
returns-then-are_digits c =
    let p = c.parts_of.result in
    let whole : are_digits p.0.now ≡ true = sym c.are_digits.ensures ∙ c.if-are_digits.true in
    sym (decimal_is c.args.number.now p.0.now p.1 c.is_none_or.result c.parts_of.ensures c.is_none_or.ensures ∙ ap (λ (b : Bool). b && c.is_none_or.result) whole)
