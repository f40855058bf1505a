-- A magnitude that is exact within a score's range gives such a value with either sign (Capped).
use Rattle.std.proofs.Common.{sym, ◌∙◌}
use mir.Syntax.{w32}
use Rattle.laws.proofs.Integers.{back}
use Rattle.thousandths.proofs.Parts.{value_minus, value_plain, thousandths_minus, thousandths_plain}
use Rattle.thousandths.proofs.Capped.{capped_pos, capped_neg}
use Rattle.thousandths.proofs.value_of.Goals as goal

pub magnitude_of-requires : goal.magnitude_of-requires
magnitude_of-requires c = sym (value_minus c.args.field.now c.in-Some.number c.in-Some.ensures.cases) ∙ c.requires

pub returns-in-Some : goal.returns-in-Some
returns-in-Some c = rw (back w32 c.signed.result c.signed.type_inv, c.signed.ensures, thousandths_minus c.args.field.now c.in-Some.number c.in-Some.ensures.cases)
    (capped_neg c.magnitude_of.ensures)

pub magnitude_of-requires-in-None : goal.magnitude_of-requires-in-None
magnitude_of-requires-in-None c = sym (value_plain c.args.field.now c.in-None.ensures.cases) ∙ c.requires

pub returns-in-None : goal.returns-in-None
returns-in-None c = rw (back w32 c.signed-in-None.result c.signed-in-None.type_inv, c.signed-in-None.ensures, thousandths_plain c.args.field.now c.in-None.ensures.cases c.requires)
    (capped_pos c.magnitude_of-in-None.ensures)
