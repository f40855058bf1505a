-- A number stands behind a minus, or where none stands (Parts).
use Rattle.std.proofs.Common.{sym, ◌∙◌}
use Rattle.thousandths.proofs.Parts.{value_number}
use Rattle.thousandths.proofs.is_value.Goals as goal

pub returns : goal.returns
returns c = c.is_decimal.ensures ∙ sym (value_number c.args.field c.strip_prefix.result c.unwrap_or.result c.strip_prefix.ensures.cases c.unwrap_or.ensures)
