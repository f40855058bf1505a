-- Only a line of order 1 has a single word, which is its field 1.
use Rattle.std.proofs.Common.{sym, ◌∙◌, arith}
use borrow.Author.Tests.{ne_eqb}
use Rattle.tokens.proofs.Bytes.{same_is}
use Rattle.outline.proofs.Noted.{field_is}
use Rattle.outline.proofs.Shapes.{not_unknown, unknown_is}
use Rattle.outline.proofs.lines.is_unknown.Goals as goal

pub returns-then-order-eq1 : goal.returns-then-order-eq1
returns-then-order-eq1 c fields f =
    c.eq.ensures ∙ same_is c.field.result.now c.as_slice.result.now
    ∙ rw (c.as_slice.ensures, c.field.ensures, field_is 1 (omega arith) (omega arith) f) (sym (rw c.if-order-eq1.true (unknown_is fields (omega (arith, f.long)))))

pub returns-else-order-eq1 : goal.returns-else-order-eq1
returns-else-order-eq1 c fields f = ne_eqb c.args.order 1 c.if-order-eq1.false ∙ sym (not_unknown c.args.order fields c.if-order-eq1.false (omega (arith, f.long)))
