-- The fields of the numbers passed are put.
use borrow.Author.Rules.{rules}
use mathlib.Core.Path.{refl}
use lib.IntN.{pos}
use lib.ListN.{get_or}
use mir.Syntax.{w64}
use Rattle.laws.proofs.Integers.{back}
use Rattle.decimals.specs.Put.{field}
use Rattle.decimals.proofs.Laws.{each_room, each_more}
use Rattle.printing.proofs.put_fields.Goals as goal

pub put_field-next-requires : goal.put_field-next-requires
put_field-next-requires c =
    let i = c.loop-number.number-index in
    rw (back w64 (get_or c.args.numbers.now i (pos 0)) (search rules)) (each_room field c.args.numbers.now i (pos 0) c.loop-number-test.true refl c.loop-number.invariant c.requires)

pub loop-number-preserved : goal.loop-number-preserved
loop-number-preserved c =
    let i = c.loop-number.number-index in
    let z = get_or c.args.numbers.now i (pos 0) in
    each_more field c.args.numbers.now i (pos 0) c.loop-number-test.true refl c.loop-number.invariant (rw (back w64 z (search rules)) at c.put_field-next.ensures)
