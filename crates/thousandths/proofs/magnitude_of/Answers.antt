-- Up to 1000 a count is exact, and so is the sum of its thousandths and the fraction's; beyond it the number is out of range whatever follows.
use Rattle.std.proofs.Common.{arith}
use Rattle.thousandths.proofs.Magnitude.{fraction_digits, magnitude_is, magnitude_least}
use Rattle.thousandths.proofs.magnitude_of.Goals as goal

pub returns-then-count-gt1000 : goal.returns-then-count-gt1000
returns-then-count-gt1000 c =
    let p = c.parts_of.result in
    omega (arith, c.count_of-count.ensures, magnitude_least c.args.number.now p.0.now p.1 c.parts_of.ensures c.requires)

pub map_or-requires : goal.map_or-requires
map_or-requires c =
    let p = c.parts_of.result in
    fraction_digits c.args.number.now p.0.now p.1 c.parts_of.ensures c.requires

pub overflow_add-result : goal.overflow_add-result
overflow_add-result c =
    let p = c.parts_of.result in
    omega (arith, magnitude_is c.args.number.now p.0.now p.1 c.map_or.result c.parts_of.ensures c.requires c.map_or.ensures)

pub returns : goal.returns
returns c =
    let p = c.parts_of.result in
    omega (arith, c.count_of-count.ensures, magnitude_is c.args.number.now p.0.now p.1 c.map_or.result c.parts_of.ensures c.requires c.map_or.ensures)
