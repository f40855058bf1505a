-- A minus or a digit begins the number (Fields); else no number does.
use native.Mathlib.Omega.{arith}
use lib.ListN.{get_or}
use Rattle.fields.specs.Scan.{Field}
use Rattle.fields.proofs.Fields.{field_on, bad_byte, on_minus, on_first, digit, no_number}
use Rattle.fields.proofs.read_number.Goals as goal

pub returns-in-45 : goal.returns-in-45
returns-in-45 c = λ book. field_on c.read_negative.result (on_minus book c.args.text.now c.args.at c.requires c.in-45.is) (omega arith) (c.read_negative.ensures book)

pub returns-in-48-to-57 : goal.returns-in-48-to-57
returns-in-48-to-57 c = λ book. field_on c.rest_of_number.result (on_first book c.args.text.now c.args.at c.requires (digit (get_or c.args.text.now c.args.at 0) (omega arith) (omega arith))) (omega arith) (c.rest_of_number.ensures book)

pub returns-in_default : goal.returns-in_default
returns-in_default c = λ book. bad_byte book c.args.text.now c.args.at Field c.requires (no_number book (get_or c.args.text.now c.args.at 0) (λ q. omega arith) (λ a b. omega arith))

pub returns-in_default-2 : goal.returns-in_default-2
returns-in_default-2 c = λ book. bad_byte book c.args.text.now c.args.at Field c.requires (no_number book (get_or c.args.text.now c.args.at 0) (λ q. omega arith) (λ a b. omega arith))
