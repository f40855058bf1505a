-- A digit 1 to 9 begins the number (Fields); else no number does.
use Prim.Native.Nat.{◌<◌}
use mathlib.Core.Path.{◌≡◌}
use native.Mathlib.Omega.{arith}
use borrow.Author.Rules.{rules}
use lib.ListN.{get_or, length}
use Rattle.fields.specs.Scan.{Minus}
use Rattle.fields.proofs.Fields.{field_on, bad_byte, on_negative, digit, no_negative}
use Rattle.fields.proofs.read_negative.Goals as goal

pub returns-in-49-to-57 : goal.returns-in-49-to-57
returns-in-49-to-57 c =
    let e : c.in_ok-b.field-0.now ≡ get_or c.args.text.now c.args.at 0 = search rules in
    let h : c.args.at < length c.args.text.now = search rules in
    λ book. field_on c.rest_of_number.result (on_negative book c.args.text.now c.args.at h (λ q. omega arith) (digit (get_or c.args.text.now c.args.at 0) (omega arith) (omega arith))) (omega arith) (rw e at (c.rest_of_number.ensures book))

pub returns-in_default : goal.returns-in_default
returns-in_default c =
    let e : c.in_ok-b.field-0.now ≡ get_or c.args.text.now c.args.at 0 = search rules in
    let h : c.args.at < length c.args.text.now = search rules in
    λ book. bad_byte book c.args.text.now c.args.at Minus h (no_negative book (get_or c.args.text.now c.args.at 0) (λ a b. omega arith))

pub returns-in_default-2 : goal.returns-in_default-2
returns-in_default-2 c =
    let e : c.in_ok-b.field-0.now ≡ get_or c.args.text.now c.args.at 0 = search rules in
    let h : c.args.at < length c.args.text.now = search rules in
    λ book. bad_byte book c.args.text.now c.args.at Minus h (no_negative book (get_or c.args.text.now c.args.at 0) (λ a b. omega arith))
