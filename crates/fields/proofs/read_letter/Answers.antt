-- A letter with its comma, or what is none of these (Fields).
use Prim.Native.Nat.{◌+◌, ◌<◌}
use mathlib.Core.Path.{◌≡◌}
use mathlib.Core.Bool.{true}
use native.Mathlib.Omega.{arith}
use borrow.Author.Rules.{rules}
use mir.Syntax.{w32}
use mir.Val.{to_z, of_z}
use lib.ListN.{get_or, length}
use Rattle.std.proofs.Common.{Some, None}
use Rattle.fields.specs.Scan.{Line, letter_kind}
use Rattle.fields.proofs.Fields.{bad_byte, at_letter, no_letter, no_comma}
use Rattle.fields.proofs.read_letter.Goals as goal

pub returns-then-not-book : goal.returns-then-not-book
returns-then-not-book c = bad_byte c.args.book c.args.text.now c.args.at Line c.requires (rw c.if-not-book.true)

pub returns-in_err-number : goal.returns-in_err-number
returns-in_err-number c =
    let k : letter_kind (get_or c.args.text.now c.args.at 0) ≡ None = search rules in
    rw (c.from_residual.ensures, c.if-not-book.false) (bad_byte true c.args.text.now c.args.at Line c.requires (no_letter _ k))

pub returns-in-44 : goal.returns-in-44
returns-in-44 c =
    let a = c.args in
    let k : letter_kind (get_or a.text.now a.at 0) ≡ Some c.in_ok-number.number = search rules in
    let e : c.in_ok-get.field-0.now ≡ get_or a.text.now (a.at + 1) 0 = search rules in
    let h : a.at + 1 < length a.text.now = search rules in
    let kept : to_z w32 (of_z w32 c.in_ok-number.number) ≡ c.in_ok-number.number = search rules in
    rw (kept, c.if-not-book.false) (at_letter a.text.now a.at c.requires c.in_ok-number.number k h (omega arith))

pub returns-in_default : goal.returns-in_default
returns-in_default c =
    let a = c.args in
    let k : letter_kind (get_or a.text.now a.at 0) ≡ Some c.in_ok-number.number = search rules in
    let e : c.in_ok-get.field-0.now ≡ get_or a.text.now (a.at + 1) 0 = search rules in
    rw c.if-not-book.false (no_comma a.text.now a.at c.requires c.in_ok-number.number k (λ h q. omega arith))
