-- A byte that may not follow (Fields).
use Prim.Native.Nat.{◌<◌}
use mathlib.Core.Path.{◌≡◌}
use native.Mathlib.Omega.{arith}
use borrow.Author.Rules.{rules}
use lib.ListN.{get_or, length}
use Rattle.fields.proofs.Fields.{no_mark}
use Rattle.fields.proofs.end_number.Goals as goal

pub returns-in_default : goal.returns-in_default
returns-in_default c =
    let a = c.args in
    let e : c.in_ok-get.field-0.now ≡ get_or a.text.now a.at 0 = search rules in
    let h : a.at < length a.text.now = search rules in
    λ book. no_mark book a.text.now a.at h a.minus a.v (c.requires.no_more h) (λ q. omega arith) (λ q. omega arith)
