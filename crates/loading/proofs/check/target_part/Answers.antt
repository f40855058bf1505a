-- Where 2 to 6 pass, the lines are whole and the part is that of the entry; else it is the empty part at the end.
use native.Mathlib.Omega.{arith}
use mathlib.Core.Path.{sym, ◌∙◌}
use Rattle.book.proofs.Sought.{target_passed, target_refused, passed_whole}
use borrow.Author.Rules.{rules}
use Rattle.loading.proofs.check.target_part.Goals as goal

pub find_target-requires : goal.find_target-requires
find_target-requires c = passed_whole c.args.book.now (sym c.passes.ensures ∙ c.if-passes.true)

pub returns-then-passes : goal.returns-then-passes
returns-then-passes c =
    let a = c.args in
    rw (target_passed a.book.now a.entry (sym c.passes.ensures ∙ c.if-passes.true)) c.find_target.ensures

pub returns : goal.returns
returns c =
    let a = c.args in
    let none = target_refused a.book.now a.entry (sym c.passes.ensures ∙ c.if-passes.false) in
    rw none (record { start_is = search rules; size_is = search rules; inside = omega arith })
