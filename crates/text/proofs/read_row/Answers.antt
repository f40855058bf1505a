-- A field more, the line's last field, and the beginning (InRow).
use mathlib.Core.Path.{◌≡◌, ap, ◌∙◌}
use lib.ListN.{set}
use mir.Syntax.{w32}
use mir.Val.{to_z, of_z}
use borrow.Author.Rules.{rules}
use Rattle.text.proofs.InRow.{row_start, row_more, row_last}
use Rattle.text.proofs.read_row.Goals as goal
use Rattle.text.proofs.read_row.Goals.{After-put}

-- what the field puts
puts : (c : After-put) → c.put.new.list ≡ set c.loop-end.row c.loop-end.count c.in_ok-field.field.number
puts c =
    let kept : to_z w32 (of_z w32 c.in_ok-field.field.number) ≡ c.in_ok-field.field.number = search rules in
    c.put.ensures ∙ ap (set c.loop-end.row c.loop-end.count) kept

pub loop-end-init : goal.loop-end-init
loop-end-init c = row_start c.args.text.now c.args.at c.args.row.now c.requires

pub returns-then-field-clause-read : goal.returns-then-field-clause-read
returns-then-field-clause-read c =
    rw (puts (goal.at.returns-then-field-clause-read c).After-put) (row_last c.loop-end.invariant c.in_ok-field.field c.in_ok-field.ensures c.if-field.true)

pub loop-end-preserved : goal.loop-end-preserved
loop-end-preserved c =
    rw (puts (goal.at.loop-end-preserved c).After-put) (row_more c.loop-end.invariant c.in_ok-field.field c.in_ok-field.ensures c.if-field.false)
