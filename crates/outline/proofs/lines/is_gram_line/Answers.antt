-- The number of fields decides which of them have to be values.
use Prim.Native.Nat.{ℕ, ◌+◌, ◌<◌}
use mathlib.Core.Path.{◌≡◌, sym, ◌∙◌}
use mathlib.Core.Bool.{Bool, true, ◌&&◌}
use mathlib.Core.List.{List}
use native.Mathlib.Omega.{arith}
use lib.Dec.{ltb}
use lib.ListN.{drop}
use borrow.Author.Tests.{lt-ltb, le-ltb}
use Rattle.arpa.specs.Values.{is_value}
use Rattle.arpa.specs.File.{is_weight_part, is_gram_line}
use Rattle.tokens.specs.Scan.{field_at}
use Rattle.tokens.specs.Fields.{FieldsAt}
use Rattle.outline.proofs.Noted.{field_is}
use Rattle.outline.proofs.Shapes.{too_few, gram_line_is, weight_missing, weight_is, too_many}
use Rattle.outline.proofs.lines.is_gram_line.Goals as goal
use Rattle.outline.proofs.lines.is_gram_line.Goals.{Else-not-is_value_at, then-count-order-via-then-count-order, then-count-order-via-else-count-order+then-not-is_value_at}

-- a line that is long enough, by whether its first field is a value
by_value : {text places : List ℕ} {count : ℕ} {fields : List (List ℕ)} {b : Bool} (top n : ℕ) → FieldsAt text places count fields → n < count → b ≡ is_value (field_at text places 0)
    → is_gram_line top n fields ≡ b && is_weight_part (ltb n top) (drop (n + 1) fields)
by_value {fields = fields} top n f l e = gram_line_is top n fields (omega (arith, f.long)) ∙ rw (← field_is 0 (omega arith) (omega arith) f, ← e)

-- the first field is a value
is-first : (c : Else-not-is_value_at) → true ≡ is_value (field_at c.args.text.now c.args.places.now 0)
is-first c = sym c.if-not-is_value_at.false ∙ c.is_value_at.ensures

pub returns-then-count-order : goal.returns-then-count-order
returns-then-count-order c fields f =
    let a = c.args in
    sym (elim c.then-count-order.branch [
      | then-count-order-via-then-count-order w ↦ too_few a.top a.order fields (omega (arith, f.long, w.if-count-order.true))
      | then-count-order-via-else-count-order+then-not-is_value_at w ↦ by_value a.top a.order f (omega (arith, w.if-count-order.false)) (sym w.if-not-is_value_at.true ∙ w.is_value_at.ensures)
    ])

pub returns-in-1 : goal.returns-in-1
returns-in-1 c fields f =
    let a = c.args in
    sym (by_value a.top a.order f (omega arith) (is-first (goal.at.returns-in-1 c).Else-not-is_value_at) ∙ weight_missing _ a.order fields (omega (arith, f.long)))

pub returns-then-order-top : goal.returns-then-order-top
returns-then-order-top c fields f =
    let a = c.args in
    let last = field_is (a.order + 1) (omega arith) (omega arith) f in
    c.is_value_at-then-order-top.ensures
    ∙ sym (by_value a.top a.order f (omega arith) (is-first (goal.at.returns-then-order-top c).Else-not-is_value_at) ∙ weight_is _ a.order fields (omega (arith, f.long)) ∙ rw (lt-ltb a.order a.top (omega arith), ← last))

pub returns-else-order-top : goal.returns-else-order-top
returns-else-order-top c fields f =
    let a = c.args in
    le-ltb a.order a.top (omega arith)
    ∙ sym (by_value a.top a.order f (omega arith) (is-first (goal.at.returns-else-order-top c).Else-not-is_value_at) ∙ weight_is _ a.order fields (omega (arith, f.long)) ∙ rw (le-ltb a.order a.top (omega arith)))

pub returns-in_default : goal.returns-in_default
returns-in_default c fields f =
    let a = c.args in
    sym (by_value a.top a.order f (omega arith) (is-first (goal.at.returns-in_default c).Else-not-is_value_at) ∙ too_many _ a.order fields (omega (arith, f.long)))
