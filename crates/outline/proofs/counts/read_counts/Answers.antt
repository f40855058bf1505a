-- So many count lines were read (Tally), until a line is none or the highest order is reached.
use Prim.Native.Nat.{ℕ, ◌+◌}
use mathlib.Core.Path.{◌≡◌, sym, subst, ◌∙◌}
use mathlib.Core.List.{[]}
use native.Mathlib.Omega.{arith}
use lib.ListN.{get_or}
use Rattle.outline.specs.Outline.{CountsRead}
use Rattle.outline.proofs.Noted.{none_read, read_fields, fields_read, field_is, field_noted}
use Rattle.outline.proofs.Shapes.{count_line}
use Rattle.outline.proofs.Tally.{tally_none, tally_stop, tally_full, tally_more}
use Rattle.outline.proofs.counts.read_counts.Goals as goal
use Rattle.outline.proofs.counts.read_counts.Goals.{After-field}

pub returns-in_default-clause-counts_read : goal.returns-in_default-clause-counts_read
returns-in_default-clause-counts_read c = tally_none c.loop-n.invariant (none_read c.args.text.now c.loop-n.from c.read_line.new.places c.read_line.result c.in_default.not-Some c.read_line.ensures.line_read)

pub returns-then-not-is_count_line-clause-counts_read : goal.returns-then-not-is_count_line-clause-counts_read
returns-then-not-is_count_line-clause-counts_read c =
    let r = c.in-Some.ensures.line_read in
    tally_stop c.loop-n.invariant r (sym (c.is_count_line.ensures r.fields (read_fields r)) ∙ c.if-not-is_count_line.true)

-- the line that was read is a count line
pub field-requires : goal.field-requires
field-requires c =
    let r = c.in-Some.ensures.line_read in
    let k = count_line (c.loop-n.n + 1) r.fields (sym (c.is_count_line.ensures r.fields (read_fields r)) ∙ c.if-not-is_count_line.false) in
    field_noted 1 (omega arith) (omega (arith, r.long, k.two)) (fields_read r)

-- and this is its second field
field_of : (c : After-field) → c.field.result.now ≡ get_or c.in-Some.ensures.line_read.fields 1 []
field_of c =
    let r = c.in-Some.ensures.line_read in
    let k = count_line (c.loop-n.n + 1) r.fields (sym (c.is_count_line.ensures r.fields (read_fields r)) ∙ c.if-not-is_count_line.false) in
    c.field.ensures ∙ field_is 1 (omega arith) (omega (arith, r.long, k.two)) (read_fields r)

pub loop-n-preserved : goal.loop-n-preserved
loop-n-preserved c =
    let r = c.in-Some.ensures.line_read in
    let l = sym (c.is_count_line.ensures r.fields (read_fields r)) ∙ c.if-not-is_count_line.false in
    tally_more c.loop-n.invariant r (omega arith) l (rw (field_of (goal.at.loop-n-preserved c).After-field) at c.count_in.ensures)

pub returns-clause-counts_read : goal.returns-clause-counts_read
returns-clause-counts_read c =
    let l = c.loop-n in
    let e : l.n ≡ 3 = omega arith in
    subst (λ (n : ℕ). CountsRead c.args.text.now c.args.at l.counts (record { top = n; at = l.from })) e (tally_full l.invariant (omega arith))
