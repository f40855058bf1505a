-- The line has to be that of an n-gram; if it lists `<unk>` alone, none before it may.
use Prim.Native.Nat.{ℕ}
use mathlib.Core.Path.{◌≡◌, refl, sym, ◌∙◌}
use mathlib.Core.Bool.{true}
use mathlib.Core.List.{List}
use native.Mathlib.Omega.{arith}
use lib.ListN.{length}
use Rattle.arpa.specs.File.{is_gram_line}
use Rattle.tokens.specs.Fields.{FieldsAt}
use Rattle.arpa.proofs.Ngrams.{gram_long}
use Rattle.outline.proofs.Steps.{no_gram, gram_passed, gram_twice}
use Rattle.outline.proofs.sections.pass_gram.Goals as goal
use Rattle.outline.proofs.sections.pass_gram.Goals.{Else-not-is_gram_line}

-- the line is that of an n-gram
is_gram_lem : (c : Else-not-is_gram_line) (counts : List ℕ) (fields : List (List ℕ)) → c.args.top ≡ length counts
    → FieldsAt c.args.text.now c.args.places.now c.args.count fields → true ≡ is_gram_line (length counts) c.args.cursor.order fields
is_gram_lem c counts fields e f = rw e at (sym (c.if-not-is_gram_line.false) ∙ c.is_gram_line.ensures fields f)

pub returns-then-not-is_gram_line : goal.returns-then-not-is_gram_line
returns-then-not-is_gram_line c counts fields lines e p f = no_gram p fields lines c.requires.le_left.0 (rw e at (sym (c.if-not-is_gram_line.true) ∙ c.is_gram_line.ensures fields f))

pub is_unknown-requires-clause-order_bound : goal.is_unknown-requires-clause-order_bound
is_unknown-requires-clause-order_bound c = let r = c.requires.fields_read in
    let long = gram_long c.args.top c.args.cursor.order r.fields (sym (c.is_gram_line.ensures r.fields r.at) ∙ c.if-not-is_gram_line.false) in
    omega (arith, r.at.long)

pub returns-then-not-is_unknown : goal.returns-then-not-is_unknown
returns-then-not-is_unknown c counts fields lines e p f =
    let u = sym (c.is_unknown.ensures fields f) ∙ c.if-not-is_unknown.true in
    gram_passed p fields lines c.requires.le_left.0 (is_gram_lem (goal.at.returns-then-not-is_unknown c).Else-not-is_gram_line counts fields e f) (rw u (omega arith))

pub returns-then-cursor : goal.returns-then-cursor
returns-then-cursor c counts fields lines e p f =
    let u = sym (c.if-not-is_unknown.false) ∙ c.is_unknown.ensures fields f in
    gram_twice p fields lines c.requires.le_left.0 (is_gram_lem (goal.at.returns-then-cursor c).Else-not-is_gram_line counts fields e f) u c.if-cursor.true

pub returns : goal.returns
returns c counts fields lines e p f =
    let u = sym (c.if-not-is_unknown.false) ∙ c.is_unknown.ensures fields f in
    gram_passed p fields lines c.requires.le_left.0 (is_gram_lem (goal.at.returns c).Else-not-is_gram_line counts fields e f) (rw (sym u, c.if-cursor.false) refl)
