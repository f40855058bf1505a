-- The lines before `at` are good and noted, and with those that are left they are all lines (Walk); each line takes some bytes, so the text comes to its end. A line that the row has no place for is not whole.
use mathlib.Core.Path.{◌≡◌, refl, sym, ap, ◌∙◌}
use mathlib.Core.Bool.{true}
use native.Mathlib.Omega.{arith}
use lib.ListN.{take}
use Rattle.std.proofs.lemmas.Grind.{common_steps}
use Rattle.laws.proofs.Tests.{clash}
use Rattle.meaning.specs.Book.{in_text, is_whole}
use Rattle.fields.proofs.Form.{no_book}
use Rattle.meaning.proofs.Filled.{filled_take}
use Rattle.meaning.proofs.Sizes.{too_long}
use Rattle.reading.proofs.Walk.{numbers_at, row_later, walk_start, walk_next, walk_bad, walk_broken, walk_end}
use Rattle.reading.proofs.survey_text.Goals as goal
use Rattle.reading.proofs.survey_text.Goals.{Else-n-gt-LINE_MOST, Else-not-is_whole}

-- what the row holds of the line's numbers
row_is : (c : Else-n-gt-LINE_MOST) → take c.in_ok-line.line.count c.read_row.new.row ≡ numbers_at c.args.text.now c.loop-at.at
row_is c =
    let f = c.in_ok-line.ensures.read in
    ap (take c.in_ok-line.line.count) f.holds
    ∙ filled_take (numbers_at c.args.text.now c.loop-at.at) c.loop-at.row c.in_ok-line.line.count f.counted (omega (arith, c.if-n-gt-LINE_MOST.false, c.loop-at.invariant.places))

-- the line is whole, and noted
whole : (c : Else-not-is_whole) → take c.in_ok-line.line.count c.read_row.new.row ≡ numbers_at c.args.text.now c.loop-at.at → is_whole in_text (numbers_at c.args.text.now c.loop-at.at) ≡ true
whole c r = sym (ap (is_whole in_text) r) ∙ sym (c.is_whole.ensures in_text refl) ∙ c.if-not-is_whole.false

pub returns-then-is_empty : goal.returns-then-is_empty
returns-then-is_empty c = λ t. clash t (sym (no_book c.args.text.now (grind (arith, common_steps))))

pub loop-at-init : goal.loop-at-init
loop-at-init c = rw (c.fresh-survey.ensures, c.requires) (walk_start c.args.text.now c.args.index.now _ refl)

pub returns-in_err-line : goal.returns-in_err-line
returns-in_err-line c = rw c.from_residual.ensures (walk_bad c.loop-at.invariant c.in_err-line.ensures.read)

pub returns-then-n-gt-LINE_MOST : goal.returns-then-n-gt-LINE_MOST
returns-then-n-gt-LINE_MOST c =
    let f = c.in_ok-line.ensures.read in
    walk_broken c.loop-at.invariant c.loop-at-test.true _ f (too_long in_text (numbers_at c.args.text.now c.loop-at.at) (omega (arith, f.counted, c.if-n-gt-LINE_MOST.true)))

pub returns-then-not-is_whole : goal.returns-then-not-is_whole
returns-then-not-is_whole c =
    walk_broken c.loop-at.invariant c.loop-at-test.true _ c.in_ok-line.ensures.read
    (sym (ap (is_whole in_text) (row_is (goal.at.returns-then-not-is_whole c).Else-n-gt-LINE_MOST)) ∙ sym (c.is_whole.ensures in_text refl) ∙ c.if-not-is_whole.true)

pub loop-at-smaller : goal.loop-at-smaller
loop-at-smaller c =
    let f = c.in_ok-line.ensures.read in
    omega (arith, row_later f (whole (goal.at.loop-at-smaller c).Else-not-is_whole (row_is (goal.at.loop-at-smaller c).Else-n-gt-LINE_MOST)), f.within, c.loop-at-test.true)

pub loop-at-preserved : goal.loop-at-preserved
loop-at-preserved c =
    let said = c.note_line-survey.ensures in
    let r = row_is (goal.at.loop-at-preserved c).Else-n-gt-LINE_MOST in
    rw (said.value, said.tally_after, said.index_after, r)
    (walk_next c.loop-at.invariant c.loop-at-test.true _ c.in_ok-line.ensures.read (whole (goal.at.loop-at-preserved c).Else-not-is_whole r) c.in_ok-line.ensures.row_len_unchanged)

pub returns : goal.returns
returns c = walk_end c.loop-at.invariant c.loop-at-test.false (grind (arith, common_steps))
