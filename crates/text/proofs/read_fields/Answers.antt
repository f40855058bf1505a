-- A field more: the list holds its number, and the rest of the text gives the others.
use mathlib.Core.Path.{◌≡◌, refl, sym, ap, ◌∙◌}
use native.Mathlib.Omega.{arith}
use borrow.Author.Rules.{rules}
use lib.ListN.{set}
use mir.Syntax.{w32}
use mir.Val.{to_z, of_z}
use Rattle.text.proofs.Row.{write_start, write_put}
use Rattle.text.proofs.read_fields.Goals as goal

pub loop-at-init : goal.loop-at-init
loop-at-init c = record { written = write_start _ _; ends = refl; few = omega arith; within = omega arith }

pub loop-at-preserved : goal.loop-at-preserved
loop-at-preserved c =
    let i = c.loop-at.invariant in
    let f = c.in_ok-field.ensures in
    let kept : to_z w32 (of_z w32 c.in_ok-field.field.number) ≡ c.in_ok-field.field.number = search rules in
    let p : c.put.new.list ≡ set c.loop-at.list c.loop-at.n c.in_ok-field.field.number = c.put.ensures ∙ ap (set c.loop-at.list c.loop-at.n) kept in
    record {
      written = rw p (write_put (rw f.gives at i.written));
      ends = sym f.ends ∙ i.ends;
      few = omega (arith, f.later);
      within = f.within;
    }
