-- Both numbers fit their places.
use mathlib.Core.Path.{◌≡◌, refl}
use native.Mathlib.Omega.{arith}
use mir.Syntax.{w32}
use mir.Val.{to_z, of_z}
use mir.ValLaws.{to_z_pos}
use Rattle.importing.specs.Import.{with_model}
use borrow.Author.Rules.{rules}
use Rattle.importing.proofs.put_model.Goals as goal

pub returns : goal.returns
unfolding with_model
returns c =
    let p : to_z w32 (of_z w32 c.unwrap_or-unseen.result) ≡ c.unwrap_or-unseen.result = search rules in
    let k = c.number_at in
    let r : to_z w32 (of_z w32 k.result) ≡ k.result = search rules in
    rw (p, c.unwrap_or-unseen.ensures, r, k.ensures, to_z_pos w32 c.args.longer.triples (omega (arith, c.requires.triples_le_grams_most))) refl
