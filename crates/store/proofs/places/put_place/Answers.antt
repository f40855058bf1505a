-- The six writes are two runs, with the link between them; the fields of a state fit their widths, so division finds them again.
use Prim.Native.Nat.{ℕ, ◌+◌, ◌*◌}
use native.Mathlib.Omega.{arith}
use mathlib.Core.Path.{ap, ◌∙◌}
use lib.IntN.{pos}
use mir.Syntax.{w64}
use Rattle.laws.proofs.Integers.{back_pos}
use Rattle.store.proofs.Writes.{Sized, put_all, put_spare}
use borrow.Author.Rules.{rules}
use Rattle.store.proofs.places.put_place.Goals as goal

pub returns-clause-spare : goal.returns-clause-spare
returns-clause-spare c = let x = c.args.x in
    let y = c.requires.storable in
    let z : Sized x.state = record { word1_fits = search rules; word2_fits = search rules; covered_fits = search rules; r_fits = search rules } in
    put_spare c.args.store.now c.args.k c.requires.k_in_bounds _ _ _ _ _ _

pub returns-clause-put : goal.returns-clause-put
returns-clause-put c = let x = c.args.x in
    let y = c.requires.storable in
    let z : Sized x.state = record { word1_fits = search rules; word2_fits = search rules; covered_fits = search rules; r_fits = search rules } in
    put_all c.args.store.now c.args.k c.requires.k_in_bounds _ _ _ _ _ _ x z y
    (back_pos w64 _ _ (c.int.ensures ∙ ap pos c.words_of.ensures.0) (omega (arith, z.word1_fits, z.word2_fits)))
    (back_pos w64 _ _ c.int-2.ensures (omega (arith, z.covered_fits)))
    (back_pos w64 _ _ (c.int-3.ensures ∙ ap (λ (m : ℕ). pos (m * 64 + x.size)) c.from.ensures) (omega (arith, z.r_fits, y.size_fits)))
    (search rules)
    (back_pos w64 _ _ c.int-4.ensures y.parent_fits)
    (back_pos w64 _ _ c.int-5.ensures y.step_fits)
