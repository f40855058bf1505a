-- The four numbers read stand in the list as they are, and the counts fit a place of it.
use mathlib.Core.Path.{◌≡◌, ◌∙◌}
use native.Mathlib.Omega.{arith}
use lib.IntN.{pos}
use lib.ListN.{get_or}
use mir.Syntax.{w32}
use mir.Val.{to_z, of_z}
use mir.ValLaws.{to_z_pos}
use Rattle.reading.proofs.Reading.{b_put}
use borrow.Author.Rules.{rules}
use Rattle.reading.proofs.put_counts.Goals as goal

pub returns : goal.returns
returns c =
    let a = c.args in
    let l = a.book.now in
    let read2 : to_z w32 (of_z w32 (get_or l 2 (pos 0))) ≡ get_or l 2 (pos 0) = search rules in
    let read3 : to_z w32 (of_z w32 (get_or l 3 (pos 0))) ≡ get_or l 3 (pos 0) = search rules in
    let read4 : to_z w32 (of_z w32 (get_or l 4 (pos 0))) ≡ get_or l 4 (pos 0) = search rules in
    let read5 : to_z w32 (of_z w32 (get_or l 5 (pos 0))) ≡ get_or l 5 (pos 0) = search rules in
    let counts = c.requires.phrases_le_grams_most in
    let p = to_z_pos w32 a.phrases (omega (arith, counts)) in
    let t = to_z_pos w32 a.triples (omega (arith, counts)) in
    c.put_front.ensures ∙ rw (read2, read3, read4, read5, p, t) (b_put l a.phrases a.triples c.requires.in_bounds)
