-- The answer fits the output, and its words stand at the beginning of the word list.
use Prim.Native.Nat.{◌≤◌}
use native.Mathlib.Omega.{arith}
use lib.ListN.{length}
use Rattle.rendering.specs.Parts.{printed_done}
use Rattle.rendering.proofs.Short.{done_short}
use Rattle.rendering.proofs.put_done.Goals as goal

pub put_answer-requires-clause-words_in_bounds : goal.put_answer-requires-clause-words_in_bounds
put_answer-requires-clause-words_in_bounds c =
    let a = c.args in
    let short : length (printed_done a.answer a.numbers.now a.words.now) ≤ 4_096 =
    done_short a.answer a.numbers.now a.words.now c.requires.fits (λ i. omega (arith, c.type_inv.numbers i)) (λ i. omega (arith, c.type_inv.words i)) in
    omega arith
