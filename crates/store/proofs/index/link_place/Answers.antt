-- The link of the place is the bucket's old head, and the head is the place.
use native.Mathlib.Omega.{arith}
use lib.IntN.{pos}
use lib.ListN.{get_or}
use mir.Syntax.{w64}
use Rattle.laws.proofs.Integers.{back, back_pos}
use Rattle.store.proofs.Writes.{relinked}
use borrow.Author.Rules.{rules}
use Rattle.store.proofs.index.link_place.Goals as goal

pub returns : goal.returns
returns c = relinked c.args.store.now c.args.k c.args.h _ _ c.requires.0 c.requires.1
    (back w64 (get_or c.args.store.now c.args.h (pos 0)) (search rules)) (back_pos w64 _ _ c.int.ensures (omega arith))
