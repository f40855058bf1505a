-- Each field is read off its number, as `place_at` says it.
use mathlib.Core.Path.{◌∙◌, ap}
use Prim.Native.Nat.{ℕ, ◌+◌, ◌/◌, ◌%◌}
use lib.IntN.{pos}
use lib.ListN.{get_or}
use mir.Syntax.{w64}
use Rattle.laws.proofs.Integers.{back}
use Rattle.laws.specs.Integers.{nat_of}
use Rattle.store.specs.Store.{place_from, place_at}
use Rattle.store.proofs.Writes.{first_number}
use borrow.Author.Rules.{rules}
use Rattle.store.proofs.places.place_at.Goals as goal

pub returns : goal.returns
unfolding place_at
returns c =
    let o = place_from c.args.store.now c.args.k in
    let words = c.nat_at-words.ensures ∙ ap (λ (p : ℕ). nat_of (get_or c.args.store.now p (pos 0))) (first_number o) in
    let e = back w64 (get_or c.args.store.now (o + 4) (pos 0)) (search rules) in
    λ i. record {
      state =
          record {
            word1 = words i / 65536 % 65536;
            word2 = words i % 65536;
            covered = c.nat_at-covered.ensures i % 4294967296;
            r = c.nat_at-rest.ensures i / 64 % 65536;
            score = e i;
          };
      size = c.nat_at-rest.ensures i % 64;
      parent = c.nat_at-parent.ensures i;
      step = c.nat_at-step.ensures i;
    }
