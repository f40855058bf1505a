-- Each head is 0, and behind the heads nothing changed.
use native.Mathlib.Omega.{arith}
use mathlib.Core.Path.{refl}
use lib.ListN.{length-take}
use Rattle.ngrams.specs.Parts.{bucket_count, head_at}
use Rattle.ngrams.proofs.Index.{heads_cleared}
use Rattle.ngrams.proofs.clear.Goals as goal

pub returns : goal.returns
unfolding head_at
returns c =
    let index = c.args.index.now in
    let long = length-take bucket_count index in
    let e = heads_cleared bucket_count index c.fill.new.self (omega (arith, c.fill.ensures.len, long)) (omega arith) (λ k l. c.fill.ensures.clones k 0 (omega (arith, long)) refl) in
    record { none = e.0; kept = e.1 }
