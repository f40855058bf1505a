-- The bytes make the bucket in their order.
use Rattle.std.proofs.Common.{ℕ, ◌≡◌, ◌*◌, ◌/◌, ◌%◌, ◌∙◌, ap, rules, tests, arith}
use Rattle.std.proofs.lemmas.Iterator.{YieldsList-from_slice}
use Rattle.std.proofs.lemmas.Iterator.Consumers.{fold_from_yields_List}
use Rattle.spelling.specs.Index.{hash_from, bucket_of}
use Rattle.spelling.proofs.Words.{hash_more, hash_all}
use Rattle.spelling.proofs.bucket.Goals as goal

pub returns : goal.returns
unfolding bucket_of
returns c =
    let t = c.args.word.now in
    let e : c.fold-hash.result ≡ hash_from 0 t =
    fold_from_yields_List _ hash_more 0 c.fold-hash.result c.fold-hash.ensures.ran (YieldsList-from_slice t c.iter.ensures.rest) (λ a x b q k. search (rules, tests)) ∙ hash_all 0 t in
    (ap (λ (h : ℕ). h * 2654435769 % 4294967296 / 65536) e, omega arith)
