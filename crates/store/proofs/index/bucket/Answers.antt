-- The sum is cut to its part of 2 ^ 32 twice, which is the same as once; and a part of 2 ^ 32 of the slots is below them.
use Prim.Native.Nat.{ℕ, ◌+◌, ◌*◌, ◌/◌, ◌%◌, ◌<◌}
use native.Mathlib.Omega.{arith}
use mathlib.Core.Path.{◌≡◌, sym, subst}
use Rattle.store.specs.Store.{bucket_of}
use Rattle.store.proofs.Indexing.{bucket_lt}
use Rattle.store.proofs.index.bucket.Goals as goal

cut_once : (a b c : ℕ) → ((a + b) % 4294967296 + c) % 4294967296 ≡ (a + b + c) % 4294967296
cut_once a b c = omega arith

pub returns : goal.returns
unfolding bucket_of
returns c =
    let e : ((c.words_of-words.result * 2654435769 % 4294967296 + c.args.x.covered * 2246822519 % 4294967296) % 4294967296 + c.from.result * 3266489917 % 4294967296) % 4294967296 * c.min.result / 4294967296 ≡ bucket_of c.args.slots c.args.x =
    rw (cut_once, c.words_of-words.ensures.0, c.from.ensures, c.min.ensures) in
    (e, subst (λ (k : ℕ). k < c.args.slots) (sym e) (bucket_lt c.args.slots c.args.x c.requires))
