-- The place is written, and then linked in front of its state's bucket: nothing but that bucket's chain changes.
use mathlib.Core.Path.{◌≡◌, ◌∙◌, ap, subst}
use Prim.Native.Nat.{ℕ, ◌/◌}
use lib.ListN.{length}
use Rattle.store.specs.Store.{bucket_of, Relinked}
use Rattle.store.proofs.Indexing.{indexed_append}
use Rattle.store.proofs.index.append_place.Goals as goal

pub returns-clause-indexed_2 : goal.returns-clause-indexed_2
returns-clause-indexed_2 c = let u = c.put_place in
    let h = c.bucket-h in
    let e : h.result ≡ bucket_of (length c.args.store.now / 8) c.args.x.state = h.ensures.0 ∙ ap (λ (n : ℕ). bucket_of (n / 8) c.args.x.state) u.ensures.put.long in
    let r = indexed_append c.args.store.now u.new.store c.link_place.new.store c.args.count c.args.x c.requires.indexed c.requires.count_in_bounds.0 u.ensures.put u.ensures.spare
    (subst (λ (z : ℕ). Relinked u.new.store c.link_place.new.store c.args.count z) e c.link_place.ensures) in
    r.0
