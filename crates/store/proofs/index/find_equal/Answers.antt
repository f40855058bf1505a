-- The chain of x's bucket meets every state that lies in it, the latest first, and an equal state lies in it; each link goes to an earlier place, so the walk ends.
use mathlib.Core.Path.{sym, ap, ◌∙◌}
use Prim.Native.Nat.{ℕ}
use native.Mathlib.Omega.{arith}
use Rattle.store.specs.Store.{place_at, link_at, is_same}
use Rattle.store.proofs.Indexing.{way_starts, way_goes, way_less, way_ends}
use Rattle.store.proofs.index.find_equal.Goals as goal

pub loop-k-init : goal.loop-k-init
loop-k-init c = way_starts _ _ _ c.requires _ _ c.bucket.ensures.0 c.bucket.ensures.1 c.head_at-at.ensures

pub loop-k-smaller : goal.loop-k-smaller
loop-k-smaller c =
    let s = c.in-Some.ensures in
    way_less _ _ c.args.x c.requires _ _ c.loop-k.invariant s.0 (c.link_at-at.ensures ∙ ap (link_at c.args.store.now) s.1)

pub loop-k-preserved : goal.loop-k-preserved
loop-k-preserved c =
    let s = c.in-Some.ensures in
    way_goes _ _ c.args.x c.requires _ _ c.loop-k.invariant s.0
    (ap (λ (k : ℕ). is_same (place_at c.args.store.now k).state c.args.x) (sym s.1) ∙ sym c.is_same_at.ensures ∙ c.if-is_same_at.false) (c.link_at-at.ensures ∙ ap (link_at c.args.store.now) s.1)

pub returns : goal.returns
returns c = way_ends _ _ c.args.x c.requires _ c.loop-k.invariant (omega (arith, c.in_default.ensures))
