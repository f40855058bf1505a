-- With a beam that drops nothing, the keys of the search are those that an allowed sequence leads to, and there are as many states as such keys.
use Prim.Native.Nat.{◌≤◌}
use mathlib.Core.Path.{◌≡◌, sym, ◌∙◌}
use mathlib.Core.Logic.{◌↔◌}
use mathlib.Core.List.Memᴰ
use mathlib.Core.List.{List, Memᴰ}
use native.Mathlib.Nat.{le_trans, le_of_eq, le_antisymm}
use lib.ListN.{length, length-map}
use Rattle.laws.specs.Lists.{Distinct}
use Rattle.search_theory.specs.Search.{Problem, St, run}
use Rattle.search_theory.specs.Statements.{of, Steady, Ranked, Unpruned, Reachable, keys}
use Rattle.laws.proofs.Lists.{pigeon}
use Rattle.search_theory.proofs.Sound.{sound}
use Rattle.search_theory.proofs.Sets.{distinct}
use Rattle.search_theory.proofs.Optimal.{complete}

module _ (P : Problem) (S : Steady P) (R : Ranked P) (U : Unpruned P) where
  open P use {Key}

  -- the keys of the states are those that an allowed sequence leads to
  pub reached : (k : Key) → Memᴰ k (keys P (run P)) ↔ Reachable P k
  unfolding of
  reached k = (
    λ m. let r = Memᴰ.of_map (λ (s : St P). s.key) (run P) m in let g = sound P r.0 r.1 in (r.0.steps, g.allowed, sym g.key_is ∙ r.2),
    λ r. let c = complete P S R U r.0 r.1 in Memᴰ.cast (sym (c.its_key ∙ r.2)) (Memᴰ.map (λ (s : St P). s.key) c.member),
  )

  length_keys : length (keys P (run P)) ≡ length (run P)
  length_keys = length-map (run P) (λ (s : St P). s.key)

  -- different keys that can be reached: no more than states
  pub counted_some : (ks : List Key) → Distinct ks → ((k : Key) → Memᴰ k ks → Reachable P k) → length ks ≤ length (run P)
  counted_some ks d f = le_trans (pigeon ks (keys P (run P)) d (λ k m. (reached k).1 (f k m))) (le_of_eq length_keys)

  -- all of them: as many
  pub counted : (ks : List Key) → Distinct ks → ((k : Key) → Memᴰ k ks ↔ Reachable P k) → length (run P) ≡ length ks
  counted ks d f =
      le_antisymm
      (le_trans (le_of_eq (sym length_keys)) (pigeon (keys P (run P)) ks (distinct P S) (λ k m. (f k).1 ((reached k).0 m))))
      (counted_some ks d (λ k. (f k).0))
