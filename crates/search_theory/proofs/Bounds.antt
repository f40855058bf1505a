-- A state has no more steps than its size, and its score is bounded by the steps' gains: what code needs to know that numbers fit.
use Prim.Native.Nat.{ℕ, ◌+◌, ◌*◌, ◌≤◌}
use mathlib.Core.Path.{◌≡◌, sym, ap, subst}
use mathlib.Core.Bool.{true}
use mathlib.Core.List.{List, [], ◌∷◌, Memᴰ}
use native.Mathlib.Nat.{le_refl, mul-le-mul}
use native.Mathlib.Omega.{arith}
use lib.ListN.{length}
use Rattle.laws.specs.Integers.{Within}
use Rattle.laws.proofs.Bounds.{within_mono}
use Rattle.laws.proofs.Linear.{sum}
use Rattle.search_theory.specs.Search.{Problem, St, first, extend}
use Rattle.search_theory.specs.Statements.{after, total, Allowed, Legal, Steady}
use Rattle.search_theory.proofs.Sound.{legal_first, legal_extend}
use Rattle.search_theory.proofs.Sets.{longer}

module _ (P : Problem) where
  open P use {Step, start, options, may, next, gain, size}

  -- no more steps than the size
  pub steps_few : Steady P → (s : St P) → Legal P s → length s.steps ≤ size s.key
  unfolding first
  steps_few S s g =
      let k : length s.steps + size start ≤ size (after P start s.steps) = longer P S s.steps (first P) (legal_first P) g.allowed in
      let e : size s.key ≡ size (after P start s.steps) = ap size g.key_is in
      omega arith

  module _ (B : ℕ) (each : (q : St P) → Legal P q → (p : Step) → Memᴰ p options → may q.key p ≡ true → Within B (gain q.key p)) where
    total_within : (ys : List Step) (u : St P) → Legal P u → Allowed P u.key ys → Within (length ys * B) (total P u.key ys)
    unfolding total extend
    total_within [] u g a = omega arith
    total_within (p ∷ ys) u g a =
        omega (arith, each u g p a.0 a.1, total_within ys (extend P u p) (legal_extend P u g p a.0 a.1) a.2, sum (gain u.key p) (total P (next u.key p) ys))

    -- where each gain is within B, a score is within as many times B as there are steps
    pub score_within : (s : St P) → Legal P s → Within (length s.steps * B) s.score
    unfolding first
    score_within s g = subst (Within (length s.steps * B)) (sym g.score_is) (total_within s.steps (first P) (legal_first P) g.allowed)

    -- so within the size times B
    pub score_small : Steady P → (s : St P) → Legal P s → (m : ℕ) → size s.key ≤ m → Within (m * B) s.score
    score_small S s g m h = within_mono (mul-le-mul (let k = steps_few S s g in omega arith) (le_refl B)) (score_within s g)
