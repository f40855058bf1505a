-- Lengths, for any beam and with no law: no step of the search makes the list shorter, so no list on the way is longer than the last.
use Prim.Native.Nat.{ℕ, suc, ◌<◌, ◌≤◌}
use mathlib.Core.Path.{◌≡◌, sym, subst}
use mathlib.Core.List.{List}
use native.Mathlib.Nat.{le_refl, le_trans}
use lib.ListN.{length}
use Rattle.laws.proofs.Tests.{climb}
use Rattle.search_theory.specs.Search.{Problem, St, set_of, upto, run}
use Rattle.search_theory.specs.Loops.{grow, sweep}
use Rattle.search_theory.proofs.Add.{add_longer}
use Rattle.search_theory.proofs.Loops.{grow_ind, sweep_ind, level_ind}

module _ (P : Problem) where
  open P use {Step, n}

  -- nor do the extensions of a state
  pub grow_longer : (q : St P) (ps : List Step) (l : List (St P)) → length l ≤ length (grow P q ps l)
  grow_longer q ps l = grow_ind P (λ r. length l ≤ length r) q ps (λ p _ _ r h. le_trans h (add_longer P _ r)) l (le_refl _)

  -- nor does a sweep
  pub sweep_longer : (i : ℕ) (set qs l : List (St P)) → length l ≤ length (sweep P i set qs l)
  sweep_longer i set qs l = sweep_ind P (λ r. length l ≤ length r) i set qs (λ q _ _ p _ _ r h. le_trans h (add_longer P _ r)) l (le_refl _)

  -- nor do the levels
  pub upto_longer : (i j : ℕ) → i ≤ j → length (upto P i) ≤ length (upto P j)
  unfolding upto
  upto_longer i =
      climb (λ j. length (upto P i) ≤ length (upto P j)) (le_refl _)
      (λ j _ h. level_ind P (λ r. length (upto P i) ≤ length r) j (upto P j) (λ q _ _ p _ _ r h. le_trans h (add_longer P _ r)) h)

  -- a list from which the rest of level i makes the next one is no longer than the last
  pub no_longer : (i : ℕ) → i < n → (qs : List (St P)) (q : St P) (ps : List Step) (l : List (St P))
      → sweep P i (set_of P i (upto P i)) qs (grow P q ps l) ≡ upto P (suc i) → length l ≤ length (run P)
  unfolding run
  no_longer i h qs q ps l e =
      le_trans (grow_longer q ps l) (le_trans (sweep_longer i (set_of P i (upto P i)) qs (grow P q ps l))
      (subst (λ (r : List (St P)). length r ≤ length (upto P n)) (sym e) (upto_longer (suc i) n h)))
