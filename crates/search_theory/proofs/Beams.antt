-- Two searches that differ in the beam alone, where neither beam drops a state, are the same.
use Prim.Native.Nat.{ℕ, zero, suc, ◌≤◌}
use mathlib.Core.Path.{◌≡◌, refl, sym, ◌∙◌, ap}
use mathlib.Core.Bool.{Bool, cond}
use mathlib.Core.List.{List, [], ◌∷◌, map}
use mathlib.Core.Option.{none}
use native.Mathlib.Nat.{le_refl}
use native.Mathlib.Omega.{arith}
use Rattle.laws.specs.Lists.{concat}
use Rattle.search_theory.specs.Search.{Problem, highest, St, first, extend, add, add_all, set_of, beam, extensions, level, upto, run, closed, best}
use Rattle.search_theory.specs.Statements.{Unpruned, with_beam}
use Rattle.laws.proofs.Lists.{keep_all, mem_all}

module _ (P : Problem) (b : List (St P) → St P → Bool) where
  open P use {same, n, better}

  abbrev P' : Problem
  P' = with_beam P b

  -- Add does not look at the beam
  add_same : (s : St P) (l : List (St P)) → add P' s l ≡ add P s l
  unfolding add
  add_same s [] = refl
  add_same s (t ∷ l) = ap (λ (r : List (St P)). cond (same t.key s.key) (cond (better s t) s t ∷ l) (t ∷ r)) (add_same s l)

  all_same : (ss l : List (St P)) → add_all P' ss l ≡ add_all P ss l
  unfolding add_all
  all_same [] l = refl
  all_same (s ∷ ss) l = ap (add_all P' ss) (add_same s l) ∙ all_same ss (add P s l)

  module _ (U : Unpruned P) (U' : Unpruned P') where
    upto_same : (i : ℕ) → i ≤ n → upto P' i ≡ upto P i
    unfolding upto first level beam extensions extend set_of Unpruned
    upto_same zero h = refl
    upto_same (suc i) h =
        let e : upto P' i ≡ upto P i = upto_same i (omega arith) in
        ap (λ (qs : List (St P)). add_all P' (concat (map (extensions P) qs)) (upto P' i)) (keep_all (b (set_of P i (upto P' i))) (set_of P i (upto P' i)) (mem_all _ _ (U' i h)))
        ∙ ap (λ (l : List (St P)). add_all P' (concat (map (extensions P) (set_of P i l))) l) e
        ∙ all_same (concat (map (extensions P) (set_of P i (upto P i)))) (upto P i)
        ∙ ap (λ (qs : List (St P)). add_all P (concat (map (extensions P) qs)) (upto P i)) (sym (keep_all (P.in_beam (set_of P i (upto P i))) (set_of P i (upto P i)) (mem_all _ _ (U i h))))

    -- the states are the same
    pub same_run : run P ≡ run P'
    unfolding run
    same_run = sym (upto_same n (le_refl n))

    -- the answer is the same
    pub same_best : best P ≡ best P'
    unfolding best closed set_of
    same_best = ap (λ (l : List (St P)). highest better none (map (closed P) (set_of P n l))) same_run
