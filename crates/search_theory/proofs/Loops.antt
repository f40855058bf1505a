-- The loops are the search: a level is one sweep over its list, and the answer is picked in one pass over the last list.
-- And what each `add` of a loop keeps, the loop keeps.
use Prim.Native.Nat.{ℕ, suc}
use mathlib.Core.Path.{◌≡◌, refl, sym, ◌∙◌, ap, subst}
use mathlib.Core.Bool.{Bool, true, cond}
use mathlib.Core.List.{List, [], ◌∷◌, ◌++◌, map, Memᴰ}
use mathlib.Core.Option.{Option, none}
use borrow.Author.Tests.{eqb-true}
use lib.Dec.{eqb}
use lib.IntN.{ℤ}
use Rattle.laws.specs.Lists.{keep, concat}
use Rattle.laws.proofs.Tests.{if_ind, bool_ind}
use Rattle.search_theory.specs.Search.{Hypothesis, Problem, wins, highest, St, extend, add, add_all, set_of, beam, extensions, level, upto, run, closed, best}
use Rattle.search_theory.specs.Loops.{grow, visit, sweep, closing, pick}

module _ (P : Problem) where
  open P use {Step, options, may, size, in_beam}

  add_append : (xs ys l : List (St P)) → add_all P (xs ++ ys) l ≡ add_all P ys (add_all P xs l)
  unfolding add_all
  add_append [] ys l = refl
  add_append (x ∷ xs) ys l = add_append xs ys (add P x l)

  grow_is : (q : St P) (ps : List Step) (l : List (St P)) → add_all P (map (extend P q) (keep (may q.key) ps)) l ≡ grow P q ps l
  unfolding add_all grow
  grow_is q [] l = refl
  grow_is q (p ∷ ps) l =
      bool_ind (may q.key p) (λ c. add_all P (map (extend P q) (cond c (p ∷ keep (may q.key) ps) (keep (may q.key) ps))) l ≡ grow P q ps (cond c (add P (extend P q p) l) l))
      (λ _. grow_is q ps (add P (extend P q p) l)) (λ _. grow_is q ps l)

  -- what is added for a list of states
  Added : List (St P) → List (St P) → List (St P)
  Added qs l = add_all P (concat (map (extensions P) qs)) l

  sweep_is : (i : ℕ) (set qs l : List (St P)) → Added (keep (in_beam set) (keep (λ s. eqb (size s.key) i) qs)) l ≡ sweep P i set qs l
  unfolding Added sweep visit add_all extensions
  sweep_is i set [] l = refl
  sweep_is i set (q ∷ qs) l =
      let rest : List (St P) = keep (λ (s : St P). eqb (size s.key) i) qs in
      bool_ind (eqb (size q.key) i)
      (λ c. Added (keep (in_beam set) (cond c (q ∷ rest) rest)) l ≡ sweep P i set qs (cond c (cond (in_beam set q) (grow P q options l) l) l))
      (λ _. bool_ind (in_beam set q) (λ c. Added (cond c (q ∷ keep (in_beam set) rest) (keep (in_beam set) rest)) l ≡ sweep P i set qs (cond c (grow P q options l) l))
      (λ _. add_append (extensions P q) (concat (map (extensions P) (keep (in_beam set) rest))) l ∙ ap (Added (keep (in_beam set) rest)) (grow_is q options l) ∙ sweep_is i set qs (grow P q options l))
      (λ _. sweep_is i set qs l))
      (λ _. sweep_is i set qs l)

  -- a level is one sweep over the list as the level begins
  pub level_sweep : (i : ℕ) (l : List (St P)) → level P i l ≡ sweep P i (set_of P i l) l l
  unfolding level beam set_of Added
  level_sweep i l = sweep_is i (set_of P i l) l l

  -- so a sweep over the list of level i makes the next
  pub upto_sweep : (i : ℕ) → sweep P i (set_of P i (upto P i)) (upto P i) (upto P i) ≡ upto P (suc i)
  unfolding upto
  upto_sweep i = sym (level_sweep i (upto P i))

  -- ---- what each `add` keeps is kept by the states that a state is extended to, by a sweep, and by a level
  pub grow_ind : (Inv : List (St P) → Type 0) (q : St P) (ps : List Step)
      → ((p : Step) → Memᴰ p ps → may q.key p ≡ true → (l : List (St P)) → Inv l → Inv (add P (extend P q p) l))
      → (l : List (St P)) → Inv l → Inv (grow P q ps l)
  unfolding grow
  grow_ind Inv q [] st l h = h
  grow_ind Inv q (p ∷ ps) st l h =
      grow_ind Inv q ps (λ p' m. st p' (Memᴰ.tail m)) _ (if_ind (may q.key p) Inv (λ e. st p (Memᴰ.head refl) e l h) (λ e. h))

  -- by a sweep
  pub sweep_ind : (Inv : List (St P) → Type 0) (i : ℕ) (set qs : List (St P))
      → ((q : St P) → Memᴰ q qs → size q.key ≡ i → (p : Step) → Memᴰ p options → may q.key p ≡ true → (l : List (St P)) → Inv l → Inv (add P (extend P q p) l))
      → (l : List (St P)) → Inv l → Inv (sweep P i set qs l)
  unfolding sweep visit
  sweep_ind Inv i set [] st l h = h
  sweep_ind Inv i set (q ∷ qs) st l h =
      sweep_ind Inv i set qs (λ q' m. st q' (Memᴰ.tail m)) _
      (if_ind (eqb (size q.key) i) Inv
      (λ e. if_ind (in_beam set q) Inv (λ _. grow_ind Inv q options (st q (Memᴰ.head refl) (eqb-true _ _ e)) l h) (λ _. h))
      (λ _. h))

  -- by a level
  pub level_ind : (Inv : List (St P) → Type 0) (i : ℕ) (l : List (St P))
      → ((q : St P) → Memᴰ q l → size q.key ≡ i → (p : Step) → Memᴰ p options → may q.key p ≡ true → (l' : List (St P)) → Inv l' → Inv (add P (extend P q p) l'))
      → Inv l → Inv (level P i l)
  level_ind Inv i l st h = subst Inv (sym (level_sweep i l)) (sweep_ind Inv i (set_of P i l) l st l h)

-- ---- the answer
module _ {Key Step : Type 0} (size : Key → ℕ) (n : ℕ) (close : Key → ℤ) (better : Hypothesis Key Step → Hypothesis Key Step → Bool) where
  -- one pass with a test of the set is the best of the set, closed
  pub pick_is : (b : Option (Hypothesis Key Step)) (l : List (Hypothesis Key Step))
      → pick size n close better b l ≡ highest better b (map (closing close) (keep (λ s. eqb (size s.key) n) l))
  unfolding pick highest
  pick_is b [] = refl
  pick_is b (s ∷ l) =
      let rest : List (Hypothesis Key Step) = keep (λ (s : Hypothesis Key Step). eqb (size s.key) n) l in
      bool_ind (eqb (size s.key) n)
      (λ c. pick size n close better (cond c (wins better b (closing close s)) b) l ≡ highest better b (map (closing close) (cond c (s ∷ rest) rest)))
      (λ _. pick_is (wins better b (closing close s)) l) (λ _. pick_is b l)

-- so the answer is picked in one pass over the last list
pub best_pick : (P : Problem) → best P ≡ pick P.size P.n P.close P.better none (run P)
unfolding best set_of closed
best_pick P = sym (pick_is P.size P.n P.close P.better none (run P))
