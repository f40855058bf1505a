-- Soundness, for any beam and with no law: each state of the search is that of an allowed sequence, and the answer is one of the last set, closed.
use Prim.Native.Nat.{ℕ, zero, suc}
use mathlib.Core.Path.{◌≡◌, refl, sym, ◌∙◌, ap, subst}
use mathlib.Core.Bool.{true}
use mathlib.Core.Logic.{◌↔◌, ⊎_elim}
use mathlib.Core.List.Memᴰ
use mathlib.Core.List.{List, [], ◌∷◌, ◌++◌, map, Memᴰ}
use mathlib.Core.Option.{none, some}
use native.Mathlib.Omega.{arith}
use borrow.Author.Tests.{eqb-true, eq-eqb}
use lib.Dec.{eqb}
use lib.IntN.{◌+ℤ◌, +ℤ_idl, +ℤ_idr, +ℤ_assoc}
use Rattle.search_theory.specs.Search.{Problem, St, first, extend, set_of, upto, run, closed, best}
use Rattle.search_theory.specs.Statements.{after, total, Allowed, of, Legal}
use Rattle.laws.proofs.Lists.{mem_keep, keep_mem}
use Rattle.search_theory.proofs.Highest.{highest_mem, highest_none}
use Rattle.search_theory.proofs.Add.{mem_add}
use Rattle.search_theory.proofs.Loops.{level_ind}

module _ (P : Problem) where
  open P use {Key, Step, start, options, may, next, gain, size, n, better}

  -- ---- one sequence after another
  pub after_append : (k : Key) (xs ys : List Step) → after P k (xs ++ ys) ≡ after P (after P k xs) ys
  unfolding after
  after_append k [] ys = refl
  after_append k (x ∷ xs) ys = after_append (next k x) xs ys

  -- the gains add up
  pub total_append : (k : Key) (xs ys : List Step) → total P k (xs ++ ys) ≡ total P k xs +ℤ total P (after P k xs) ys
  unfolding after total
  total_append k [] ys = sym (+ℤ_idl _)
  total_append k (x ∷ xs) ys = ap (λ z. gain k x +ℤ z) (total_append (next k x) xs ys) ∙ sym (+ℤ_assoc (gain k x) (total P (next k x) xs) (total P (after P (next k x) xs) ys))

  -- what is allowed may go on with what is allowed from there
  pub allowed_append : (k : Key) (xs ys : List Step) → Allowed P k xs → Allowed P (after P k xs) ys → Allowed P k (xs ++ ys)
  unfolding after
  allowed_append k [] ys a b = b
  allowed_append k (x ∷ xs) ys a b = (a.0, a.1, allowed_append (next k x) xs ys a.2 b)

  -- and the rest of what is allowed is
  pub allowed_rest : (k : Key) (xs ys : List Step) → Allowed P k (xs ++ ys) → Allowed P (after P k xs) ys
  unfolding after
  allowed_rest k [] ys a = a
  allowed_rest k (x ∷ xs) ys a = allowed_rest (next k x) xs ys a.2

  -- ---- legal states
  pub legal_first : Legal P (first P)
  unfolding first after total
  legal_first = record { allowed = tt; key_is = refl; score_is = refl }

  -- a step that may keeps a state legal
  pub legal_extend : (q : St P) → Legal P q → (p : Step) → Memᴰ p options → may q.key p ≡ true → Legal P (extend P q p)
  unfolding extend after total
  legal_extend q g p m y =
      record {
        allowed = allowed_append start q.steps (p ∷ []) g.allowed (m, ap (λ k. may k p) (sym g.key_is) ∙ y, tt);
        key_is = ap (λ k. next k p) g.key_is ∙ sym (after_append start q.steps (p ∷ []));
        score_is = cc (total_append start q.steps (p ∷ []), +ℤ_idr (gain (after P start q.steps) p));
      }

  -- a legal state is that of its steps, and that of an allowed sequence is legal
  pub legal_of : (s : St P) → Legal P s → s ≡ of P s.steps
  unfolding of
  legal_of s g = λ i. record { key = g.key_is i; score = g.score_is i; steps = s.steps }

  -- the state of an allowed sequence is legal
  pub of_legal : (ys : List Step) → Allowed P start ys → Legal P (of P ys)
  unfolding of
  of_legal ys a = record { allowed = a; key_is = refl; score_is = refl }

  -- ---- the states of the search are legal, at every level
  pub upto_legal : (i : ℕ) (s : St P) → Memᴰ s (upto P i) → Legal P s
  unfolding upto
  upto_legal zero s m = ⊎_elim (λ e. subst (Legal P) (sym e) legal_first) (λ m'. absurd (Memᴰ.not-nil m')) (Memᴰ.cases_cons m)
  upto_legal (suc i) s m =
      level_ind P (λ l. (s : St P) → Memᴰ s l → Legal P s) i (upto P i)
      (λ q m _ p o y l h s m'. ⊎_elim (h s) (λ e. subst (Legal P) (sym e) (legal_extend q (upto_legal i q m) p o y)) (mem_add P _ l m'))
      (upto_legal i) s m

  -- and at the end
  pub sound : (s : St P) → Memᴰ s (run P) → Legal P s
  unfolding run
  sound = upto_legal _

  -- ---- members of a set
  pub set_mem : (i : ℕ) (l : List (St P)) {s : St P} → Memᴰ s (set_of P i l) → Memᴰ s l × (size s.key ≡ i)
  unfolding set_of
  set_mem i l m = let r = keep_mem (λ (s : St P). eqb (size s.key) i) l m in (r.0, eqb-true _ _ r.1)

  -- and what is of that size is in the set
  pub mem_set : (i : ℕ) (l : List (St P)) {s : St P} → Memᴰ s l → size s.key ≡ i → Memᴰ s (set_of P i l)
  unfolding set_of
  mem_set i l m e = mem_keep (λ (s : St P). eqb (size s.key) i) l m (eq-eqb _ _ e)

  -- the answer is a state of the last set, closed
  pub best_from : (t : St P) → best P ≡ some t → (s : St P) × Memᴰ s (set_of P n (run P)) × (t ≡ closed P s)
  unfolding best
  best_from t e =
      ⊎_elim (λ h. let z : ◌≡◌ {A = ℕ} 0 1 = cc in absurd (omega arith))
      (λ m. let r = Memᴰ.of_map (closed P) (set_of P n (run P)) m in (r.0, r.1, sym r.2))
      (highest_mem better none (map (closed P) (set_of P n (run P))) t e)

  -- so it is legal
  pub best_sound : (t : St P) → best P ≡ some t → (s : St P) × Memᴰ s (set_of P n (run P)) × Legal P s × (t ≡ closed P s)
  best_sound t e = let r = best_from t e in (r.0, r.1, sound r.0 (set_mem n (run P) r.1).0, r.2)

  -- there is no answer exactly if the last set is empty
  pub best_none : (best P ≡ none) ↔ (set_of P n (run P) ≡ [])
  unfolding best
  best_none =
      let r = highest_none better (map (closed P) (set_of P n (run P))) in
      (λ e. map_nil (set_of P n (run P)) (r.0 e), λ e. r.1 (ap (map (closed P)) e))
    where
      map_nil : (l : List (St P)) → map (closed P) l ≡ [] → l ≡ []
      map_nil [] e = refl
      map_nil (s ∷ l) e = let z : ◌≡◌ {A = ℕ} 0 1 = cc in absurd (omega arith)
