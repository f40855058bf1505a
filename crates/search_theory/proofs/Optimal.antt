-- With all laws: the answer is a best one of the last set, for any beam; and with a beam that drops nothing no allowed sequence is better.
use Prim.Native.Nat.{ℕ, suc, ◌<◌, ◌≤◌, zero-le}
use mathlib.Core.Path.{◌≡◌, refl, sym, ◌∙◌, ap, subst}
use mathlib.Core.Bool.{true, false, true≢false}
use mathlib.Core.Logic.{⊎_elim}
use mathlib.Core.List.{List, [], ◌∷◌, ◌++◌, map, append-nil, append_assoc, Memᴰ}
use mathlib.Core.Option.{none, some}
use native.Mathlib.Nat.{le_refl, le_trans}
use native.Mathlib.Omega.{arith}
use borrow.Author.Tests.{eq-eqb}
use lib.Dec.{eqb}
use Rattle.laws.proofs.Tests.{if_ind, climb}
use Rattle.search_theory.specs.Search.{Problem, St, first, extend, add, set_of, upto, run, closed, best}
use Rattle.search_theory.specs.Loops.{grow, visit, sweep}
use Rattle.search_theory.specs.Statements.{after, Allowed, of, Legal, Steady, Ranked, Covered, Unpruned}
use Rattle.search_theory.proofs.Highest as H
use Rattle.search_theory.proofs.Add.{self, cover_new, cover_add}
use Rattle.search_theory.proofs.Loops.{grow_ind, sweep_ind, level_ind, upto_sweep}
use Rattle.search_theory.proofs.Sound.{legal_first, legal_extend, legal_of, of_legal, upto_legal, sound, mem_set, best_from, best_none}
use Rattle.search_theory.proofs.Sets.{settled, one_key, distinct}

module _ (P : Problem) (S : Steady P) (R : Ranked P) where
  open P use {Step, start, options, may, next, size, n, better, in_beam}
  open S use {grows, bound}
  open R use {asym, ntrans, mono, mono_close}

  -- ---- what is covered stays covered

  lift_cover : (u t : St P) (p : Step) {l : List (St P)} → t.key ≡ u.key → better (extend P u p) (extend P t p) ≡ false → Covered P l (extend P t p) → Covered P l (extend P u p)
  unfolding extend
  lift_cover u t p k b d =
      record { by = d.by; member = d.member; its_key = d.its_key ∙ ap (λ x. next x p) k; not_worse = ntrans (extend P u p) (extend P t p) d.by b d.not_worse }

  upto_cover : (u : St P) (i j : ℕ) → i ≤ j → Covered P (upto P i) u → Covered P (upto P j) u
  unfolding upto
  upto_cover u i j h c =
      climb (λ k. Covered P (upto P k) u) c (λ k _ d. level_ind P (λ l. Covered P l u) k (upto P k) (λ q _ _ p _ _ l d'. cover_add P S R _ l d') d) j h

  -- ---- a state that is extended covers each of its extensions

  grow_hit : (q : St P) (ps : List Step) (p : Step) → Memᴰ p ps → may q.key p ≡ true → (l : List (St P)) → Covered P (grow P q ps l) (extend P q p)
  unfolding grow
  grow_hit q [] p m y l = absurd (mathlib.Core.List.Memᴰ.not-nil m)
  grow_hit q (x ∷ ps) p m y l =
      ⊎_elim
      (λ e. grow_ind P (λ r. Covered P r (extend P q p)) q ps (λ p' _ _ r c. cover_add P S R _ r c) _
      (if_ind (may q.key x) (λ (r : List (St P)). Covered P r (extend P q p))
      (λ _. subst (λ (z : Step). Covered P (add P (extend P q z) l) (extend P q p)) e (cover_new P S R _ l))
      (λ f. absurd (true≢false (sym y ∙ ap (may q.key) e ∙ f)))))
      (λ m'. grow_hit q ps p m' y _)
      (mathlib.Core.List.Memᴰ.cases_cons m)

  sweep_hit : (i : ℕ) (set qs : List (St P)) (t : St P) → Memᴰ t qs → size t.key ≡ i → in_beam set t ≡ true
      → (p : Step) → Memᴰ p options → may t.key p ≡ true → (l : List (St P)) → Covered P (sweep P i set qs l) (extend P t p)
  unfolding sweep visit
  sweep_hit i set [] t m z k p o y l = absurd (mathlib.Core.List.Memᴰ.not-nil m)
  sweep_hit i set (q ∷ qs) t m z k p o y l =
      ⊎_elim
      (λ e. sweep_ind P (λ r. Covered P r (extend P t p)) i set qs (λ q' _ _ p' _ _ r c. cover_add P S R _ r c) _
      (if_ind (eqb (size q.key) i) (λ (r : List (St P)). Covered P r (extend P t p))
      (λ _. if_ind (in_beam set q) (λ (r : List (St P)). Covered P r (extend P t p))
      (λ _. subst (λ (x : St P). Covered P (grow P x options l) (extend P t p)) e (grow_hit t options p o y l))
      (λ f. absurd (true≢false (sym k ∙ ap (in_beam set) e ∙ f))))
      (λ f. absurd (true≢false (sym (eq-eqb _ _ z) ∙ ap (λ (x : St P). eqb (size x.key) i) e ∙ f)))))
      (λ m'. sweep_hit i set qs t m' z k p o y _)
      (mathlib.Core.List.Memᴰ.cases_cons m)

  upto_hit : (i : ℕ) (t : St P) → Memᴰ t (upto P i) → size t.key ≡ i → in_beam (set_of P i (upto P i)) t ≡ true
      → (p : Step) → Memᴰ p options → may t.key p ≡ true → Covered P (upto P (suc i)) (extend P t p)
  upto_hit i t m z k p o y = subst (λ (l : List (St P)). Covered P l (extend P t p)) (upto_sweep P i) (sweep_hit i (set_of P i (upto P i)) (upto P i) t m z k p o y (upto P i))

  -- ---- of equal states the better stays, for any beam: no extension of a state in the beam is better than the state with its key
  pub stays : (t : St P) → Memᴰ t (run P) → in_beam (set_of P (size t.key) (upto P (size t.key))) t ≡ true
      → (p : Step) → Memᴰ p options → may t.key p ≡ true → Covered P (run P) (extend P t p)
  unfolding run
  stays t k b p o y =
      let g : Legal P t = upto_legal P n t k in
      let i : ℕ = size t.key in
      let lt : i < n = le_trans (grows t g p o y) (bound t g p o y) in
      let m : Memᴰ t (upto P i) = settled P S i n (omega arith) t (le_refl i) k in
      upto_cover (extend P t p) (suc i) n lt (upto_hit i t m refl b p o y)

  -- ---- the answer, for any beam

  -- it is a state of the last set, closed, that none of the set is better than
  pub answered : (t : St P) → best P ≡ some t
      → (s : St P) × Memᴰ s (set_of P n (run P)) × (t ≡ closed P s) × ((u : St P) → Memᴰ u (set_of P n (run P)) → better (closed P u) t ≡ false)
  unfolding best
  answered t e =
      let r = best_from P t e in
      (r.0, r.1, r.2, λ u m. (H.highest_over better asym ntrans none (map (closed P) (set_of P n (run P))) t e).1 (closed P u) (mathlib.Core.List.Memᴰ.map (closed P) m))

  -- ---- with a beam that drops nothing, each allowed sequence is covered

  module _ (U : Unpruned P) where
    one_more : (u : St P) → Legal P u → Covered P (run P) u → (p : Step) → Memᴰ p options → may u.key p ≡ true → Covered P (run P) (extend P u p)
    unfolding run Unpruned
    one_more u g c p o y =
        let t : St P = c.by in
        let y' : may t.key p ≡ true = ap (λ k. may k p) c.its_key ∙ y in
        let g' : Legal P t = upto_legal P n t c.member in
        let i : ℕ = size t.key in
        let lt : i < n = le_trans (grows t g' p o y') (bound t g' p o y') in
        let m : Memᴰ t (upto P i) = settled P S i n (omega arith) t (le_refl i) c.member in
        let b : in_beam (set_of P i (upto P i)) t ≡ true = U i lt t (mem_set P i (upto P i) m refl) in
        lift_cover u t p c.its_key (mono u t g g' (sym c.its_key) p o y c.not_worse) (upto_cover (extend P t p) (suc i) n lt (upto_hit i t m refl b p o y'))

    -- go on from u along ys
    along : (ys : List Step) (u : St P) → Legal P u → Covered P (run P) u → Allowed P u.key ys → (w : St P) × Legal P w × (w.steps ≡ u.steps ++ ys) × Covered P (run P) w
    unfolding extend
    along [] u g c a = (u, g, sym (append-nil u.steps), c)
    along (p ∷ ys) u g c a =
        let r = along ys (extend P u p) (legal_extend P u g p a.0 a.1) (one_more u g c p a.0 a.1) a.2 in
        (r.0, r.1, r.2 ∙ append_assoc u.steps (p ∷ []) ys, r.3)

    begun : Memᴰ (first P) (upto P 0)
    unfolding upto
    begun = mathlib.Core.List.Memᴰ.head refl

    -- each allowed sequence has a state with its key that is not worse
    pub complete : (ys : List Step) → Allowed P start ys → Covered P (run P) (of P ys)
    unfolding first run
    complete ys a = finish (along ys (first P) (legal_first P) (upto_cover (first P) 0 n zero-le (self P S R begun)) a)
      where
        finish : (w : St P) × Legal P w × (w.steps ≡ ys) × Covered P (run P) w → Covered P (run P) (of P ys)
        finish r = subst (Covered P (run P)) (legal_of P r.0 r.1 ∙ ap (of P) r.2) r.3

    -- each state of the list is a best one of its key
    pub each_best : (t : St P) → Memᴰ t (run P) → (ys : List Step) → Allowed P start ys → after P start ys ≡ t.key → better (of P ys) t ≡ false
    unfolding of
    each_best t m ys a e =
        let c = complete ys a in
        subst (λ (x : St P). better (of P ys) x ≡ false) (one_key P S (run P) (distinct P S) c.by t c.member m (c.its_key ∙ e)) c.not_worse

    -- the state that covers a sequence to the last set is in the last set
    ends : (ys : List Step) (a : Allowed P start ys) → size (after P start ys) ≡ n → Memᴰ (complete ys a).by (set_of P n (run P))
    unfolding of
    ends ys a z = let c = complete ys a in mem_set P n (run P) c.member (ap size c.its_key ∙ z)

    -- no allowed sequence to the last set is better than the answer
    pub optimal : (t : St P) → best P ≡ some t → (ys : List Step) → Allowed P start ys → size (after P start ys) ≡ n → better (closed P (of P ys)) t ≡ false
    optimal t e ys a z =
        let c = complete ys a in
        ntrans (closed P (of P ys)) (closed P c.by) t
        (mono_close (of P ys) c.by (of_legal P ys a) (sound P c.by c.member) (sym c.its_key) c.not_worse)
        ((answered t e).3 c.by (ends ys a z))

    -- and where there is no answer, no allowed sequence leads to the last set
    pub hopeless : best P ≡ none → (ys : List Step) → Allowed P start ys → size (after P start ys) ≡ n → ⊥
    hopeless e ys a z = mathlib.Core.List.Memᴰ.not-nil (subst (λ (l : List (St P)). Memᴰ (complete ys a).by l) ((best_none P).0 e) (ends ys a z))
