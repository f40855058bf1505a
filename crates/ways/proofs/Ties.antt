-- Two ways followed back to the last place that they share: the steps after it decide. Of two places the one that covers more words is left, so that no place
-- on both ways is passed over.
use Prim.Native.Nat.{ℕ, ◌<◌, ◌≤◌}
use native.Mathlib.Omega.{arith}
use mathlib.Core.Path.{◌≡◌, refl, sym, ◌∙◌, ap, ap₂, subst}
use mathlib.Core.Bool.{false}
use mathlib.Core.List.{List, [], ◌∷◌, ◌++◌, append_assoc}
use borrow.Author.Tests.{ltb-true, ltb-false}
use lib.Dec.{ltb}
use lib.IntN.{ℤ}
use lib.ListN.{length, get_or}
use Rattle.laws.proofs.Orders.{weak_irrefl}
use Rattle.laws.proofs.Tests.{by_test}
use Rattle.meaning.specs.Derivation.{comes_before}
use Rattle.meaning.specs.State.{Hyp}
use Rattle.meaning.specs.declared.Step.{Step}
use Rattle.meaning.proofs.Order.{step_weak, derivation_weak}
use Rattle.store.specs.Store.{place_at}
use Rattle.store.specs.declared.Place.{Place}
use Rattle.ways.specs.Back.{nobody, Linked}
use Rattle.ways.specs.Codes.{step_of}
use Rattle.ways.specs.Ties.{Walked, Beside, Parting}
use Rattle.ways.proofs.Codes.{codes_ordered}

-- ---- lists of steps

-- what both begin with decides nothing
same_front : (xs us vs : List Step) → comes_before (xs ++ us) (xs ++ vs) ≡ comes_before us vs
unfolding comes_before
same_front [] us vs = refl
same_front (x ∷ xs) us vs = rw (weak_irrefl step_weak x) (same_front xs us vs)

-- the first steps decide, by their numbers, but where they are the same
first_decides : (s t : ℕ) (us vs : List Step) → (s ≡ t → comes_before us vs ≡ false) → ltb s t ≡ comes_before (step_of s ∷ us) (step_of t ∷ vs)
unfolding comes_before
first_decides s t us vs f =
    rw (codes_ordered s t, codes_ordered t s)
    (by_test (ltb s t)
    (λ e. rw e)
    (λ e. by_test (ltb t s)
    (λ g. rw (e, g))
    (λ g. let z : s ≡ t = omega (arith, ltb-false s t e, ltb-false t s g) in rw (e, g) (sym (f z)))))

-- ---- the walk
module _ {st : List ℤ} {l : List Hyp} (W : Walked st l) where
  -- a place that covers words is not the first
  not_first : (c : ℕ) → 0 < (place_at st c).size → 0 < c
  not_first c h = by_test (ltb 0 c) (ltb-true 0 c) (λ e. let z : c ≡ 0 = omega (arith, ltb-false 0 c e) in absurd (omega (arith, ap (λ (x : ℕ). (place_at st x).size) z, W.none_covered)))

  -- of two places the one that covers no fewer words is not the first
  not_first_of : (a b : ℕ) → b < length l → (a ≡ b → ⊥) → (place_at st b).size ≤ (place_at st a).size → 0 < a
  not_first_of a b hb n h =
      by_test (ltb 0 a) (ltb-true 0 a)
      (λ e.
      let z : a ≡ 0 = omega (arith, ltb-false 0 a e) in
      let s : (place_at st a).size ≡ 0 = ap (λ (x : ℕ). (place_at st x).size) z ∙ W.none_covered in
      by_test (ltb 0 b)
      (λ f. absurd (omega (arith, W.smaller b (ltb-true 0 b f) hb)))
      (λ f. absurd (n (omega (arith, ltb-false 0 b f)))))

  link : (c : ℕ) → 0 < c → c < length l → Linked st l c
  link c p h = W.chains.links c p h

  -- a way through the place c goes through its parent
  through : (c : ℕ) → Linked st l c → (steps rest : List Step) → steps ≡ (get_or l c nobody).steps ++ rest
      → steps ≡ (get_or l (place_at st c).parent nobody).steps ++ (step_of (place_at st c).step ∷ rest)
  through c v steps rest e =
      e ∙ ap (λ (xs : List Step). xs ++ rest) v.steps_are ∙ append_assoc (get_or l (place_at st c).parent nobody).steps (step_of (place_at st c).step ∷ []) rest

  module _ {new old : List Step} {a s b t : ℕ} (P : Parting st l new old a s b t) (n : a ≡ b → ⊥) where
    -- b covers more words: back from b
    module _ (h : (place_at st a).size < (place_at st b).size) where
      link_b : Linked st l b
      link_b = link b (not_first b (omega arith)) P.inside_b

      fewer : (place_at st (place_at st b).parent).size < (place_at st b).size
      fewer = W.smaller b (not_first b (omega arith)) P.inside_b

      back_old : Parting st l new old a s (place_at st b).parent (place_at st b).step
      back_old =
          record {
            inside_a = P.inside_a;
            inside_b = link_b.inside;
            rest_new = P.rest_new;
            rest_old = step_of t ∷ P.rest_old;
            new_is = P.new_is;
            old_is = through b link_b old (step_of t ∷ P.rest_old) P.old_is;
            met = b;
            met_in = P.inside_b;
            met_is = link_b.steps_are;
            under = h;
            over = λ c i e.
                let v = (P.over c i e).0 in
                (omega (arith, fewer), λ z. let w : (place_at st (place_at st b).parent).size ≡ (place_at st c).size = ap (λ (x : ℕ). (place_at st x).size) z in omega (arith, fewer));
            differ = λ e. absurd ((P.over b P.inside_b (link_b.steps_are ∙ sym e)).1 refl);
          }

    -- a covers no fewer: back from a
    module _ (h : (place_at st b).size ≤ (place_at st a).size) where
      first_not : 0 < a
      first_not = not_first_of a b P.inside_b n h

      link_a : Linked st l a
      link_a = link a first_not P.inside_a

      fewer_a : (place_at st (place_at st a).parent).size < (place_at st a).size
      fewer_a = W.smaller a first_not P.inside_a

      back_new : Parting st l new old (place_at st a).parent (place_at st a).step b t
      back_new =
          record {
            inside_a = link_a.inside;
            inside_b = P.inside_b;
            rest_new = step_of s ∷ P.rest_new;
            rest_old = P.rest_old;
            new_is = through a link_a new (step_of s ∷ P.rest_new) P.new_is;
            old_is = P.old_is;
            met = P.met;
            met_in = P.met_in;
            met_is = P.met_is;
            under = (let u = P.under in omega (arith, fewer_a));
            over = λ c i e.
                let z : c ≡ a = W.apart c a i P.inside_a (e ∙ sym link_a.steps_are) in
                let w : (place_at st c).size ≡ (place_at st a).size = ap (λ (x : ℕ). (place_at st x).size) z in
                (omega arith, λ q. n (sym z ∙ sym q));
            differ = λ e.
                let z : a ≡ P.met = W.apart a P.met P.inside_a P.met_in (link_a.steps_are ∙ e ∙ sym P.met_is) in
                let w : (place_at st a).size ≡ (place_at st P.met).size = ap (λ (x : ℕ). (place_at st x).size) z in
                let u = P.under in
                absurd (omega arith);
          }

-- ---- the loop of `comes_first`, as its code reads the places
module _ {st : List ℤ} {l : List Hyp} {j o k : ℕ} (B : Beside st l j o k) where
  abbrev new : List Step
  new = (get_or l j nobody).steps ++ (step_of o ∷ [])

  abbrev old : List Step
  old = (get_or l k nobody).steps

  k_from : 0 < k
  k_from = let h = B.below in not_first B.walked k (omega arith)

  pub parting_starts : (y : Place) → y ≡ place_at st k → Parting st l new old j o y.parent y.step
  parting_starts y e =
      let v = link B.walked k k_from B.inside_k in
      let f = B.walked.smaller k k_from B.inside_k in
      subst (λ (z : Place). Parting st l new old j o z.parent z.step) (sym e)
      (record {
        inside_a = B.inside_j;
        inside_b = v.inside;
        rest_new = [];
        rest_old = [];
        new_is = refl;
        old_is = v.steps_are;
        met = k;
        met_in = B.inside_k;
        met_is = v.steps_are;
        under = B.below;
        over = λ c i q.
            let s = B.level c i q in
            (omega arith, λ z. let w : (place_at st (place_at st k).parent).size ≡ (place_at st c).size = ap (λ (x : ℕ). (place_at st x).size) z in omega arith);
        differ = λ q. q ∙ sym v.steps_are;
      })

  module _ {a s b t : ℕ} (P : Parting st l new old a s b t) where
    module _ (n : a ≡ b → ⊥) (x y : Place) (ex : x ≡ place_at st a) (ey : y ≡ place_at st b) where
      -- one turn, on either side; and fewer words are covered after it
      pub turn_old : x.size < y.size → Parting st l new old a s y.parent y.step × ((place_at st y.parent).size < (place_at st b).size)
      turn_old h =
          let g : (place_at st a).size < (place_at st b).size = subst (λ (z : Place). (place_at st a).size < z.size) ey (subst (λ (z : Place). z.size < y.size) ex h) in
          subst (λ (z : Place). Parting st l new old a s z.parent z.step × ((place_at st z.parent).size < (place_at st b).size)) (sym ey) (back_old B.walked P n g, fewer B.walked P n g)

      pub turn_new : y.size ≤ x.size → Parting st l new old x.parent x.step b t × ((place_at st x.parent).size < (place_at st a).size)
      turn_new h =
          let g : (place_at st b).size ≤ (place_at st a).size = subst (λ (z : Place). (place_at st b).size ≤ z.size) ex (subst (λ (z : Place). z.size ≤ x.size) ey h) in
          subst (λ (z : Place). Parting st l new old z.parent z.step b t × ((place_at st z.parent).size < (place_at st a).size)) (sym ex) (back_new B.walked P n g, fewer_a B.walked P n g)

    -- both are at one place: the steps after it decide
    pub parting_ends : a ≡ b → ltb s t ≡ comes_before new old
    parting_ends e =
        let xs : List Step = (get_or l b nobody).steps in
        let n : new ≡ xs ++ (step_of s ∷ P.rest_new) = P.new_is ∙ ap (λ (c : ℕ). (get_or l c nobody).steps ++ (step_of s ∷ P.rest_new)) e in
        let same : s ≡ t → new ≡ old = λ z. P.differ (ap₂ (λ (c d : ℕ). (get_or l c nobody).steps ++ (step_of d ∷ [])) e z) in
        let rest : s ≡ t → comes_before P.rest_new P.rest_old ≡ false = λ z.
        sym (same_front (xs ++ (step_of t ∷ [])) P.rest_new P.rest_old)
        ∙ ap₂ comes_before (append_assoc xs (step_of t ∷ []) P.rest_new ∙ ap (λ (d : ℕ). xs ++ (step_of d ∷ P.rest_new)) (sym z) ∙ sym n) (append_assoc xs (step_of t ∷ []) P.rest_old ∙ sym P.old_is)
        ∙ ap (λ (ys : List Step). comes_before new ys) (sym (same z)) ∙ weak_irrefl derivation_weak new in
        first_decides s t P.rest_new P.rest_old rest ∙ sym (same_front xs (step_of s ∷ P.rest_new) (step_of t ∷ P.rest_old)) ∙ ap₂ comes_before (sym n) (sym P.old_is)
