-- The walk back along the parents, one turn at a time.
use mathlib.Core.Path.{◌≡◌, sym, ◌∙◌, ap, subst}
use mathlib.Core.List.{List, [], ◌∷◌, ◌++◌}
use Prim.Native.Nat.{ℕ, ◌+◌, ◌-◌, ◌<◌, ◌≤◌}
use native.Mathlib.Decide.{ℕ_discrete}
use native.Mathlib.Omega.{arith}
use borrow.Author.Tests.{ltb-true, ltb-false}
use lib.Dec.{ltb}
use lib.IntN.{ℤ}
use lib.ListN.{length, get_or, set, length-append, get_or-append}
use lib.Seq.{get_or-set_same, get_or-set_other, get_or-append_seam}
use Rattle.laws.proofs.Tests.{by_test}
use Rattle.meaning.specs.State.{Hyp}
use Rattle.meaning.specs.declared.Step.{Step}
use Rattle.store.specs.Store.{place_at}
use Rattle.meaning.specs.Derivation.{no_step}
use Rattle.ways.specs.Back.{nobody, Linked, Chains, Behind}
use Rattle.ways.specs.Codes.{step_of, codes}
use Rattle.store.specs.declared.Place.{Place}

module _ {st : List ℤ} {l : List Hyp} (C : Chains st l) where
  -- the first place is the start state's
  pub at_root : {at : ℕ} → at ≤ 0 → length (get_or l at nobody).steps ≡ 0
  at_root {at} z = let e : at ≡ 0 = omega arith in ap (λ (k : ℕ). length (get_or l k nobody).steps) e ∙ ap length C.root

  -- a place with steps is another
  pub no_root : {at : ℕ} → 0 < length (get_or l at nobody).steps → 0 < at
  no_root {at} p = by_test (ltb 0 at) (ltb-true 0 at) (λ e. absurd (omega (arith, at_root {at = at} (ltb-false 0 at e))))

  pub one_less : {at : ℕ} → (v : Linked st l at) → length (get_or l at nobody).steps ≡ length (get_or l (place_at st at).parent nobody).steps + 1
  one_less {at} v = ap length v.steps_are ∙ length-append (get_or l (place_at st at).parent nobody).steps (step_of (place_at st at).step ∷ [])

  -- ---- one step back, for `path`
  pub back_goes : (k d : ℕ) (out : List ℕ) (at left : ℕ) (x : Place) → 0 < left → left ≤ d → d ≤ length out → x ≡ place_at st at
      → Behind l k d out at left → Behind l k d (set out (left - 1) x.step) x.parent (left - 1)
  back_goes k d out at left x p q r e B =
      let v : Linked st l at = C.links at (no_root (omega (arith, B.long))) B.inside in
      let less : length (get_or l (place_at st at).parent nobody).steps ≡ left - 1 = omega (arith, one_less v, B.long) in
      subst (λ (y : Place). Behind l k d (set out (left - 1) y.step) y.parent (left - 1)) (sym e)
      (record {
        inside = v.inside;
        long = less;
        front = λ i h.
            B.front i (omega arith) ∙ ap (λ (ss : List Step). get_or ss i no_step) v.steps_are
            ∙ get_or-append (get_or l (place_at st at).parent nobody).steps (step_of (place_at st at).step ∷ []) no_step i (omega arith);
        step_in = λ i h g. in_range v i h g (ℕ_discrete i (left - 1));
        step_is = λ i h g. step v less i h g (ℕ_discrete i (left - 1));
      })
    where
      in_range : Linked st l at → (i : ℕ) → left - 1 ≤ i → i < d → Dec (i ≡ left - 1) → get_or (set out (left - 1) (place_at st at).step) i 0 < codes
      in_range v i h g (yes z) =
          subst (λ (j : ℕ). get_or (set out (left - 1) (place_at st at).step) j 0 < codes) (sym z)
          (subst (λ (o : ℕ). o < codes) (sym (get_or-set_same out (left - 1) (place_at st at).step 0 (omega arith))) v.step_in)
      in_range v i h g (no z) =
          subst (λ (o : ℕ). o < codes) (sym (get_or-set_other out (left - 1) i (place_at st at).step 0 z)) (B.step_in i (omega arith) g)

      step : Linked st l at → length (get_or l (place_at st at).parent nobody).steps ≡ left - 1 → (i : ℕ) → left - 1 ≤ i → i < d → Dec (i ≡ left - 1)
          → step_of (get_or (set out (left - 1) (place_at st at).step) i 0) ≡ get_or (get_or l k nobody).steps i no_step
      step v less i h g (yes z) =
          subst (λ (j : ℕ). step_of (get_or (set out (left - 1) (place_at st at).step) j 0) ≡ get_or (get_or l k nobody).steps j no_step) (sym z)
          (ap step_of (get_or-set_same out (left - 1) (place_at st at).step 0 (omega arith))
          ∙ sym (get_or-append_seam (get_or l (place_at st at).parent nobody).steps (step_of (place_at st at).step) [] no_step)
          ∙ ap (λ (j : ℕ). get_or ((get_or l (place_at st at).parent nobody).steps ++ (step_of (place_at st at).step ∷ [])) j no_step) less
          ∙ sym (B.front (left - 1) (omega arith) ∙ ap (λ (ss : List Step). get_or ss (left - 1) no_step) v.steps_are))
      step v less i h g (no z) = ap step_of (get_or-set_other out (left - 1) i (place_at st at).step 0 z) ∙ B.step_is i (omega arith) g
