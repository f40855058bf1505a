-- What `is_better` found is the search's test; and what it may be asked of.
use mathlib.Core.Path.{◌≡◌, sym, ◌∙◌, ap, ap₂, subst}
use native.Mathlib.Omega.{arith}
use mathlib.Core.Bool.{Bool, true, false, cond}
use mathlib.Core.List.{List, [], ◌∷◌, ◌++◌}
use Prim.Native.Nat.{ℕ, ◌<◌}
use lib.IntN.{ℤ}
use lib.ListN.{length, get_or}
use lib.Signed.{lt_z}
use Rattle.meaning.specs.Derivation.{comes_before}
use Rattle.meaning.specs.State.{Hyp, is_better}
use Rattle.meaning.specs.declared.State.{State}
use Rattle.meaning.specs.declared.Step.{Step}
use Rattle.store.specs.declared.Place.{Place}
use Rattle.store.specs.Store.{place_at, is_same}
use Rattle.ways.specs.Back.{nobody}
use Rattle.ways.specs.Ties.{Walked, Beside}
use Rattle.ways.specs.Codes.{step_of}
use Rattle.states.specs.Order.{Tested, Leading}

-- by the scores, or by what is said of the steps
abbrev by_scores : ℤ → ℤ → Bool → Bool
by_scores new old first = cond (lt_z old new) true (cond (lt_z new old) false first)

-- s is what x shows: its steps are those of x's parent with x's step behind them; t is what y, the state of the place k, shows
module _ {st : List ℤ} {l : List Hyp} (x : Place) (y : State) (k : ℕ) (B : Beside st l x.parent x.step k) where
  pub tested_is : {b : Bool} → Tested st x y k b → (s t : Hyp) → x.state.score ≡ s.score → y.score ≡ t.score
      → s.steps ≡ (get_or l x.parent nobody).steps ++ (step_of x.step ∷ []) → t.steps ≡ (get_or l k nobody).steps → is_better s t ≡ b
  unfolding is_better comes_before
  tested_is f s t es et ss ts =
      sym (f l B
      ∙ ap₂ (λ (u v : ℤ). by_scores u v (comes_before ((get_or l x.parent nobody).steps ++ (step_of x.step ∷ [])) (get_or l k nobody).steps)) es et
      ∙ ap₂ (λ (v w : List Step). by_scores s.score t.score (comes_before v w)) (sym ss) (sym ts))

-- ---- what can be compared

-- x and the place of a state that is equal to it
pub leading_beside : {st : List ℤ} {count : ℕ} {x : Place} (L : Leading st count x) {k : ℕ} → k < count → is_same (place_at st k).state x.state ≡ true → Beside st L.walks.list x.parent x.step k
leading_beside {st} {count} {x} L {k} h e =
    let z = L.same_state k h e in
    let n = L.walks.long in
    let p = L.parent_in in
    let b = L.parent_below in
    record {
      walked = L.walks.walked;
      inside_j = omega arith;
      inside_k = omega arith;
      below = omega arith;
      level = λ c i q. L.same_steps c (omega arith) q ∙ sym z;
    }

-- two places that cover as many words
pub places_beside : {st : List ℤ} {l : List Hyp} → Walked st l → (x : Place) {j k : ℕ} → x ≡ place_at st k → j < k → k < length l → (place_at st j).size ≡ (place_at st k).size
    → Beside st l x.parent x.step j
places_beside {st} {l} W x {j} {k} e h i z =
    let v = W.chains.links k (omega arith) i in
    let s = W.smaller k (omega arith) i in
    subst (λ (y : Place). Beside st l y.parent y.step j) (sym e)
    (record {
      walked = W;
      inside_j = v.inside;
      inside_k = omega arith;
      below = omega arith;
      level = λ c g q. ap (λ (m : ℕ). (place_at st m).size) (W.apart c k g i (q ∙ sym v.steps_are)) ∙ sym z;
    })
