-- The best of a list is one of it, and none of it is better; there is none exactly if the list is empty.
use Prim.Native.Nat.{ℕ}
use mathlib.Core.Path.{◌≡◌, refl, sym, ◌∙◌, ap, subst}
use mathlib.Core.Bool.{Bool, true, false, cond}
use mathlib.Core.Logic.{◌↔◌, ◌⊎◌, inl, inr, ⊎_elim}
use mathlib.Core.List.Memᴰ
use mathlib.Core.List.{List, [], ◌∷◌, Memᴰ}
use mathlib.Core.Option.{Option, none, some}
use native.Mathlib.Omega.{arith}
use Rattle.laws.proofs.Tests.{by_test}
use Rattle.search_theory.specs.Search.{Hypothesis, wins, highest}

module _ {Key Step : Type 0} (better : Hypothesis Key Step → Hypothesis Key Step → Bool) where
  abbrev S : Type 0
  S = Hypothesis Key Step

  -- a strict weak order: none of the list is better, and not the one before
  module _ (asym : (a b : S) → better a b ≡ true → better b a ≡ false) (ntrans : (a b c : S) → better a b ≡ false → better b c ≡ false → better a c ≡ false) where
    -- nothing is better than itself
    pub irrefl : (a : S) → better a a ≡ false
    irrefl a = by_test (better a a) (asym a a) (λ e. e)

    -- the option's state, if there is one, is not better than t
    abbrev Under : Option S → S → Type 0
    Under none t = Unit
    Under (some x) t = better x t ≡ false

    under_wins : (b : Option S) (s t : S) → Under (wins better b s) t → Under b t × (better s t ≡ false)
    under_wins none s t u = (tt, u)
    under_wins (some x) s t u =
        by_test (better s x)
        (λ h. let w : better s t ≡ false = rw h at u in (ntrans x s t (asym s x h) w, w))
        (λ h. let w : better x t ≡ false = rw h at u in (w, ntrans s x t h w))

    -- neither b nor any of the list is better than what is found
    pub highest_over : (b : Option S) (l : List S) (t : S) → highest better b l ≡ some t → Under b t × ((s : S) → Memᴰ s l → better s t ≡ false)
    unfolding highest
    highest_over b [] t e = (subst (λ (o : Option S). Under o t) (sym e) (irrefl t), λ s m. absurd (Memᴰ.not-nil m))
    highest_over b (s ∷ l) t e =
        let r = highest_over (wins better b s) l t e in
        let w = under_wins b s t r.0 in
        (w.0, λ x m. ⊎_elim (λ z. ap (λ (y : S). better y t) z ∙ w.1) (r.1 x) (Memᴰ.cases_cons m))

  wins_one : (b : Option S) (s t : S) → wins better b s ≡ some t → (b ≡ some t) ⊎ (t ≡ s)
  wins_one none s t e = inr cc
  wins_one (some u) s t e =
      by_test (better s u)
      (λ h. let w : some s ≡ some t = rw h at e in inr cc)
      (λ h. let w : some u ≡ some t = rw h at e in inl w)

  -- any order: what is found is b or one of the list
  pub highest_mem : (b : Option S) (l : List S) (t : S) → highest better b l ≡ some t → (b ≡ some t) ⊎ Memᴰ t l
  unfolding highest
  highest_mem b [] t e = inl e
  highest_mem b (s ∷ l) t e =
      ⊎_elim (λ h. ⊎_elim inl (λ z. inr (Memᴰ.head z)) (wins_one b s t h)) (λ m. inr (Memᴰ.tail m)) (highest_mem (wins better b s) l t e)

  none_some : (t : S) → none ≡ some t → ⊥
  none_some t e = let z : ◌≡◌ {A = ℕ} 0 1 = cc in omega arith

  -- from a state on, there is one
  pub highest_some : (t : S) (l : List S) → highest better (some t) l ≡ none → ⊥
  unfolding highest
  highest_some t [] e = none_some t (sym e)
  highest_some t (s ∷ l) e =
      by_test (better s t)
      (λ h. highest_some s l (ap (λ (c : Bool). highest better (cond c (some s) (some t)) l) (sym h) ∙ e))
      (λ h. highest_some t l (ap (λ (c : Bool). highest better (cond c (some s) (some t)) l) (sym h) ∙ e))

  -- from nothing, there is none exactly if the list is empty
  pub highest_none : (l : List S) → highest better none l ≡ none ↔ (l ≡ [])
  unfolding highest
  highest_none [] = (λ _. refl, λ _. refl)
  highest_none (s ∷ l) = (λ e. absurd (highest_some s l e), λ e. let z : ◌≡◌ {A = ℕ} 0 1 = cc in absurd (omega arith))
