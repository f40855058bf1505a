-- What one `add` does to a list: of equal states the better stays, nothing but its state comes in, the keys stay different, and the smaller sets stay as they are.
use Prim.Native.Nat.{ℕ, suc, ◌<◌, ◌≤◌, zero-le, suc-le-suc}
use mathlib.Core.Path.{◌≡◌, refl, sym, ◌∙◌, ap, subst}
use mathlib.Core.Bool.{Bool, false, cond, true≢false}
use mathlib.Core.Logic.{◌⊎◌, inl, inr, ⊎_elim}
use mathlib.Core.List.{List, [], ◌∷◌, Memᴰ}
use native.Mathlib.Nat.{le_refl, le_trans, lt_irrefl}
use lib.ListN.{length}
use Rattle.laws.specs.Lists.{keep, Distinct}
use Rattle.laws.proofs.Tests.{if_ind}
use Rattle.search_theory.specs.Search.{Problem, St, add}
use Rattle.search_theory.specs.Statements.{Steady, Ranked, Covered, keys, Kept}
use Rattle.search_theory.proofs.Highest.{irrefl}

-- ---- of equal states the better stays: what is added is covered, and what was covered stays so
module _ (P : Problem) (S : Steady P) (R : Ranked P) where
  open P use {same, better}
  open S use {same_eq}
  open R use {asym, ntrans}

  -- a state of the list covers itself
  pub self : {t : St P} {l : List (St P)} → Memᴰ t l → Covered P l t
  self {t} m = record { by = t; member = m; its_key = refl; not_worse = irrefl better asym ntrans t }

  skip : {x t : St P} {l : List (St P)} → Covered P l t → Covered P (x ∷ l) t
  skip c = record { by = c.by; member = mathlib.Core.List.Memᴰ.tail c.member; its_key = c.its_key; not_worse = c.not_worse }

  -- what was in the list is covered
  cover_old : (s : St P) (l : List (St P)) {t : St P} → Memᴰ t l → Covered P (add P s l) t
  unfolding add
  cover_old s [] m = absurd (mathlib.Core.List.Memᴰ.not-nil m)
  cover_old s (x ∷ l) {t} m =
      ⊎_elim
      (λ h. if_ind (same x.key s.key) (λ (r : List (St P)). Covered P r t)
      (λ e. if_ind (better s x) (λ (y : St P). Covered P (y ∷ l) t)
      (λ b. record { by = s; member = mathlib.Core.List.Memᴰ.head refl; its_key = sym (same_eq _ _ e) ∙ ap (λ (z : St P). z.key) (sym h); not_worse = ap (λ (z : St P). better z s) h ∙ asym s x b })
      (λ _. self (mathlib.Core.List.Memᴰ.head h)))
      (λ _. self (mathlib.Core.List.Memᴰ.head h)))
      (λ m'. if_ind (same x.key s.key) (λ (r : List (St P)). Covered P r t) (λ _. self (mathlib.Core.List.Memᴰ.tail m')) (λ _. skip (cover_old s l m')))
      (mathlib.Core.List.Memᴰ.cases_cons m)

  -- what is added is covered
  pub cover_new : (s : St P) (l : List (St P)) → Covered P (add P s l) s
  unfolding add
  cover_new s [] = self (mathlib.Core.List.Memᴰ.head refl)
  cover_new s (t ∷ l) =
      if_ind (same t.key s.key) (λ (r : List (St P)). Covered P r s)
      (λ e. if_ind (better s t) (λ (x : St P). Covered P (x ∷ l) s) (λ _. self (mathlib.Core.List.Memᴰ.head refl))
      (λ b. record { by = t; member = mathlib.Core.List.Memᴰ.head refl; its_key = same_eq _ _ e; not_worse = b }))
      (λ _. skip (cover_new s l))

  -- what was covered stays so
  pub cover_add : (s : St P) (l : List (St P)) {u : St P} → Covered P l u → Covered P (add P s l) u
  cover_add s l {u} c =
      let d = cover_old s l c.member in
      record { by = d.by; member = d.member; its_key = d.its_key ∙ c.its_key; not_worse = ntrans u c.by d.by c.not_worse d.not_worse }

-- ---- any beam, no law
module _ (P : Problem) where
  open P use {same, better}

  -- an `add` brings in nothing but its state
  pub mem_add : (s : St P) (l : List (St P)) {x : St P} → Memᴰ x (add P s l) → Memᴰ x l ⊎ (x ≡ s)
  unfolding add
  mem_add s [] m = ⊎_elim inr inl (mathlib.Core.List.Memᴰ.cases_cons m)
  mem_add s (t ∷ l) {x} m =
      let go : Memᴰ x (add P s (t ∷ l)) → Memᴰ x (t ∷ l) ⊎ (x ≡ s) =
      if_ind (same t.key s.key) (λ r. Memᴰ x r → Memᴰ x (t ∷ l) ⊎ (x ≡ s))
      (λ _ m. ⊎_elim (if_ind (better s t) (λ r. x ≡ r → Memᴰ x (t ∷ l) ⊎ (x ≡ s)) (λ _ h. inr h) (λ _ h. inl (mathlib.Core.List.Memᴰ.head h))) (λ m'. inl (mathlib.Core.List.Memᴰ.tail m')) (mathlib.Core.List.Memᴰ.cases_cons m))
      (λ _ m. ⊎_elim (λ h. inl (mathlib.Core.List.Memᴰ.head h)) (λ m'. ⊎_elim (λ z. inl (mathlib.Core.List.Memᴰ.tail z)) inr (mem_add s l m')) (mathlib.Core.List.Memᴰ.cases_cons m)) in
      go m

  -- and makes the list no shorter
  pub add_longer : (s : St P) (l : List (St P)) → length l ≤ length (add P s l)
  unfolding add
  add_longer s [] = zero-le
  add_longer s (t ∷ l) = if_ind (same t.key s.key) (λ (r : List (St P)). suc (length l) ≤ length r) (λ _. le_refl _) (λ _. suc-le-suc (add_longer s l))

-- ---- the keys, and the smaller sets
module _ (P : Problem) (S : Steady P) where
  open P use {Key, same, size, better}
  open S use {same_eq, same_refl}

  apart : (a b : Key) → same a b ≡ false → a ≡ b → ⊥
  apart a b e h = true≢false (sym (same_refl a) ∙ ap (same a) h ∙ e)

  keys_add : (s : St P) (l : List (St P)) {k : Key} → Memᴰ k (keys P (add P s l)) → Memᴰ k (keys P l) ⊎ (k ≡ s.key)
  keys_add s l m =
      let r = mathlib.Core.List.Memᴰ.of_map (λ (x : St P). x.key) (add P s l) m in
      ⊎_elim (λ m'. inl (mathlib.Core.List.Memᴰ.cast (sym r.2) (mathlib.Core.List.Memᴰ.map (λ (x : St P). x.key) m'))) (λ e. inr (sym r.2 ∙ ap (λ (x : St P). x.key) e)) (mem_add P s l r.1)

  -- the keys stay different
  pub distinct_add : (s : St P) (l : List (St P)) → Distinct (keys P l) → Distinct (keys P (add P s l))
  unfolding add
  distinct_add s [] d = (λ m. mathlib.Core.List.Memᴰ.not-nil m, tt)
  distinct_add s (t ∷ l) d =
      if_ind (same t.key s.key) (λ (r : List (St P)). Distinct (keys P r))
      (λ e. (if_ind (better s t) (λ (r : St P). Memᴰ r.key (keys P l) → ⊥) (λ _ m. d.0 (mathlib.Core.List.Memᴰ.cast (same_eq _ _ e) m)) (λ _. d.0), d.1))
      (λ e. (λ m. ⊎_elim d.0 (apart _ _ e) (keys_add s l m), distinct_add s l d.1))

  -- the states whose sizes pass a test, where the new one's does not
  pub keep_add : (f : ℕ → Bool) (s : St P) → f (size s.key) ≡ false → (l : List (St P)) → keep (λ s. f (size s.key)) (add P s l) ≡ keep (λ s. f (size s.key)) l
  unfolding add
  keep_add f s h [] = rw h
  keep_add f s h (t ∷ l) =
      if_ind (same t.key s.key) (λ (r : List (St P)). keep (λ s. f (size s.key)) r ≡ keep (λ s. f (size s.key)) (t ∷ l))
      (λ e. if_ind (better s t) (λ (x : St P). keep (λ s. f (size s.key)) (x ∷ l) ≡ keep (λ s. f (size s.key)) (t ∷ l)) (λ _. rw (same_eq _ _ e, h)) (λ _. refl))
      (λ _. ap (λ z. cond (f (size t.key)) (t ∷ z) z) (keep_add f s h l))

  -- what a level of the size i began with, where the new state is larger
  pub kept_add : (i : ℕ) (s : St P) → i < size s.key → (base l : List (St P)) → Kept P i base l → Kept P i base (add P s l)
  unfolding add
  kept_add i s h [] l k = tt
  kept_add i s h (b ∷ base) [] k = absurd k
  kept_add i s h (b ∷ base) (t ∷ l) k =
      if_ind (same t.key s.key) (Kept P i (b ∷ base))
      (λ e. if_ind (better s t) (λ (x : St P). Kept P i (b ∷ base) (x ∷ l))
      (λ _. (sym (same_eq _ _ e) ∙ k.0, λ z. absurd (lt_irrefl i (le_trans h (subst (λ x. size x ≤ i) (sym k.0 ∙ same_eq _ _ e) z))), k.2))
      (λ _. k))
      (λ _. (k.0, k.1, kept_add i s h base l k.2))
