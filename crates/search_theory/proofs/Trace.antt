-- Back pointers: an array holds no lists of steps, but for each place the place `par` of the state that was extended, and the step `via`.
-- Each `add` keeps the links, and a walk along them from a place gives that state's steps.
-- A parent's place may be the greater one (an early key whose state was replaced later), so the walk is bounded by sizes, not by places.
use Prim.Native.Nat.{ℕ, zero, suc, ◌+◌, ◌<◌, ◌≤◌, zero-le}
use mathlib.Core.Path.{◌≡◌, refl, sym, ◌∙◌, ap, subst, subst₂}
use mathlib.Core.Bool.{true, cond, true≢false}
use mathlib.Core.Logic.{◌≢◌, ◌⊎◌, inl, inr, ⊎_elim}
use mathlib.Core.List.{List, [], ◌∷◌, ◌++◌, append_assoc, Memᴰ}
use native.Mathlib.Decide.{ℕ_discrete}
use native.Mathlib.Nat.{le_trans, le_of_eq, lt_of_le_of_lt, not-suc-le-zero, le_of_suc-le-suc}
use native.Mathlib.Omega.{arith}
use borrow.Author.Tests.{eqb-true, eq-eqb}
use lib.Dec.{eqb}
use lib.ListN.{length, get_or, set, length-append, length-set, get_or-append}
use lib.Seq.{get_or-set_same, get_or-set_other, get_or-append_seam}
use Rattle.laws.proofs.Tests.{bool_ind}
use Rattle.search_theory.specs.Search.{Problem, St, first, extend}
use Rattle.search_theory.specs.Statements.{after, Legal, Steady, Link, Traced, walk}
use Rattle.search_theory.proofs.Sound.{legal_first}
use Rattle.search_theory.proofs.Sets.{longer}

module _ (P : Problem) where
  open P use {Step, size}

  -- the start state alone needs no pointer
  pub traced_begin : (par : ℕ → ℕ) (via : ℕ → Step) (d : St P) → Traced P 0 (first P ∷ []) par via d
  traced_begin par via d = record { root = refl; links = λ j h. inl (omega arith) }

  -- from one level to a later one
  pub traced_on : {i i' : ℕ} {l : List (St P)} {par : ℕ → ℕ} {via : ℕ → Step} {d : St P} → i ≤ i' → Traced P i l par via d → Traced P i' l par via d
  traced_on h t =
      record { root = t.root; links = λ j k. ⊎_elim inl (λ v. inr (record { inside = v.inside; early = le_trans v.early h; smaller = v.smaller; steps_are = v.steps_are })) (t.links j k) }

  -- the walk back from place j gives its state's steps, where it may take as many steps as the state's size
  pub walk_steps : (i : ℕ) (l : List (St P)) (par : ℕ → ℕ) (via : ℕ → Step) (d : St P) → Traced P i l par via d
      → (f j : ℕ) → j < length l → size (get_or l j d).key ≤ f → (acc : List Step) → walk par via f j acc ≡ (get_or l j d).steps ++ acc
  unfolding walk first
  walk_steps i l par via d t zero j h k acc =
      ⊎_elim (λ z. ap (λ (s : St P). s.steps ++ acc) (sym (ap (λ x. get_or l x d) z ∙ t.root)))
      (λ v. absurd (not-suc-le-zero (le_trans v.smaller k))) (t.links j h)
  walk_steps i l par via d t (suc f) j h k acc =
      bool_ind (eqb j 0) (λ c. cond c acc (walk par via f (par j) (via j ∷ acc)) ≡ (get_or l j d).steps ++ acc)
      (λ z. ap (λ (s : St P). s.steps ++ acc) (sym (ap (λ x. get_or l x d) (eqb-true j 0 z) ∙ t.root)))
      (λ z. ⊎_elim (λ y. absurd (true≢false (sym (eq-eqb j 0 y) ∙ z)))
      (λ v. walk_steps i l par via d t f (par j) v.inside (le_of_suc-le-suc (le_trans v.smaller k)) (via j ∷ acc)
      ∙ sym (append_assoc (get_or l (par j) d).steps (via j ∷ []) acc) ∙ ap (λ r. r ++ acc) (sym v.steps_are))
      (t.links j h))

module _ (P : Problem) (S : Steady P) where
  open P use {Step, start, options, may, next, size}

  module _ (i : ℕ) (l l' : List (St P)) (par par' : ℕ → ℕ) (via via' : ℕ → Step) (d : St P) (t : Traced P i l par via d)
      (b : ℕ) (p : Step) (m : ℕ) (hb : b < length l) (zb : size (get_or l b d).key ≡ i)
      (par-m : par' m ≡ b) (via_m : via' m ≡ p) (par-o : (j : ℕ) → j ≢ m → par' j ≡ par j) (via-o : (j : ℕ) → j ≢ m → via' j ≡ via j) where
    traced_put : i < size (extend P (get_or l b d) p).key
        → length l ≤ length l' → ((j : ℕ) → j < length l' → j ≢ m → j < length l) → ((j : ℕ) → j < length l → j ≢ m → get_or l' j d ≡ get_or l j d)
        → get_or l' m d ≡ extend P (get_or l b d) p
        → m ≢ 0 → ((x : ℕ) → x < length l → size (get_or l x d).key ≤ i → x ≢ m) → Traced P i l' par' via' d
    unfolding extend
    traced_put up len only eq new m0 free =
        record { root = eq 0 (lt_of_le_of_lt zero-le hb) (λ z. m0 (sym z)) ∙ t.root; links = λ j h. link j h (ℕ_discrete j m) }
      where
        at_b : get_or l' b d ≡ get_or l b d
        at_b = eq b hb (free b hb (le_of_eq zb))

        fresh : Link P i l' b p m d
        fresh =
            let x : size (get_or l' b d).key ≡ i = ap (λ (s : St P). size s.key) at_b ∙ zb in
            let y : size (get_or l' m d).key ≡ size (extend P (get_or l b d) p).key = ap (λ (s : St P). size s.key) new in
            record { inside = le_trans hb len; early = le_of_eq x; smaller = omega arith; steps_are = ap (λ (s : St P). s.steps) new ∙ ap (λ (s : St P). s.steps ++ (p ∷ [])) (sym at_b) }

        carry : (j x : ℕ) (w : Step) → get_or l' j d ≡ get_or l j d → Link P i l x w j d → Link P i l' x w j d
        carry j x w ej v =
            let ex : get_or l' x d ≡ get_or l x d = eq x v.inside (free x v.inside v.early) in
            let zx : size (get_or l' x d).key ≡ size (get_or l x d).key = ap (λ (s : St P). size s.key) ex in
            let zj : size (get_or l' j d).key ≡ size (get_or l j d).key = ap (λ (s : St P). size s.key) ej in
            let ve : size (get_or l x d).key ≤ i = v.early in
            let vs : size (get_or l x d).key < size (get_or l j d).key = v.smaller in
            record { inside = le_trans v.inside len; early = omega arith; smaller = omega arith; steps_are = ap (λ (s : St P). s.steps) ej ∙ v.steps_are ∙ ap (λ (s : St P). s.steps ++ (w ∷ [])) (sym ex) }

        link : (j : ℕ) → j < length l' → Dec (j ≡ m) → (j ≡ 0) ⊎ Link P i l' (par' j) (via' j) j d
        link j h (yes y) =
            inr (subst (λ (k : ℕ). Link P i l' (par' k) (via' k) k d) (sym y)
            (subst₂ (λ (x : ℕ) (w : Step). Link P i l' x w m d) (sym par-m) (sym via_m) fresh))
        link j h (no y) =
            ⊎_elim inl
            (λ v. inr (subst₂ (λ (x : ℕ) (w : Step). Link P i l' x w j d) (sym (par-o j y)) (sym (via-o j y))
            (carry j (par j) (via j) (eq j (only j h y) y) v)))
            (t.links j (only j h y))

  -- an extension is larger than the state at the root, and than all of at most the size i
  above : (i : ℕ) (q : St P) → Legal P q → size q.key ≡ i → (p : Step) → Memᴰ p options → may q.key p ≡ true
      → (i < size (extend P q p).key) × (size (first P).key ≤ i)
  unfolding extend first
  above i q g z p o y =
      let h : size q.key < size (next q.key p) = S.grows q g p o y in
      let k : length q.steps + size start ≤ size (after P start q.steps) = longer P S q.steps (first P) (legal_first P) g.allowed in
      let e : size q.key ≡ size (after P start q.steps) = ap size g.key_is in
      (omega arith, omega arith)

  module _ (i : ℕ) (l : List (St P)) (par par' : ℕ → ℕ) (via via' : ℕ → Step) (d : St P) (t : Traced P i l par via d)
      (b : ℕ) (p : Step) (m : ℕ) (hb : b < length l) (zb : size (get_or l b d).key ≡ i)
      (par-m : par' m ≡ b) (via_m : via' m ≡ p) (par-o : (j : ℕ) → j ≢ m → par' j ≡ par j) (via-o : (j : ℕ) → j ≢ m → via' j ≡ via j)
      (g : Legal P (get_or l b d)) (o : Memᴰ p options) (y : may (get_or l b d).key p ≡ true) where
    -- a better state in the place of an equal one
    pub traced_set : m < length l → (get_or l m d).key ≡ (extend P (get_or l b d) p).key → Traced P i (set l m (extend P (get_or l b d) p)) par' via' d
    traced_set hm em =
        let a = above i (get_or l b d) g zb p o y in
        let up : i < size (extend P (get_or l b d) p).key = a.0 in
        let low : size (first P).key ≤ i = a.1 in
        let zm : size (get_or l m d).key ≡ size (extend P (get_or l b d) p).key = ap size em in
        let zr : size (get_or l 0 d).key ≡ size (first P).key = ap (λ (s : St P). size s.key) t.root in
        traced_put i l (set l m (extend P (get_or l b d) p)) par par' via via' d t b p m hb zb par-m via_m par-o via-o up
        (le_of_eq (sym (length-set l m _))) (λ j h _. le_trans h (le_of_eq (length-set l m _))) (λ j h k. get_or-set_other l m j _ d k)
        (get_or-set_same l m _ d hm)
        (λ z. let w : size (get_or l m d).key ≡ size (get_or l 0 d).key = ap (λ (x : ℕ). size (get_or l x d).key) z in omega arith)
        (λ x h k z. let w : size (get_or l x d).key ≡ size (get_or l m d).key = ap (λ (x : ℕ). size (get_or l x d).key) z in omega arith)

    -- a new one at the end
    pub traced_append : m ≡ length l → Traced P i (l ++ (extend P (get_or l b d) p ∷ [])) par' via' d
    traced_append e =
        let len : length (l ++ (extend P (get_or l b d) p ∷ [])) ≡ length l + 1 = length-append l (extend P (get_or l b d) p ∷ []) in
        let new : get_or (l ++ (extend P (get_or l b d) p ∷ [])) m d ≡ extend P (get_or l b d) p = ap (λ (x : ℕ). get_or (l ++ (extend P (get_or l b d) p ∷ [])) x d) e ∙ get_or-append_seam l (extend P (get_or l b d) p) [] d in
        traced_put i l (l ++ (extend P (get_or l b d) p ∷ [])) par par' via via' d t b p m hb zb par-m via_m par-o via-o (above i (get_or l b d) g zb p o y).0
        (omega arith) (λ j h k. omega arith) (λ j h k. get_or-append l _ d j h)
        new (λ z. omega arith) (λ x h k z. omega arith)
