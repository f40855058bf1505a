-- The search over an array: what a loop over places and options does to the list is what the definitions do. Any beam.
-- `d` is a state or a step that nothing depends on: what `get_or` gives past the end.
use Prim.Native.Nat.{ℕ, zero, suc, ◌+◌, ◌<◌, ◌≤◌, zero-le, suc-le-suc}
use mathlib.Core.Path.{◌≡◌, refl, sym, ◌∙◌, ap, subst, subst₂}
use mathlib.Core.Bool.{Bool, true, false, cond}
use mathlib.Core.List.{List, [], ◌∷◌, ◌++◌, Memᴰ}
use mathlib.Core.Option.{Option}
use native.Mathlib.Decide.{ℕ_discrete}
use native.Mathlib.Nat.{le_trans, le_of_eq, le_of_suc-le-suc, not-suc-le-zero, lt_of_le_of_lt}
use native.Mathlib.Omega.{arith}
use borrow.Author.Tests.{eqb-true, eq-eqb}
use lib.Dec.{eqb}
use lib.IntN.{ℤ}
use lib.ListN.{length, get_or, set, drop, drop_of_length-le, length-append, length-set, get_or-append}
use lib.Seq.{drop-cons, get_or-set_same, get_or-set_other, get_or-append_seam}
use Rattle.laws.proofs.Tests.{if_ind, by_test, ap_cond}
use Rattle.laws.proofs.Lists.{get_d_mem}
use Rattle.search_theory.specs.Search.{Hypothesis, Problem, wins, St, extend, add, set_of, upto, run}
use Rattle.search_theory.specs.Loops.{grow, visit, sweep, closing, pick}
use Rattle.search_theory.specs.Statements.{Legal, Steady, Kept, InLevel, InGrow, Agree}
use Rattle.search_theory.proofs.Add.{kept_add}
use Rattle.search_theory.proofs.Loops.{upto_sweep}
use Rattle.search_theory.proofs.Sound.{upto_legal}
use Rattle.search_theory.proofs.Longer.{no_longer}

-- ---- an array of a fixed length that holds the list in its first places
module _ {A B : Type 0} (ok : A → B → Type 0) (r : A) (d : B) where
  -- another state at a place of the list
  pub agree_set : (arr : List A) (l : List B) (m : ℕ) (v : A) (s : B) → m < length l → ok v s → Agree ok r d arr l → Agree ok r d (set arr m v) (set l m s)
  agree_set arr l m v s h k g =
      record {
        room = subst₂ (λ (x y : ℕ). x ≤ y) (sym (length-set l m s)) (sym (length-set arr m v)) g.room;
        each = λ j i. at j (subst (λ (x : ℕ). j < x) (length-set l m s) i) (ℕ_discrete j m);
      }
    where
      at : (j : ℕ) → j < length l → Dec (j ≡ m) → ok (get_or (set arr m v) j r) (get_or (set l m s) j d)
      at j i (yes e) =
          subst (λ (x : ℕ). ok (get_or (set arr m v) x r) (get_or (set l m s) x d)) (sym e)
          (subst₂ ok (sym (get_or-set_same arr m v r (le_trans h g.room))) (sym (get_or-set_same l m s d h)) k)
      at j i (no e) = subst₂ ok (sym (get_or-set_other arr m j v r e)) (sym (get_or-set_other l m j s d e)) (g.each j i)

  -- one state more
  pub agree_append : (arr : List A) (l : List B) (v : A) (s : B) → length l < length arr → ok v s → Agree ok r d arr l → Agree ok r d (set arr (length l) v) (l ++ (s ∷ []))
  agree_append arr l v s h k g =
      let len : length (l ++ (s ∷ [])) ≡ length l + 1 = length-append l (s ∷ []) in
      let ler : length (set arr (length l) v) ≡ length arr = length-set arr (length l) v in
      record { room = omega arith; each = λ j i. at j (omega arith) (ℕ_discrete j (length l)) }
    where
      at : (j : ℕ) → j < length l + 1 → Dec (j ≡ length l) → ok (get_or (set arr (length l) v) j r) (get_or (l ++ (s ∷ [])) j d)
      at j i (yes e) =
          subst (λ (x : ℕ). ok (get_or (set arr (length l) v) x r) (get_or (l ++ (s ∷ [])) x d)) (sym e)
          (subst₂ ok (sym (get_or-set_same arr (length l) v r h)) (sym (get_or-append_seam l s [] d)) k)
      at j i (no e) =
          let lt : j < length l = omega arith in
          subst₂ ok (sym (get_or-set_other arr (length l) j v r e)) (sym (get_or-append l (s ∷ []) d j lt)) (g.each j lt)

-- ---- the answer, picked over the places of a list: at k, and at the end
module _ {Key Step : Type 0} (size : Key → ℕ) (n : ℕ) (close : Key → ℤ) (better : Hypothesis Key Step → Hypothesis Key Step → Bool) where
  -- the turn at place k
  pub pick_at : (b : Option (Hypothesis Key Step)) (l : List (Hypothesis Key Step)) (k : ℕ) (d : Hypothesis Key Step) → k < length l
      → pick size n close better b (drop k l) ≡ pick size n close better (cond (eqb (size (get_or l k d).key) n) (wins better b (closing close (get_or l k d))) b) (drop (suc k) l)
  unfolding pick
  pick_at b l k d h = ap (pick size n close better b) (drop-cons l k d h)

  -- no place is left
  pub pick_end : (b : Option (Hypothesis Key Step)) (l : List (Hypothesis Key Step)) (k : ℕ) → length l ≤ k → pick size n close better b (drop k l) ≡ b
  unfolding pick
  pick_end b l k h = ap (pick size n close better b) (drop_of_length-le l h)

module _ (P : Problem) where
  open P use {Step, same, options, may, size, n, better, in_beam}

  -- ---- Add: the search for an equal key stops at place j, or at the end
  pub add_hit : (s d : St P) (l : List (St P)) (j : ℕ) → j < length l → ((m : ℕ) → m < j → same (get_or l m d).key s.key ≡ false)
      → same (get_or l j d).key s.key ≡ true → add P s l ≡ cond (better s (get_or l j d)) (set l j s) l
  unfolding add
  add_hit s d [] j h a e = absurd (not-suc-le-zero h)
  add_hit s d (t ∷ l) zero h a e = rw e (ap_cond (λ (x : St P). x ∷ l) (better s t) s t)
  add_hit s d (t ∷ l) (suc j) h a e =
      rw (a 0 (suc-le-suc zero-le)) (ap (λ r. t ∷ r) (add_hit s d l j (le_of_suc-le-suc h) (λ m k. a (suc m) (suc-le-suc k)) e)
      ∙ ap_cond (λ (r : List (St P)). t ∷ r) (better s (get_or l j d)) (set l j s) l)

  -- no equal key: the state is entered behind the others
  pub add_miss : (s d : St P) (l : List (St P)) → ((m : ℕ) → m < length l → same (get_or l m d).key s.key ≡ false) → add P s l ≡ l ++ (s ∷ [])
  unfolding add
  add_miss s d [] a = refl
  add_miss s d (t ∷ l) a = rw (a 0 (suc-le-suc zero-le)) (ap (λ r. t ∷ r) (add_miss s d l (λ m k. a (suc m) (suc-le-suc k))))

  -- ---- the list still has what the level began with
  pub kept_refl : (i : ℕ) (l : List (St P)) → Kept P i l l
  kept_refl i [] = tt
  kept_refl i (t ∷ l) = (refl, λ _. refl, kept_refl i l)

  -- so the list is at least as long
  pub kept_long : (i : ℕ) (base l : List (St P)) → Kept P i base l → length base ≤ length l
  kept_long i [] l k = zero-le
  kept_long i (b ∷ base) [] k = absurd k
  kept_long i (b ∷ base) (t ∷ l) k = suc-le-suc (kept_long i base l k.2)

  -- at each place of the start the key is the same, and the state where the size is at most i
  pub kept_at : (i : ℕ) (base l : List (St P)) → Kept P i base l → (j : ℕ) (d : St P) → j < length base
      → ((get_or l j d).key ≡ (get_or base j d).key) × (size (get_or base j d).key ≤ i → get_or l j d ≡ get_or base j d)
  kept_at i [] l k j d h = absurd (not-suc-le-zero h)
  kept_at i (b ∷ base) [] k j d h = absurd k
  kept_at i (b ∷ base) (t ∷ l) k zero d h = (k.0, k.1)
  kept_at i (b ∷ base) (t ∷ l) k (suc j) d h = kept_at i base l k.2 j d (le_of_suc-le-suc h)

  -- ---- the loop over the options, at o and at the end
  grow_at : (q : St P) (d : Step) (l : List (St P)) (o : ℕ) → o < length options
      → grow P q (drop o options) l ≡ grow P q (drop (suc o) options) (cond (may q.key (get_or options o d)) (add P (extend P q (get_or options o d)) l) l)
  unfolding grow
  grow_at q d l o h = ap (λ (ps : List Step). grow P q ps l) (drop-cons options o d h)

  grow_end : (q : St P) (l : List (St P)) (o : ℕ) → length options ≤ o → grow P q (drop o options) l ≡ l
  unfolding grow
  grow_end q l o h = ap (λ (ps : List Step). grow P q ps l) (drop_of_length-le options h)

  -- ---- the loop over the places of the level's start, at j and at the end: the array may be read as it is now
  visit_same : (i : ℕ) (set : List (St P)) (u b : St P) (l : List (St P)) → u.key ≡ b.key → (size b.key ≤ i → u ≡ b) → visit P i set b l ≡ visit P i set u l
  unfolding visit
  visit_same i set u b l k f =
      by_test (eqb (size b.key) i) (λ e. ap (λ (x : St P). visit P i set x l) (sym (f (le_of_eq (eqb-true _ _ e))))) (λ e. rw (k, e))

  sweep_at : (i : ℕ) (set base l : List (St P)) (j : ℕ) (d : St P) → j < length base → Kept P i base l
      → sweep P i set (drop j base) l ≡ sweep P i set (drop (suc j) base) (visit P i set (get_or l j d) l)
  unfolding sweep
  sweep_at i set base l j d h k =
      ap (λ (qs : List (St P)). sweep P i set qs l) (drop-cons base j d h)
      ∙ ap (sweep P i set (drop (suc j) base)) (visit_same i set (get_or l j d) (get_or base j d) l (kept_at i base l k j d h).0 (kept_at i base l k j d h).1)

  sweep_end : (i : ℕ) (set base l : List (St P)) (j : ℕ) → length base ≤ j → sweep P i set (drop j base) l ≡ l
  unfolding sweep
  sweep_end i set base l j h = ap (λ (qs : List (St P)). sweep P i set qs l) (drop_of_length-le base h)

  -- a state of another set, or that the beam drops, is passed over
  pub visit_other : (i : ℕ) (set : List (St P)) (q : St P) (l : List (St P)) → eqb (size q.key) i ≡ false → visit P i set q l ≡ l
  unfolding visit
  visit_other i set q l e = rw e

  -- a state that the beam drops
  pub visit_drop : (i : ℕ) (set : List (St P)) (q : St P) (l : List (St P)) → in_beam set q ≡ false → visit P i set q l ≡ l
  unfolding visit
  visit_drop i set q l e = if_ind (eqb (size q.key) i) (λ (r : List (St P)). r ≡ l) (λ _. rw e) (λ _. refl)

  visit_grow : (i : ℕ) (set : List (St P)) (q : St P) (l : List (St P)) → size q.key ≡ i → in_beam set q ≡ true → visit P i set q l ≡ grow P q options l
  unfolding visit
  visit_grow i set q l z k = rw (eq-eqb _ _ z, k)

  -- ---- the turns of a level; all of them speak of the list as level i begins, `upto P i`
  module _ (i : ℕ) where
    -- the rest of the level, from place j on
    abbrev Rest : ℕ → List (St P) → List (St P)
    Rest j = sweep P i (set_of P i (upto P i)) (drop j (upto P i))

    -- before the first place
    pub level_begin : InLevel P i 0 (upto P i)
    level_begin = record { rest = upto_sweep P i; kept = kept_refl i (upto P i) }

    -- after the last place the list is that of the next level
    pub level_end : (j : ℕ) (l : List (St P)) → length (upto P i) ≤ j → InLevel P i j l → l ≡ upto P (suc i)
    level_end j l h v = sym (sweep_end i (set_of P i (upto P i)) (upto P i) l j h) ∙ v.rest

    -- what visiting the state at place j makes of the list
    next_place : (j : ℕ) (l r : List (St P)) (d : St P) → j < length (upto P i) → visit P i (set_of P i (upto P i)) (get_or l j d) l ≡ r → InLevel P i j l → Rest (suc j) r ≡ upto P (suc i)
    next_place j l r d h e v = ap (Rest (suc j)) (sym e) ∙ sym (sweep_at i (set_of P i (upto P i)) (upto P i) l j d h v.kept) ∙ v.rest

    -- the state at place j is passed over
    pub level_skip : (j : ℕ) (l : List (St P)) (d : St P) → j < length (upto P i) → visit P i (set_of P i (upto P i)) (get_or l j d) l ≡ l → InLevel P i j l → InLevel P i (suc j) l
    level_skip j l d h e v = record { rest = next_place j l l d h e v; kept = v.kept }

    -- the state at place j is extended
    pub grow_begin : (j : ℕ) (l : List (St P)) (d : St P) → j < length (upto P i) → size (get_or l j d).key ≡ i → in_beam (set_of P i (upto P i)) (get_or l j d) ≡ true
        → InLevel P i j l → InGrow P i j (get_or l j d) 0 l
    grow_begin j l d h z k v = record { rest = next_place j l (grow P (get_or l j d) options l) d h (visit_grow i (set_of P i (upto P i)) (get_or l j d) l z k) v; kept = v.kept }

    -- it is one of the level's start, so it is legal
    pub grown_legal : (j : ℕ) (l : List (St P)) (d : St P) → j < length (upto P i) → size (get_or l j d).key ≡ i → InLevel P i j l → Legal P (get_or l j d)
    grown_legal j l d h z v =
        let k = kept_at i (upto P i) l v.kept j d h in
        subst (Legal P) (sym (k.1 (le_of_eq (ap size (sym k.0) ∙ z)))) (upto_legal P i _ (get_d_mem (upto P i) j d h))

    -- after the last option
    pub grow_done : (j : ℕ) (q : St P) (o : ℕ) (l : List (St P)) → length options ≤ o → InGrow P i j q o l → InLevel P i (suc j) l
    grow_done j q o l h v = record { rest = ap (Rest (suc j)) (sym (grow_end q l o h)) ∙ v.rest; kept = v.kept }

    -- an option that may not be taken
    pub option_skip : (j : ℕ) (q : St P) (o : ℕ) (d : Step) (l : List (St P)) → o < length options → may q.key (get_or options o d) ≡ false
        → InGrow P i j q o l → InGrow P i j q (suc o) l
    option_skip j q o d l h f v = record { rest = ap (Rest (suc j)) (sym (grow_at q d l o h ∙ rw f)) ∙ v.rest; kept = v.kept }

    -- an option that may be taken: `rest` alone, for `overflow`
    pub option_rest : (j : ℕ) (q : St P) (o : ℕ) (d : Step) (l : List (St P)) → o < length options → may q.key (get_or options o d) ≡ true
        → InGrow P i j q o l → Rest (suc j) (grow P q (drop (suc o) options) (add P (extend P q (get_or options o d)) l)) ≡ upto P (suc i)
    option_rest j q o d l h y v = ap (Rest (suc j)) (sym (grow_at q d l o h ∙ rw y)) ∙ v.rest

    -- the store is too small: a state with a new key, and no place left
    pub overflow : (j : ℕ) (q s d : St P) (o : ℕ) (l : List (St P)) (cap : ℕ) → i < n
        → Rest (suc j) (grow P q (drop o options) (add P s l)) ≡ upto P (suc i)
        → ((m : ℕ) → m < length l → same (get_or l m d).key s.key ≡ false) → cap ≤ length l → cap < length (run P)
    overflow j q s d o l cap h e a f =
        let len : length (add P s l) ≡ length l + 1 = ap length (add_miss s d l a) ∙ length-append l (s ∷ []) in
        let big : length (add P s l) ≤ length (run P) = no_longer P i h (drop (suc j) (upto P i)) q (drop o options) (add P s l) e in
        omega arith

module _ (P : Problem) (S : Steady P) where
  open P use {Step, options, may, size}

  -- a step from set i keeps what the level began with
  pub kept_extend : (i : ℕ) (q : St P) → Legal P q → size q.key ≡ i → (p : Step) → Memᴰ p options → may q.key p ≡ true
      → (base l : List (St P)) → Kept P i base l → Kept P i base (add P (extend P q p) l)
  unfolding extend
  kept_extend i q g z p o y base l k = kept_add P S i (extend P q p) (lt_of_le_of_lt (le_of_eq (sym z)) (S.grows q g p o y)) base l k

  -- an option that may be taken
  pub option_take : (i j : ℕ) (q : St P) → Legal P q → size q.key ≡ i → (o : ℕ) (d : Step) (l : List (St P)) → o < length options → may q.key (get_or options o d) ≡ true
      → InGrow P i j q o l → InGrow P i j q (suc o) (add P (extend P q (get_or options o d)) l)
  option_take i j q g z o d l h y v =
      record { rest = option_rest P i j q o d l h y v; kept = kept_extend i q g z (get_or options o d) (get_d_mem options o d h) y (upto P i) l v.kept }
