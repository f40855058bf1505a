-- A store of `cap` places is full when a new key comes, at some point of the search, exactly if the search has more than `cap` states. Any beam, no law.
use Prim.Native.Nat.{ℕ, zero, suc, ◌<◌, ◌≤◌}
use mathlib.Core.Path.{◌≡◌, refl, sym, ◌∙◌, ap}
use mathlib.Core.Bool.{true, false, cond, true≢false, false≢true}
use mathlib.Core.List.{List, [], ◌∷◌}
use mathlib.Core.Option.{Option, none, some, bind}
use native.Mathlib.Nat.{le_trans, le_of_eq}
use native.Mathlib.Omega.{arith}
use borrow.Author.Tests.{leb-true, leb-false, ltb-true, ltb-false, le-leb, lt-leb}
use lib.Dec.{eqb, leb, ltb}
use lib.ListN.{length}
use Rattle.laws.proofs.Tests.{if_ind, bool_ind, by_test}
use Rattle.search_theory.specs.Search.{Problem, St, first, extend, add, set_of, upto, run}
use Rattle.search_theory.specs.Loops.{grow, visit, sweep}
use Rattle.search_theory.specs.Statements.{known, put, grow_in, visit_in, sweep_in, upto_in}
use Rattle.search_theory.proofs.Loops.{upto_sweep}
use Rattle.search_theory.proofs.Longer.{grow_longer, sweep_longer}

-- the list if the store holds it
fits : {A : Type 0} → ℕ → List A → Option (List A)
fits cap l = cond (leb (length l) cap) (some l) none

fits_yes : {A : Type 0} (cap : ℕ) (l : List A) → length l ≤ cap → fits cap l ≡ some l
unfolding fits
fits_yes cap l h = rw (le-leb (length l) cap h)

fits_no : {A : Type 0} (cap : ℕ) (l : List A) → cap < length l → fits cap l ≡ none
unfolding fits
fits_no cap l h = rw (lt-leb (length l) cap h)

-- one stage after another
bind_fits : {A : Type 0} (cap : ℕ) (f : List A → Option (List A)) (g : List A → List A) → ((l : List A) → length l ≤ length (g l))
    → ((l : List A) → length l ≤ cap → f l ≡ fits cap (g l)) → (l : List A) → bind (fits cap l) f ≡ fits cap (g l)
unfolding bind
bind_fits cap f g longer is l =
    by_test (leb (length l) cap)
    (λ e. ap (λ o. bind o f) (fits_yes cap l (leb-true _ _ e)) ∙ is l (leb-true _ _ e))
    (λ e. ap (λ o. bind o f) (fits_no cap l (leb-false _ _ e)) ∙ sym (fits_no cap (g l) (le_trans (leb-false _ _ e) (longer l))))

module _ (P : Problem) where
  open P use {Step, same, options, may, size, n, better, in_beam}

  -- a known key takes no place more
  pub known_same : (s : St P) (l : List (St P)) → known P s.key l ≡ true → length (add P s l) ≡ length l
  unfolding known add
  known_same s [] e = absurd (false≢true e)
  known_same s (t ∷ l) e =
      bool_ind (same t.key s.key) (λ c. cond c true (known P s.key l) ≡ true → length (cond c (cond (better s t) s t ∷ l) (t ∷ add P s l)) ≡ suc (length l))
      (λ _ _. refl) (λ _ h. ap suc (known_same s l h)) e

  -- a new one takes one
  pub unknown_more : (s : St P) (l : List (St P)) → known P s.key l ≡ false → length (add P s l) ≡ suc (length l)
  unfolding known add
  unknown_more s [] e = refl
  unknown_more s (t ∷ l) e =
      bool_ind (same t.key s.key) (λ c. cond c true (known P s.key l) ≡ false → length (cond c (cond (better s t) s t ∷ l) (t ∷ add P s l)) ≡ suc (suc (length l)))
      (λ _ h. absurd (true≢false h)) (λ _ h. ap suc (unknown_more s l h)) e

  -- each stage with a store is the stage without, if the store holds what comes of it
  put_fits : (cap : ℕ) (s : St P) (l : List (St P)) → length l ≤ cap → put P cap s l ≡ fits cap (add P s l)
  unfolding put
  put_fits cap s l h =
      if_ind (known P s.key l) (λ (r : Option (List (St P))). r ≡ fits cap (add P s l))
      (λ e. sym (fits_yes cap (add P s l) (le_trans (le_of_eq (known_same s l e)) h)))
      (λ e. if_ind (ltb (length l) cap) (λ (r : Option (List (St P))). r ≡ fits cap (add P s l))
      (λ b. sym (fits_yes cap (add P s l) (omega (arith, unknown_more s l e, ltb-true (length l) cap b))))
      (λ b. sym (fits_no cap (add P s l) (omega (arith, unknown_more s l e, ltb-false (length l) cap b)))))

  grow_in_fits : (cap : ℕ) (q : St P) (ps : List Step) (l : List (St P)) → length l ≤ cap → grow_in P cap q ps l ≡ fits cap (grow P q ps l)
  unfolding grow_in grow
  grow_in_fits cap q [] l h = sym (fits_yes cap l h)
  grow_in_fits cap q (p ∷ ps) l h =
      ap (λ o. bind o (grow_in P cap q ps))
      (bool_ind (may q.key p) (λ c. cond c (put P cap (extend P q p) l) (some l) ≡ fits cap (cond c (add P (extend P q p) l) l)) (λ _. put_fits cap (extend P q p) l h) (λ _. sym (fits_yes cap l h)))
      ∙ bind_fits cap (grow_in P cap q ps) (grow P q ps) (grow_longer P q ps) (grow_in_fits cap q ps) (cond (may q.key p) (add P (extend P q p) l) l)

  visit_in_fits : (cap i : ℕ) (set : List (St P)) (q : St P) (l : List (St P)) → length l ≤ cap → visit_in P cap i set q l ≡ fits cap (visit P i set q l)
  unfolding visit_in visit
  visit_in_fits cap i set q l h =
      bool_ind (eqb (size q.key) i) (λ c. cond c (cond (in_beam set q) (grow_in P cap q options l) (some l)) (some l) ≡ fits cap (cond c (cond (in_beam set q) (grow P q options l) l) l))
      (λ _. bool_ind (in_beam set q) (λ c. cond c (grow_in P cap q options l) (some l) ≡ fits cap (cond c (grow P q options l) l)) (λ _. grow_in_fits cap q options l h) (λ _. sym (fits_yes cap l h)))
      (λ _. sym (fits_yes cap l h))

  sweep_in_fits : (cap i : ℕ) (set qs : List (St P)) (l : List (St P)) → length l ≤ cap → sweep_in P cap i set qs l ≡ fits cap (sweep P i set qs l)
  unfolding sweep_in sweep
  sweep_in_fits cap i set [] l h = sym (fits_yes cap l h)
  sweep_in_fits cap i set (q ∷ qs) l h =
      ap (λ o. bind o (sweep_in P cap i set qs)) (visit_in_fits cap i set q l h)
      ∙ bind_fits cap (sweep_in P cap i set qs) (sweep P i set qs) (sweep_longer P i set qs) (sweep_in_fits cap i set qs) (visit P i set q l)

  upto_in_fits : (cap i : ℕ) → 1 ≤ cap → upto_in P cap i ≡ fits cap (upto P i)
  unfolding upto_in upto
  upto_in_fits cap zero h = sym (fits_yes cap (first P ∷ []) h)
  upto_in_fits cap (suc i) h =
      ap (λ o. bind o (λ l. sweep_in P cap i (set_of P i l) l l)) (upto_in_fits cap i h)
      ∙ bind_fits cap (λ l. sweep_in P cap i (set_of P i l) l l) (λ l. sweep P i (set_of P i l) l l) (λ l. sweep_longer P i (set_of P i l) l l) (λ l. sweep_in_fits cap i (set_of P i l) l l) (upto P i)
      ∙ ap (fits cap) (upto_sweep P i)

  -- the store is never full when a new key comes, if it holds the states of the search
  pub roomy : (cap : ℕ) → 1 ≤ cap → length (run P) ≤ cap → upto_in P cap n ≡ some (run P)
  unfolding run
  roomy cap h k = upto_in_fits cap n h ∙ fits_yes cap (upto P n) k

  -- and it is full when some new key comes, if it does not
  pub full : (cap : ℕ) → 1 ≤ cap → cap < length (run P) → upto_in P cap n ≡ none
  unfolding run
  full cap h k = upto_in_fits cap n h ∙ fits_no cap (upto P n) k
