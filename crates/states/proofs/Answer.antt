-- One turn of each loop that reads the store, and what the loops come to: the best score of a set, and the search's answer.
use mathlib.Core.Path.{◌≡◌, refl, sym, ◌∙◌, ap}
use mathlib.Core.Bool.{Bool, true, false, cond}
use mathlib.Core.List.{List, [], ◌∷◌, ◌++◌, map}
use mathlib.Core.Option.{Option as MathOption, some}
use Prim.Native.Nat.{ℕ, ◌+◌, ◌<◌, ◌≤◌}
use native.Mathlib.Numerals.{add-one}
use native.Mathlib.Omega.{arith}
use lib.Dec.{eqb}
use lib.IntN.{ℤ, pos, negsuc, ◌+ℤ◌, ◌-ℤ◌}
use lib.Signed.{le_z, lt_z}
use lib.ListN.{get_or, drop, drop_of_length-le}
use lib.Seq.{drop-cons}
use borrow.Author.Tests.{eq-eqb, ne_eqb}
use Rattle.std.specs.Prelude.{Option, Some, None, unwrap_or}
use Rattle.std.specs.Int.{int_max}
use Rattle.laws.specs.Integers.{eqℤ}
use Rattle.laws.specs.Lists.{max_from, larger}
use Rattle.laws.proofs.Linear.{signed, sum, dif}
use Rattle.laws.proofs.Tests.{by_test, ap_cond}
use Rattle.search_theory.specs.Search.{wins}
use Rattle.search_theory.specs.Loops.{pick, closing}
use Rattle.search_theory.proofs.Array.{pick_at, pick_end}
use Rattle.meaning.specs.State.{Hyp, words_covered, is_better}
use Rattle.meaning.specs.Search.{best_score}
use Rattle.store.specs.Store.{place_at}
use Rattle.store.specs.declared.Place.{Place}
use Rattle.ways.specs.Back.{nobody}
use Rattle.ways.specs.Codes.{step_of}
use Rattle.ways.specs.Ties.{Walked}
use Rattle.states.specs.Order.{Tested}
use Rattle.states.specs.Shows.{Lists}
use Rattle.states.specs.Ghost.{in_width}
use Rattle.states.specs.Answer.{sized, raised, top_from, no_close, picked, with_place}
use Rattle.states.proofs.Testing.{tested_is, places_beside}

-- ════ the best score
from_some : (i : ℕ) (t : ℤ) (l : List Hyp) → top_from i (Some t) l ≡ Some (max_from t (map (λ s. s.score) (sized i l)))
unfolding top_from raised
from_some i t [] = refl
from_some i t (q ∷ qs) =
    by_test (eqb (words_covered q.key) i)
    (λ e. rw e (from_some i (larger t q.score) qs))
    (λ e. rw e (from_some i t qs))

pub top_is : (i : ℕ) (l : List Hyp) → unwrap_or (top_from i None l) (pos 0) ≡ best_score (sized i l)
unfolding top_from raised
top_is i [] = refl
top_is i (q ∷ qs) =
    by_test (eqb (words_covered q.key) i)
    (λ e.
    let h : raised i None (words_covered q.key) q.score ≡ Some q.score = rw e in
    let m : max_from q.score (map (λ s. s.score) (sized i qs)) ≡ best_score (sized i (q ∷ qs)) = rw e in
    ap (λ (t : Option ℤ). unwrap_or (top_from i t qs) (pos 0)) h ∙ ap (λ (t : Option ℤ). unwrap_or t (pos 0)) (from_some i q.score qs) ∙ m)
    (λ e. rw e (top_is i qs))

-- the larger of two is the library's
larger_is : (a b : ℤ) → int_max a b ≡ larger a b
larger_is a b =
    by_test (lt_z a b)
    (λ t. let f : lt_z b a ≡ false = omega (arith, signed) in rw (t, f))
    (λ t. by_test (lt_z b a) (λ u. rw (t, u)) (λ u. let e : a ≡ b = omega (arith, signed) in rw (t, u) (sym e)))

-- the three answers of `raise`
module _ (i : ℕ) (t : Option ℤ) (size : ℕ) (s : ℤ) where
  pub raise_other : (size ≡ i → ⊥) → t ≡ raised i t size s
  unfolding raised
  raise_other z = rw (ne_eqb size i z)

  pub raise_first : size ≡ i → t ≡ None → Some s ≡ raised i t size s
  unfolding raised
  raise_first z a = rw (eq-eqb size i z, a)

  pub raise_best : size ≡ i → {best top : ℤ} → t ≡ Some best → top ≡ int_max best s → Some top ≡ raised i t size s
  unfolding raised
  raise_best z {best} a e = rw (eq-eqb size i z, a) (ap Some (e ∙ larger_is best s))

module _ (n : ℕ) (st : List ℤ) (count : ℕ) (l : List Hyp) (L : Lists n st count l) where
  -- the size as the store has it
  size_at : (k : ℕ) → k < count → (place_at st k).size ≡ words_covered (get_or l k nobody).key
  size_at k h = (L.each k h).size_is ∙ ap words_covered (L.each k h).key_is

  pub top_turn : (i k : ℕ) (t : Option ℤ) → k < count → top_from i (raised i t (place_at st k).size (place_at st k).state.score) (drop (k + 1) l) ≡ top_from i t (drop k l)
  unfolding top_from
  top_turn i k t h =
      rw (size_at k h, (L.each k h).score_is, add-one) (sym (ap (top_from i t) (drop-cons l k nobody (omega (arith, L.long)))))

  pub top_end : (i k : ℕ) (t : Option ℤ) → count ≤ k → top_from i t (drop k l) ≡ t
  unfolding top_from
  top_end i k t h = ap (top_from i t) (drop_of_length-le l {i = k} (omega (arith, L.long)))

-- ════ the beam's test
swap : (top s w : ℤ) → le_z (top -ℤ s) w ≡ le_z (top -ℤ w) s
swap top s w = go (le_z (top -ℤ s) w) refl
  where
    go : (b : Bool) → le_z (top -ℤ s) w ≡ b → b ≡ le_z (top -ℤ w) s
    go true e = let h : le_z (top -ℤ w) s ≡ true = omega (arith, signed, dif top s, dif top w) in sym h
    go false e = let h : le_z (top -ℤ w) s ≡ false = omega (arith, signed, dif top s, dif top w) in sym h

pub within_on : (w top s : ℤ) → eqℤ w (negsuc 0) ≡ false → le_z (top -ℤ s) w ≡ in_width w top s
within_on w top s e = swap top s w ∙ rw e

-- ════ the best state
-- a state gains nothing at the end
closing_same : (s : Hyp) → closing no_close s ≡ s
closing_same s =
    let e : s.score +ℤ pos 0 ≡ s.score = omega (arith, signed, sum s.score (pos 0)) in
    λ i. record { key = s.key; score = e i; steps = s.steps }

module _ (n : ℕ) (st : List ℤ) (count : ℕ) (l : List Hyp) (L : Lists n st count l) where
  abbrev best_of : MathOption Hyp → List Hyp → MathOption Hyp
  best_of = pick words_covered n no_close is_better

  -- the place k and the best so far: the better of two
  pub chosen_better : Walked st l → (b : Option ℕ) (j k : ℕ) (x y : Place) {r : Bool} → x ≡ place_at st k → y ≡ place_at st j → j < k → k < count
      → (place_at st k).size ≡ n → (place_at st j).size ≡ n → b ≡ Some j → Tested st x y.state j r → picked l (cond r (Some k) (Some j)) ≡ with_place n st l b k
  chosen_better W b j k x y {r} e f h c z zj q t =
      let v = W.chains.links k (omega arith) (omega (arith, L.long)) in
      let is : is_better (get_or l k nobody) (get_or l j nobody) ≡ r =
      tested_is x y.state j (places_beside W x e h (omega (arith, L.long)) (zj ∙ sym z)) t (get_or l k nobody) (get_or l j nobody)
      (ap (λ (p : Place). p.state.score) e ∙ (L.each k c).score_is) (ap (λ (p : Place). p.state.score) f ∙ (L.each j (omega arith)).score_is)
      (v.steps_are ∙ ap (λ (p : Place). (get_or l p.parent nobody).steps ++ (step_of p.step ∷ [])) (sym e)) refl in
      ap_cond (picked l) r (Some k) (Some j)
      ∙ ap (λ (d : Bool). cond d (some (get_or l k nobody)) (some (get_or l j nobody))) (sym is)
      ∙ ap (wins is_better (some (get_or l j nobody))) (sym (closing_same (get_or l k nobody)))
      ∙ rw (eq-eqb (place_at st k).size n z, q)

  pub pick_turn : (b r : Option ℕ) (k : ℕ) → k < count → picked l r ≡ with_place n st l b k → best_of (picked l r) (drop (k + 1) l) ≡ best_of (picked l b) (drop k l)
  pick_turn b r k m e =
      ap (λ (z : MathOption Hyp). best_of z (drop (k + 1) l))
      (e ∙ ap (λ (z : ℕ). cond (eqb z n) (wins is_better (picked l b) (closing no_close (get_or l k nobody))) (picked l b)) (size_at n st count l L k m))
      ∙ rw add-one (sym (pick_at words_covered n no_close is_better (picked l b) l k nobody (omega (arith, L.long))))

  pub pick_ends : (b : Option ℕ) (k : ℕ) → count ≤ k → best_of (picked l b) (drop k l) ≡ picked l b
  pick_ends b k h = pick_end words_covered n no_close is_better (picked l b) l k (omega (arith, L.long))
