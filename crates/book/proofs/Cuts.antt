-- The lines of a loaded list, cut off at its front one at a time: a line's size is seen from its own first numbers, and what is left is cut as a list of its own.
use Prim.Native.Nat.{ℕ, zero, suc, ◌+◌, ◌-◌, ◌≤◌, ◌<◌}
use native.Mathlib.Omega.{arith}
use mathlib.Core.Path.{◌≡◌, refl, sym, ◌∙◌, ap}
use mathlib.Core.Bool.{true, false, ◌&&◌, and-true}
use mathlib.Core.List.{List, [], ◌∷◌}
use borrow.Author.Tests.{eq-eqb, ne_eqb, leb-true, leb-false, le-leb, lt-leb}
use lib.Dec.{leb}
use lib.IntN.{ℤ, pos}
use lib.ListN.{length, get_or, take, drop, length-drop}
use lib.Seq.{get_or-take, get_or-drop, take_all, drop-drop, length-take-le}
use Rattle.laws.specs.Integers.{eqℤ}
use Rattle.laws.specs.Lists.{all, count, eq_list}
use Rattle.laws.proofs.Tests.{by_test, both, clash}
use Rattle.meaning.specs.Book.{in_list, number_at, is_b, is_p, is_t, size_of, is_whole, is_one_bFirst, stored_counts, is_counted, cut_lines, loaded_lines}
use Rattle.meaning.proofs.Sizes.{size_from}
use Rattle.std.proofs.Common.{Some, None}
use Rattle.std.specs.Borrow.{Bor}
use Rattle.book.specs.Loaded.{size_at}
use Rattle.book.specs.Lines.{Passes}

-- ---- the size

-- it is seen from the first three numbers
size_same : (l m : List ℤ) → number_at l 0 ≡ number_at m 0 → number_at l 1 ≡ number_at m 1 → number_at l 2 ≡ number_at m 2 → size_of in_list l ≡ size_of in_list m
unfolding size_of
size_same l m a b c = rw (a, b, c)

size_take : (n : ℕ) (l : List ℤ) → 3 ≤ n → size_of in_list (take n l) ≡ size_of in_list l
size_take n l h =
    size_same (take n l) l (get_or-take n l 0 (pos 0) (omega arith)) (get_or-take n l 1 (pos 0) (omega arith)) (get_or-take n l 2 (pos 0) (omega arith))

whole_is : (l : List ℤ) (s : ℕ) → length l ≡ suc s → size_of in_list l ≡ suc s → is_whole in_list l ≡ true
unfolding is_whole
whole_is [] s e f = absurd (omega arith)
whole_is (z ∷ l) s e f = eq-eqb (suc (length l)) (size_of in_list (z ∷ l)) (e ∙ sym f)

whole_not : (l : List ℤ) → (length l ≡ size_of in_list l → ⊥) → is_whole in_list l ≡ false
unfolding is_whole
whole_not [] h = refl
whole_not (z ∷ l) h = ne_eqb (suc (length l)) (size_of in_list (z ∷ l)) h

-- ---- the lines do not depend on the fuel, once it is enough

cut_none : (fuel : ℕ) (z : ℤ) (l : List ℤ) → size_of in_list (z ∷ l) ≡ 0 → cut_lines (suc fuel) (z ∷ l) ≡ (z ∷ l) ∷ []
unfolding cut_lines
cut_none fuel z l e = rw (e, cut_lines)

cut_some : (fuel : ℕ) (z : ℤ) (l : List ℤ) (s : ℕ) → size_of in_list (z ∷ l) ≡ suc s → cut_lines (suc fuel) (z ∷ l) ≡ (z ∷ take s l) ∷ cut_lines fuel (drop s l)
unfolding cut_lines
cut_some fuel z l s e = rw (e, cut_lines)

cut_empty : (fuel : ℕ) → cut_lines fuel [] ≡ []
unfolding cut_lines
cut_empty zero = refl
cut_empty (suc fuel) = refl

cut_same : (f g : ℕ) (l : List ℤ) → length l ≤ f → length l ≤ g → cut_lines f l ≡ cut_lines g l
cut_same zero g [] h k = cut_empty zero ∙ sym (cut_empty g)
cut_same (suc f) g [] h k = cut_empty (suc f) ∙ sym (cut_empty g)
cut_same zero g (z ∷ l) h k = absurd (omega arith)
cut_same (suc f) zero (z ∷ l) h k = absurd (omega arith)
cut_same (suc f) (suc g) (z ∷ l) h k = by (size_of in_list (z ∷ l)) refl (λ s. cut_same f g (drop s l) (rw length-drop (omega arith)) (rw length-drop (omega arith)))
  where
    by : (n : ℕ) → size_of in_list (z ∷ l) ≡ n → ((s : ℕ) → cut_lines f (drop s l) ≡ cut_lines g (drop s l)) → cut_lines (suc f) (z ∷ l) ≡ cut_lines (suc g) (z ∷ l)
    by zero e rest = cut_none f z l e ∙ sym (cut_none g z l e)
    by (suc s) e rest = cut_some f z l s e ∙ ap (λ (ls : List (List ℤ)). (z ∷ take s l) ∷ ls) (rest s) ∙ sym (cut_some g z l s e)

-- ---- the first line

pub lines_end : loaded_lines [] ≡ []
unfolding loaded_lines cut_lines
lines_end = refl

lines_none : (l : List ℤ) → 0 < length l → size_of in_list l ≡ 0 → loaded_lines l ≡ l ∷ []
unfolding loaded_lines
lines_none [] h e = absurd (omega arith)
lines_none (z ∷ l) h e = cut_none (length l) z l e

lines_some : (l : List ℤ) (s : ℕ) → 0 < length l → size_of in_list l ≡ suc s → loaded_lines l ≡ take (suc s) l ∷ loaded_lines (drop (suc s) l)
unfolding loaded_lines
lines_some [] s h e = absurd (omega arith)
lines_some (z ∷ l) s h e =
    cut_some (length l) z l s e
    ∙ ap (λ (ls : List (List ℤ)). (z ∷ take s l) ∷ ls) (cut_same (length l) (length (drop s l)) (drop s l) (rw length-drop (omega arith)) (omega arith))

-- a line that is cut off, or cannot be cut
lines_broken : (l : List ℤ) → 0 < length l → (size_of in_list l ≤ length l → size_of in_list l ≡ 0) → all (is_whole in_list) (loaded_lines l) ≡ false
lines_broken l h b = by (size_of in_list l) refl
  where
    no : is_whole in_list l ≡ false
    no = whole_not l (λ (e : length l ≡ size_of in_list l). let z : size_of in_list l ≡ 0 = b (omega arith) in omega arith)

    cut : (s : ℕ) → size_of in_list l ≡ suc s → length l ≤ suc s
    cut s e =
        by_test (leb (size_of in_list l) (length l))
        (λ t. let z : size_of in_list l ≡ 0 = b (leb-true (size_of in_list l) (length l) t) in omega arith)
        (λ f. let z = leb-false (size_of in_list l) (length l) f in omega arith)

    by : (n : ℕ) → size_of in_list l ≡ n → all (is_whole in_list) (loaded_lines l) ≡ false
    by zero e = ap (all (is_whole in_list)) (lines_none l h e) ∙ rw no
    by (suc s) e =
        ap (all (is_whole in_list)) (lines_some l s h e) ∙ (let t : take (suc s) l ≡ l = take_all (suc s) l (cut s e) in rw (t, no))

-- ---- the line that stands at a place of the list

pub record LineAt (loaded : List ℤ) (at size : ℕ) : Type 0 where
  pub inside : at + size ≤ length loaded
  pub some : 4 ≤ size
  pub size_is : size_of in_list (drop at loaded) ≡ size
  pub lines : loaded_lines (drop at loaded) ≡ take size (drop at loaded) ∷ loaded_lines (drop (at + size) loaded)
  pub whole : is_whole in_list (take size (drop at loaded)) ≡ true

pub line_at : (loaded : List ℤ) (at size : ℕ) → at < length loaded → size ≡ size_at loaded at → (size ≡ 0 → ⊥) → LineAt loaded at size
unfolding size_at
line_at loaded at zero h e n = absurd (n refl)
line_at loaded at (suc s) h e n =
    by_test (leb (size_of in_list (drop at loaded)) (length loaded - at)) yes' (λ f. absurd (n (e ∙ rw f)))
  where
    yes' : leb (size_of in_list (drop at loaded)) (length loaded - at) ≡ true → LineAt loaded at (suc s)
    yes' t =
        let size : size_of in_list (drop at loaded) ≡ suc s = sym (e ∙ rw t) in
        let fits = leb-true (size_of in_list (drop at loaded)) (length loaded - at) t in
        let long = length-drop at loaded in
        let four = size_from in_list (drop at loaded) (λ z. omega arith) in
        record {
          inside = omega arith;
          some = omega arith;
          size_is = size;
          lines = lines_some (drop at loaded) s (omega arith) size ∙ rw (drop-drop (suc s) at loaded);
          whole = whole_is (take (suc s) (drop at loaded)) s (length-take-le (suc s) (drop at loaded) (omega arith)) (size_take (suc s) (drop at loaded) (omega arith) ∙ size);
        }

pub line_broken : (loaded : List ℤ) (at : ℕ) → at < length loaded → 0 ≡ size_at loaded at → all (is_whole in_list) (loaded_lines (drop at loaded)) ≡ false
unfolding size_at
line_broken loaded at h e =
    let long = length-drop at loaded in
    lines_broken (drop at loaded) (omega arith)
    (λ (f : size_of in_list (drop at loaded) ≤ length (drop at loaded)).
    let t : leb (size_of in_list (drop at loaded)) (length loaded - at) ≡ true = le-leb (size_of in_list (drop at loaded)) (length loaded - at) (omega arith) in sym (e ∙ rw t))

-- where all lines are whole, one stands at each place of a walk
pub line_here : (loaded : List ℤ) (at size : ℕ) → all (is_whole in_list) (loaded_lines (drop at loaded)) ≡ true → at < length loaded → size ≡ size_at loaded at → LineAt loaded at size
line_here loaded at zero w h e = clash w (line_broken loaded at h e)
line_here loaded at (suc size) w h e = line_at loaded at (suc size) h e (omega arith)

-- ---- a step of the walk over the lines

-- a line that was passed stands there whole
pub passed_line : {list loaded : List ℤ} {at next : ℕ} (place : ℕ) (line : Bor (List ℤ)) → list ≡ loaded → Passes list at (Some (place, line)) next
    → LineAt loaded at (size_at loaded at) × (place ≡ at) × (line.now ≡ take (size_at loaded at) (drop at loaded)) × (next ≡ at + size_at loaded at)
unfolding size_at
passed_line {list} {loaded} {at} place line e p =
    let q = rw e at p in
    (line_at loaded at (size_at loaded at) (by_test (leb (size_of in_list (drop at loaded)) (length loaded - at)) (λ t. let z = leb-true _ _ t in let h = rw t at q.0 in omega arith) (λ f. absurd (let h = rw f at q.0 in omega arith))) refl (λ z. let h = q.0 in omega arith), q.1, q.2, q.3)

-- where all lines are whole, the walk ends behind the last
pub passed_all : {list loaded : List ℤ} {at next : ℕ} → list ≡ loaded → Passes list at None next → all (is_whole in_list) (loaded_lines (drop at loaded)) ≡ true → length loaded ≤ at
passed_all {list} {loaded} {at} e p w =
    by_test (leb (length loaded) at) (leb-true (length loaded) at)
    (λ f. absurd (let l = line_here loaded at (size_at loaded at) w (leb-false (length loaded) at f) refl in omega (arith, l.some, rw e at p.0)))

-- ---- its numbers, read in the list

pub line_number : (loaded : List ℤ) (at size i : ℕ) → i < size → number_at (take size (drop at loaded)) i ≡ number_at loaded (at + i)
line_number loaded at size i h = get_or-take size (drop at loaded) i (pos 0) h ∙ get_or-drop at loaded i (pos 0)

pub line_long : (loaded : List ℤ) (at size : ℕ) → LineAt loaded at size → length (take size (drop at loaded)) ≡ size
line_long loaded at size l = length-take-le size (drop at loaded) (let h = l.inside in let d = length-drop at loaded in omega arith)

pub kind_same : (loaded : List ℤ) (at size : ℕ) → LineAt loaded at size → is_p (take size (drop at loaded)) ≡ is_p (drop at loaded)
kind_same loaded at size l = ap (λ (z : ℤ). eqℤ z (pos 2)) (get_or-take size (drop at loaded) 0 (pos 0) (let h = l.some in omega arith))

-- ---- what code finds at a place

pub size_fits : (loaded : List ℤ) (at size : ℕ) → size ≡ size_of in_list (drop at loaded) → size ≤ length loaded - at → size ≡ size_at loaded at
unfolding size_at
size_fits loaded at size e h = let t : leb (size_of in_list (drop at loaded)) (length loaded - at) ≡ true = le-leb (size_of in_list (drop at loaded)) (length loaded - at) (omega arith) in rw t e

pub size_passes : (loaded : List ℤ) (at size : ℕ) → size ≡ size_of in_list (drop at loaded) → length loaded - at < size → 0 ≡ size_at loaded at
unfolding size_at
size_passes loaded at size e h = let f : leb (size_of in_list (drop at loaded)) (length loaded - at) ≡ false = lt-leb (size_of in_list (drop at loaded)) (length loaded - at) (omega arith) in rw f

-- ---- the B record at the list's front

b_size : (line : List ℤ) → is_b line ≡ true → size_of in_list line ≡ 6
unfolding size_of
b_size line b = rw b

counts_eq : (x y : ℤ) (p t : ℕ) → eq_list eqℤ (x ∷ y ∷ []) (pos p ∷ pos t ∷ []) ≡ eqℤ x (pos p) && eqℤ y (pos t)
counts_eq x y p t = simp and-true

-- its last two numbers stand behind the first four
six : (loaded : List ℤ) → 6 ≤ length loaded → drop 4 (take 6 loaded) ≡ number_at loaded 4 ∷ number_at loaded 5 ∷ []
six [] h = absurd (omega arith)
six (a ∷ []) h = absurd (omega arith)
six (a ∷ b ∷ []) h = absurd (omega arith)
six (a ∷ b ∷ c ∷ []) h = absurd (omega arith)
six (a ∷ b ∷ c ∷ d ∷ []) h = absurd (omega arith)
six (a ∷ b ∷ c ∷ d ∷ e ∷ []) h = absurd (omega arith)
six (a ∷ b ∷ c ∷ d ∷ e ∷ f ∷ loaded) h = refl

-- question 21, of a list whose lines are whole and whose first is a B line
pub stored_counts_lem : (loaded : List ℤ) → all (is_whole in_list) (loaded_lines loaded) ≡ true → is_one_bFirst (loaded_lines loaded) ≡ true
    → is_counted in_list (loaded_lines loaded) ≡ eqℤ (number_at loaded 4) (pos (count is_p (loaded_lines loaded))) && eqℤ (number_at loaded 5) (pos (count is_t (loaded_lines loaded)))
unfolding is_counted is_one_bFirst
stored_counts_lem [] w b = clash b (ap is_one_bFirst lines_end)
stored_counts_lem (z ∷ numbers) w b =
    let loaded = z ∷ numbers in
    let l = line_here loaded 0 (size_at loaded 0) w (omega arith) refl in
    let first : is_b (take (size_at loaded 0) loaded) ≡ true = (both _ _ (rw l.lines at b)).0 in
    let n : size_at loaded 0 ≡ 6 = sym l.size_is ∙ sym (size_take (size_at loaded 0) loaded (let h = l.some in omega arith)) ∙ b_size (take (size_at loaded 0) loaded) first in
    let d : drop 4 (get_or (loaded_lines loaded) 0 []) ≡ number_at loaded 4 ∷ number_at loaded 5 ∷ [] = ap (λ (ls : List (List ℤ)). drop 4 (get_or ls 0 [])) l.lines ∙ ap (λ (k : ℕ). drop 4 (take k loaded)) n ∙ six loaded (let h = l.inside in omega arith) in
    ap (λ (xs : List ℤ). eq_list eqℤ xs (stored_counts (loaded_lines loaded))) d ∙ counts_eq (number_at loaded 4) (number_at loaded 5) (count is_p (loaded_lines loaded)) (count is_t (loaded_lines loaded))
