-- What the definitions of a line's kind, size, ranges and words are in the terms of the code.
use Rattle.std.specs.List.{list_all}
use Prim.Native.Nat.{ℕ, suc, ◌-◌, ◌≤◌}
use native.Mathlib.Omega.{arith}
use mathlib.Core.Path.{◌≡◌, refl, sym, ap, ◌∙◌}
use mathlib.Core.Bool.{Bool, true, false, cond, ◌&&◌}
use mathlib.Core.List.{List, [], ◌∷◌, drop_last}
use borrow.Author.Tests.{leb-true, leb-false, ne_eqb}
use lib.Dec.{eqb, leb}
use lib.IntN.{ℤ, pos, negsuc}
use lib.ListN.{length, take, drop, length-drop}
use Rattle.laws.specs.Integers.{eqℤ, nat_of}
use Rattle.laws.specs.Lists.{all}
use Rattle.laws.proofs.Tests.{by_test}
use Rattle.meaning.specs.Book.{kinds, is_kind, Form, number_at, natural_at, is_b, size_b, size_of, is_whole, Kind, kind_b, kind_p, kind_t, kind_u, kind_d, by_kind, is_in_range, order_of}
use Rattle.lines.specs.Kinds.{kind_of}

-- ---- the kind

-- its row: the number, where the table has a row of that number
module _ (line : List ℤ) where
  pub row_known : kind_of line ≤ length kinds
  unfolding kind_of
  row_known = by_test (leb (natural_at line 0) (length kinds)) (λ t. rw t (leb-true (natural_at line 0) (length kinds) t)) (λ f. rw f (omega arith))

  -- a line is of kind k where its row is row k
  pub kind_row : (k : ℕ) → 1 ≤ k → k ≤ length kinds → is_kind k line ≡ eqb (kind_of line) k
  unfolding kind_of
  kind_row k a b = by (number_at line 0)
    where
      by : (z : ℤ) → eqℤ z (pos k) ≡ eqb (cond (leb (nat_of z) (length kinds)) (nat_of z) 0) k
      by (pos n) = by_test (leb n (length kinds)) (λ t. rw t) (λ f. let far = leb-false n (length kinds) f in rw f (ne_eqb n k (omega arith) ∙ sym (ne_eqb 0 k (omega arith))))
      by (negsuc n) = sym (ne_eqb 0 k (omega arith))

-- ---- what the table says of a line, by its kind

-- what the row k says; `none` where there is no row k
abbrev row_says : {A : Type 0} → A → (Kind → A) → ℕ → A
row_says none says k =
    cond (eqb k 1) (says kind_b) (cond (eqb k 2) (says kind_p) (cond (eqb k 3) (says kind_t) (cond (eqb k 4) (says kind_u) (cond (eqb k 5) (says kind_d) none))))

by_row : {A : Type 0} (none : A) (says : Kind → A) (line : List ℤ) → by_kind none says line ≡ row_says none says (kind_of line)
by_row none says line =
    rw (kind_row line 1 (omega arith) (omega arith), kind_row line 2 (omega arith) (omega arith), kind_row line 3 (omega arith) (omega arith), kind_row line 4 (omega arith) (omega arith), kind_row line 5 (omega arith) (omega arith))

pub order_row : (line : List ℤ) → order_of line ≡ row_says 0 (λ row. row.order) (kind_of line)
unfolding order_of
order_row line = by_row 0 (λ row. row.order) line

pub size_row : (form : Form) (line : List ℤ) → size_of form line ≡ row_says 0 (λ row. row.size form line) (kind_of line)
unfolding size_of
size_row form line = by_row 0 (λ row. row.size form line) line

-- a B line takes as many numbers as its form says
pub size_b_lem : (line : List ℤ) (form : Form) → is_b line ≡ true → size_b form ≡ size_of form line
unfolding size_of
size_b_lem line form h = rw h

pub range_row : (line : List ℤ) → is_in_range line ≡ row_says false (λ row. row.ranges line) (kind_of line)
unfolding is_in_range
range_row line = by_row false (λ row. row.ranges line) line

pub range_none : (line : List ℤ) → (kind_of line ≡ 1 → ⊥) → (kind_of line ≡ 2 → ⊥) → (kind_of line ≡ 3 → ⊥) → (kind_of line ≡ 4 → ⊥) → (kind_of line ≡ 5 → ⊥) → false ≡ is_in_range line
range_none line a b c d e =
    sym (range_row line ∙ rw (ne_eqb (kind_of line) 1 a, ne_eqb (kind_of line) 2 b, ne_eqb (kind_of line) 3 c, ne_eqb (kind_of line) 4 d, ne_eqb (kind_of line) 5 e))

-- ---- the size

pub whole_empty : (form : Form) (line : List ℤ) → length line ≡ 0 → false ≡ is_whole form line
unfolding is_whole
whole_empty form [] h = refl
whole_empty form (z ∷ line) h = absurd (omega arith)

pub whole_some : (form : Form) (line : List ℤ) (n : ℕ) → (length line ≡ 0 → ⊥) → n ≡ size_of form line → eqb (length line) n ≡ is_whole form line
unfolding is_whole
whole_some form [] n h e = absurd (h refl)
whole_some form (z ∷ line) n h e = rw e

-- ---- the words of a phrase

drop_last_take : (xs : List ℤ) → drop_last xs ≡ take (length xs - 1) xs
drop_last_take [] = refl
drop_last_take (x ∷ []) = refl
drop_last_take (x ∷ y ∷ xs) = let e : length (x ∷ y ∷ xs) - 1 ≡ suc (length (y ∷ xs) - 1) = omega arith in rw e (ap (λ (l : List ℤ). x ∷ l) (drop_last_take (y ∷ xs)))

pub all_is : {A : Type 0} (test : A → Bool) (xs : List A) → list_all test xs ≡ all test xs
all_is test [] = refl
all_is test (x ∷ xs) = ap (λ (b : Bool). test x && b) (all_is test xs)

-- what stands between the first three numbers and the last
pub middle : (xs : List ℤ) → drop_last (drop 3 xs) ≡ take (length xs - 1 - 3) (drop 3 xs)
middle xs = let e : length (drop 3 xs) - 1 ≡ length xs - 1 - 3 = omega (arith, length-drop 3 xs) in rw (← e) (drop_last_take (drop 3 xs))
