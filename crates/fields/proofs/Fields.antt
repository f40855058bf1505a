-- A field read at once is its bytes read one at a time: over its digits, at its mark, and where it is not as it should be.
use mathlib.Core.Path.{◌≡◌, refl, sym, ap, ◌∙◌, subst}
use mathlib.Core.Bool.{Bool, true, false, cond, ◌&&◌}
use mathlib.Core.List.{List}
use Prim.Native.Nat.{ℕ, zero, suc, ◌+◌, ◌*◌, ◌-◌, ◌≤◌, ◌<◌}
use native.Mathlib.Omega.{arith}
use Rattle.std.proofs.Common.{Option, Some, None}
use borrow.Author.Tests.{eqb-false, leb-true, leb-false, le-leb, ne_eqb}
use lib.Dec.{leb, eqb}
use lib.IntN.{ℤ, pos}
use lib.ListN.{length, drop, get_or, drop_of_length-le}
use Rattle.laws.proofs.Tests.{both, by_test, clash, between}
use Rattle.laws.proofs.Lists.{drop_next}
use Rattle.meaning.specs.Numerals.{is_digit}
use Rattle.meaning.specs.Book.{kind_of_byte}
use Rattle.fields.specs.Scan.{Scan, Line, Kind, Field, Minus, Digits, Broken, more_digits, next, run, at_line, after_letter, kind_number, letter_kind}
use Rattle.fields.specs.Fields.{Onward, PieceRead, FieldRead}
use Rattle.fields.specs.declared.Piece.{Piece}
use Rattle.fields.proofs.Form.{broken}

-- ════ bytes that are no mark

pub on_more : {book : Bool} {t : List ℕ} {s s' s'' : Scan} {i j k : ℕ} → Onward book t s i s' j → Onward book t s' j s'' k → Onward book t s i s'' k
on_more a b = record { ends = a.ends ∙ b.ends; gives = a.gives ∙ b.gives; row = a.row ∙ b.row; long = a.long ∙ b.long }

module _ (book : Bool) (t : List ℕ) (i : ℕ) (h : i < length t) where
  -- a byte more that is no mark
  pub on_byte : (s s' : Scan) → next book s (get_or t i 0) ≡ s' → (get_or t i 0 ≡ 10 → ⊥) → (get_or t i 0 ≡ 44 → ⊥) → Onward book t s i s' (i + 1)
  on_byte s s' e a b = subst (λ (x : Scan). Onward book t s i x (i + 1)) e (record {
    ends = rw (drop_next t i 0 h);
    gives = rw (drop_next t i 0 h, ne_eqb (get_or t i 0) 44 b, ne_eqb (get_or t i 0) 10 a);
    row = rw (drop_next t i 0 h, ne_eqb (get_or t i 0) 10 a, ne_eqb (get_or t i 0) 44 b);
    long = rw (drop_next t i 0 h, ne_eqb (get_or t i 0) 10 a) (omega arith);
  })

  -- a digit, and what it makes of the number
  on_number : (s s' : Scan) → is_digit (get_or t i 0) ≡ true → next book s (get_or t i 0) ≡ s' → Onward book t s i s' (i + 1)
  on_number s s' d e = let b = between 48 57 (get_or t i 0) d in on_byte s s' e (λ x. omega (arith, b)) (λ x. omega (arith, b))

  pub on_digit : (minus : Bool) (v : ℕ) → is_digit (get_or t i 0) && more_digits v ≡ true → Onward book t (Digits minus v) i (Digits minus (v * 10 + (get_or t i 0 - 48))) (i + 1)
  on_digit minus v e =
      let d = both (is_digit (get_or t i 0)) (more_digits v) e in
      on_number (Digits minus v) (Digits minus (v * 10 + (get_or t i 0 - 48))) d.0 (rw (d.0, d.1))

  pub on_first : is_digit (get_or t i 0) ≡ true → Onward book t Field i (Digits false (get_or t i 0 - 48)) (i + 1)
  on_first d =
      let b = between 48 57 (get_or t i 0) d in
      on_number Field (Digits false (get_or t i 0 - 48)) d (rw (ne_eqb (get_or t i 0) 45 (λ x. omega (arith, b)), d))

  pub on_minus : get_or t i 0 ≡ 45 → Onward book t Field i Minus (i + 1)
  on_minus e = on_byte Field Minus (rw e) (λ x. omega arith) (λ x. omega arith)

  pub on_negative : (get_or t i 0 ≡ 48 → ⊥) → is_digit (get_or t i 0) ≡ true → Onward book t Minus i (Digits true (get_or t i 0 - 48)) (i + 1)
  on_negative n d = on_number Minus (Digits true (get_or t i 0 - 48)) d (rw (ne_eqb (get_or t i 0) 48 n, d))

-- a byte 48 to 57 is a digit
pub digit : (b : ℕ) → 48 ≤ b → b ≤ 57 → is_digit b ≡ true
digit b l h = rw (le-leb 48 b l, le-leb b 57 h)

no_digit : (b : ℕ) → (48 ≤ b → b ≤ 57 → ⊥) → is_digit b ≡ false
no_digit b n = by_test (is_digit b) (λ d. let h = between 48 57 b d in absurd (n h.0 h.1)) (λ e. e)

-- a byte that begins no number, or none behind a minus
pub no_number : (book : Bool) (b : ℕ) → (b ≡ 45 → ⊥) → (48 ≤ b → b ≤ 57 → ⊥) → next book Field b ≡ Broken
no_number book b m n = rw (ne_eqb b 45 m, no_digit b n)

pub no_negative : (book : Bool) (b : ℕ) → (49 ≤ b → b ≤ 57 → ⊥) → next book Minus b ≡ Broken
no_negative book b n = by_test (eqb b 48) (λ e. rw e) (λ e. let z = eqb-false b 48 e in rw (e, no_digit b (λ l h. n (omega arith) h)))

-- ════ a field and its mark

-- a field that goes on from a later place
pub field_on : {book : Bool} {t : List ℕ} {s s' : Scan} {i j : ℕ} (r : Option Piece) → Onward book t s i s' j → i ≤ j → FieldRead book s' t j r → FieldRead book s t i r
field_on None o h f = ap at_line o.ends ∙ f
field_on (Some r) o h f = record {
  ends = ap at_line o.ends ∙ f.ends;
  gives = o.gives ∙ f.gives;
  row = o.row ∙ f.row;
  long = o.long ∙ f.long;
  later = let l = f.later in omega arith;
  within = f.within;
}

-- what breaks the text
pub bad_byte : (book : Bool) (t : List ℕ) (i : ℕ) (s : Scan) → i < length t → next book s (get_or t i 0) ≡ Broken → at_line (run book s (drop i t)) ≡ false
bad_byte book t i s h e =
    rw (drop_next t i 0 h) (subst (λ (x : Scan). at_line (run book x (drop (i + 1) t)) ≡ false) (sym e) (broken book (drop (i + 1) t)))

pub bad_end : (book : Bool) (t : List ℕ) (i : ℕ) (s : Scan) → length t ≤ i → at_line s ≡ false → at_line (run book s (drop i t)) ≡ false
bad_end book t i s h e = rw (drop_of_length-le t h) e

-- no mark behind a number
module _ (book : Bool) (t : List ℕ) (i : ℕ) (h : i < length t) (minus : Bool) (v : ℕ) where
  pub no_mark : is_digit (get_or t i 0) && more_digits v ≡ false → (get_or t i 0 ≡ 44 → ⊥) → (get_or t i 0 ≡ 10 → ⊥) → at_line (run book (Digits minus v) (drop i t)) ≡ false
  no_mark e a b = bad_byte book t i (Digits minus v) h (rw (ne_eqb (get_or t i 0) 44 a, ne_eqb (get_or t i 0) 10 b) (by (is_digit (get_or t i 0)) (more_digits v) e))
    where
      by : (x y : Bool) → x && y ≡ false → cond x (cond y (Digits minus (v * 10 + (get_or t i 0 - 48))) Broken) Broken ≡ Broken
      by true true e = clash refl e
      by true false e = refl
      by false y e = refl

-- ════ a line's letter

-- by the byte's kind
pub letter_next : (b : ℕ) (k : ℤ) → letter_kind b ≡ Some k → next true Line b ≡ Kind k
letter_next b k e = by (kind_of_byte b) e
  where
    by : (n : ℕ) → kind_number n ≡ Some k → after_letter n ≡ Kind k
    by zero e = absurd (cc)
    by (suc n) e = let q : pos (suc n) ≡ k = cc in ap Kind q

pub no_letter : (b : ℕ) → letter_kind b ≡ None → next true Line b ≡ Broken
no_letter b e = by (kind_of_byte b) e
  where
    by : (n : ℕ) → kind_number n ≡ None → after_letter n ≡ Broken
    by zero e = refl
    by (suc n) e = absurd (cc)

-- the letter alone
module _ (t : List ℕ) (i : ℕ) (h : i < length t) (k : ℤ) (e : letter_kind (get_or t i 0) ≡ Some k) where
  not_mark : (m : ℕ) → letter_kind m ≡ None → get_or t i 0 ≡ m → ⊥
  not_mark m f q = let g = ap letter_kind q in cc

  pub on_letter : Onward true t Line i (Kind k) (i + 1)
  unfolding kind_of_byte
  on_letter = on_byte true t i h Line (Kind k) (letter_next (get_or t i 0) k e) (not_mark 10 refl) (not_mark 44 refl)

  -- with its comma
  pub at_letter : i + 1 < length t → get_or t (i + 1) 0 ≡ 44 → PieceRead true Line t i (record { number = k; end = i + 2; last = false })
  at_letter l c = field_on (Some (record { number = k; end = i + 2; last = false })) on_letter (omega arith) (record {
    ends = rw (drop_next t (i + 1) 0 l, c, two);
    gives = rw (drop_next t (i + 1) 0 l, c, two);
    row = rw (drop_next t (i + 1) 0 l, c, two);
    long = rw (drop_next t (i + 1) 0 l, c, two) (omega arith);
    later = omega arith;
    within = omega arith;
  })
    where
      two : i + 1 + 1 ≡ i + 2
      two = omega arith

  -- without it
  pub no_comma : (i + 1 < length t → get_or t (i + 1) 0 ≡ 44 → ⊥) → at_line (run true Line (drop i t)) ≡ false
  no_comma c =
      ap at_line on_letter.ends
      ∙ by_test (leb (length t) (i + 1)) (λ q. bad_end true t (i + 1) (Kind k) (leb-true _ _ q) refl)
      (λ q. bad_byte true t (i + 1) (Kind k) (leb-false _ _ q) (rw (ne_eqb (get_or t (i + 1) 0) 44 (c (leb-false _ _ q)))))
