-- The automaton ends at a line exactly where the text is as question 1 or 8 asks: by induction over the text, for every state,
-- what is asked of the rest of a text by what has been read.
use mathlib.Core.Path.{◌≡◌, refl, sym, ap, ◌∙◌}
use mathlib.Core.Bool.{Bool, true, false, not, cond, ◌&&◌, and-true, and-false}
use mathlib.Core.List.{List, [], ◌∷◌}
use Prim.Native.Nat.{ℕ, zero, suc, ◌+◌, ◌*◌, ◌-◌}
use native.Mathlib.Omega.{arith}
use borrow.Author.Tests.{ne_eqb}
use lib.Dec.{eqb}
use lib.IntN.{pos}
use lib.ListN.{length}
use Rattle.laws.specs.Lists.{all, is_empty}
use Rattle.laws.proofs.Tests.{clash}
use Rattle.meaning.specs.Numerals.{is_digit, is_positive, is_number}
use Rattle.meaning.specs.Book.{kind_of_byte, kind_of_letter, is_text_line, is_book_text}
use Rattle.meaning.specs.Direction.{is_direction_text}
use Rattle.fields.specs.Scan.{Scan, Line, Kind, Field, Minus, Digits, Broken, after_letter, more_digits, next, line_start, run, at_line}
use Rattle.fields.proofs.Cut.{Cut, line, cut, Sort, sort, is_blank, are_numbers, is_rest, book_is, book_empty, direction_is}
use Rattle.fields.proofs.Digits.{tail, positive, natural}

abbrev asked : Bool → Scan → Cut → Bool
asked book Line c = is_rest book (line c ∷ c.lines)
asked book (Kind k) c = (is_empty c.field && are_numbers c.fields) && is_rest book c.lines
asked book Field c = are_numbers (line c) && is_rest book c.lines
asked book Minus c = (is_positive c.field && all is_number c.fields) && is_rest book c.lines
asked book (Digits m v) c = (tail v c.field && all is_number c.fields) && is_rest book c.lines
asked book Broken c = false

pub broken : (book : Bool) (t : List ℕ) → at_line (run book Broken t) ≡ false
broken book [] = refl
broken book (b ∷ bs) = broken book bs

-- a line that is not blank is a good line with its byte 10
rest_line : (book : Bool) (l : List (List ℕ)) (ls : List (List (List ℕ))) → is_blank l ≡ false → is_rest book (l ∷ ls) ≡ (book && is_text_line l) && is_rest book ls
rest_line book l [] e = e ∙ sym (and-false (book && is_text_line l))
rest_line book l (m ∷ ms) e = refl

rest_bad : (book : Bool) (l : List (List ℕ)) (ls : List (List (List ℕ))) → is_blank l ≡ false → is_text_line l ≡ false → is_rest book (l ∷ ls) ≡ false
rest_bad book l ls e f = rest_line book l ls e ∙ rw (f, and-false)

-- a line's letter is one byte that has a kind
pub kind_is : (b : ℕ) (f : List ℕ) → is_empty f ≡ true → kind_of_letter (b ∷ f) ≡ kind_of_byte b
unfolding kind_of_letter
kind_is b [] e = refl
kind_is b (c ∷ f) e = clash e refl

letter_is : (b : ℕ) (f : List ℕ) → not (eqb (kind_of_letter (b ∷ f)) 0) ≡ not (eqb (kind_of_byte b) 0) && is_empty f
unfolding kind_of_letter
letter_is b [] = sym (and-true (not (eqb (kind_of_byte b) 0)))
letter_is b (c ∷ f) = sym (and-false (not (eqb (kind_of_byte b) 0)))

text_line : (b : ℕ) (f : List ℕ) (fs : List (List ℕ))
    → is_text_line ((b ∷ f) ∷ fs) ≡ (not (eqb (kind_of_byte b) 0) && is_empty f) && are_numbers fs
unfolding is_text_line
text_line b f [] = sym (and-false (not (eqb (kind_of_byte b) 0) && is_empty f))
text_line b f (g ∷ fs) = ap (λ (x : Bool). x && all is_number (g ∷ fs)) (letter_is b f)

text_comma : (fs : List (List ℕ)) → is_text_line ([] ∷ fs) ≡ false
unfolding is_text_line kind_of_letter
text_comma [] = refl
text_comma (f ∷ fs) = refl

-- the states that follow, by the kind or the tests of a byte
abbrev pub letter_by : Bool → ℕ → Scan
letter_by book k = cond book (after_letter k) Broken

abbrev pub number_by : ℕ → Bool → Bool → Scan
number_by v x y = cond x Minus (cond y (Digits false v) Broken)

abbrev pub positive_by : ℕ → Bool → Bool → Scan
positive_by v x y = cond x Broken (cond y (Digits true v) Broken)

abbrev pub digits_by : Bool → ℕ → Bool → Bool → Scan → Scan
digits_by m v x y s = cond x (cond y (Digits m v) Broken) s

module _ (book : Bool) (bs : List ℕ) (ih : (s : Scan) → at_line (run book s bs) ≡ asked book s (cut bs)) where
  pub stop : (s : Scan) → s ≡ Broken → at_line (run book s bs) ≡ false
  stop s e = rw e (broken book bs)

  pub no_line : (m : Bool) → (line_start m 10 ≡ Broken) × (line_start m 44 ≡ Broken)
  unfolding kind_of_byte
  no_line true = (refl, refl)
  no_line false = (refl, refl)

  at_ten : (s : Scan) → at_line (run book (next book s 10) bs) ≡ asked book s (record { field = []; fields = []; lines = line (cut bs) ∷ (cut bs).lines })
  unfolding is_number is_positive is_text_line
  at_ten Line = stop _ (no_line book).0 ∙ rw and-false
  at_ten (Kind k) = broken book bs
  at_ten Field = broken book bs
  at_ten Minus = broken book bs
  at_ten (Digits m v) = ih Line
  at_ten Broken = broken book bs

  at_comma : (s : Scan) → at_line (run book (next book s 44) bs) ≡ asked book s (record { field = []; fields = line (cut bs); lines = (cut bs).lines })
  unfolding is_number is_positive is_text_line
  at_comma Line = stop _ (no_line book).1 ∙ sym (rest_bad book ([] ∷ line (cut bs)) (cut bs).lines refl (text_comma (line (cut bs))))
  at_comma (Kind k) = ih Field
  at_comma Field = broken book bs
  at_comma Minus = broken book bs
  at_comma (Digits m v) = ih Field
  at_comma Broken = broken book bs

  module _ (b : ℕ) (no10 : eqb b 10 ≡ false) (no44 : eqb b 44 ≡ false) where
    with_line : at_line (run book (line_start book b) bs) ≡ (book && is_text_line ((b ∷ (cut bs).field) ∷ (cut bs).fields)) && is_rest book (cut bs).lines
    with_line = rw (text_line b (cut bs).field (cut bs).fields) (by book (kind_of_byte b))
      where
        by : (m : Bool) (k : ℕ) → at_line (run book (letter_by m k) bs)
            ≡ (m && ((not (eqb k 0) && is_empty (cut bs).field) && are_numbers (cut bs).fields)) && is_rest book (cut bs).lines
        by false k = broken book bs
        by true zero = broken book bs
        by true (suc k) = rw (ne_eqb (suc k) 0 (omega arith)) (ih (Kind (pos (suc k))))

    at_other : (s : Scan) → at_line (run book (next book s b) bs) ≡ asked book s (record { field = b ∷ (cut bs).field; fields = (cut bs).fields; lines = (cut bs).lines })
    unfolding is_number
    at_other Line = with_line ∙ sym (rest_line book ((b ∷ (cut bs).field) ∷ (cut bs).fields) (cut bs).lines refl)
    at_other (Kind k) = stop _ (rw no44)
    at_other Field = rw (natural b (cut bs).field) (by (eqb b 45) (is_digit b))
      where
        by : (x y : Bool) → at_line (run book (number_by (b - 48) x y) bs)
            ≡ (cond x (is_positive (cut bs).field) (y && tail (b - 48) (cut bs).field) && all is_number (cut bs).fields) && is_rest book (cut bs).lines
        by true y = ih Minus
        by false true = ih (Digits false (b - 48))
        by false false = broken book bs
    at_other Minus = rw (positive b (cut bs).field) (by (eqb b 48) (is_digit b))
      where
        by : (x y : Bool) → at_line (run book (positive_by (b - 48) x y) bs)
            ≡ (((not x && y) && tail (b - 48) (cut bs).field) && all is_number (cut bs).fields) && is_rest book (cut bs).lines
        by true y = broken book bs
        by false true = ih (Digits true (b - 48))
        by false false = broken book bs
    at_other (Digits m v) = rw (no44, no10) (by (is_digit b) (more_digits v))
      where
        by : (x y : Bool) → at_line (run book (digits_by m (v * 10 + (b - 48)) x y Broken) bs)
            ≡ (((x && y) && tail (v * 10 + (b - 48)) (cut bs).field) && all is_number (cut bs).fields) && is_rest book (cut bs).lines
        by false y = broken book bs
        by true true = ih (Digits m (v * 10 + (b - 48)))
        by true false = broken book bs
    at_other Broken = broken book bs

-- the run ends at a line exactly where the rest of the text is as it should be
pub accepted : (book : Bool) (t : List ℕ) (s : Scan) → at_line (run book s t) ≡ asked book s (cut t)
unfolding is_number is_positive is_text_line
accepted book [] Line = refl
accepted book [] (Kind k) = refl
accepted book [] Field = refl
accepted book [] Minus = refl
accepted book [] (Digits m v) = refl
accepted book [] Broken = refl
accepted book (b ∷ bs) s = by (sort b) (accepted book bs)
  where
    by : Sort b → ((s : Scan) → at_line (run book s bs) ≡ asked book s (cut bs)) → at_line (run book (next book s b) bs) ≡ asked book s (cut (b ∷ bs))
    by (Sort.ten e) ih = rw e (at_ten book bs ih s)
    by (Sort.comma e) ih = rw e (at_comma book bs ih s)
    by (Sort.other e f) ih = rw (e, f) (at_other book bs ih b e f s)

-- question 1, of an empty text and of another
pub no_book : (t : List ℕ) → length t ≡ 0 → false ≡ is_book_text t
no_book [] e = sym book_empty
no_book (b ∷ bs) e = absurd (omega arith)

pub book_text : (t : List ℕ) → (length t ≡ 0 → ⊥) → at_line (run true Line t) ≡ is_book_text t
book_text [] h = absurd (h refl)
book_text (b ∷ bs) h = accepted true (b ∷ bs) Line ∙ sym (book_is b bs)

pub book_run : (t : List ℕ) → is_book_text t ≡ true → at_line (run true Line t) ≡ true
book_run [] h = refl
book_run (b ∷ bs) h = book_text (b ∷ bs) (λ e. omega arith) ∙ h

-- question 8
pub direction_text : (t : List ℕ) → at_line (run false Field t) ≡ is_direction_text t
direction_text t = accepted false t Field ∙ sym (direction_is t)
