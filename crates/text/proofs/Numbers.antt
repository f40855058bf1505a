-- Where the automaton ends at a line, the numbers that its marks end are the text's numbers: the same induction as in Form,
-- of what the rest of a text gives by what has been read.
use mathlib.Core.Path.{◌≡◌, refl, sym, ap, ◌∙◌}
use mathlib.Core.Bool.{Bool, true, false, cond, ◌&&◌}
use mathlib.Core.List.{List, [], ◌∷◌, ◌++◌, append-nil, map, drop_last}
use Prim.Native.Nat.{ℕ, zero, suc, ◌+◌, ◌*◌, ◌-◌}
use native.Mathlib.Nat.{zero-mul, zero-add}
use lib.Dec.{eqb}
use lib.IntN.{ℤ, pos, neg_ℤ}
use Rattle.laws.specs.Lists.{is_empty, concat}
use Rattle.laws.proofs.Tests.{both, clash}
use Rattle.meaning.specs.Numerals.{is_digit, digits_value, value_of}
use Rattle.meaning.specs.Book.{kind_of_byte, line_numbers, is_book_text, text_lines}
use Rattle.meaning.specs.Direction.{is_direction_text, direction_numbers}
use Rattle.text.specs.Walk.{text_numbers}
use Rattle.fields.specs.Scan.{Scan, Line, Kind, Field, Minus, Digits, Broken, more_digits, next, line_start, after_number, run, at_line, signed, scanned, emit}
use Rattle.fields.proofs.Cut.{Cut, line, cut, Sort, sort, are_numbers, is_rest, book_is, book_empty, direction_is, lines_are}
use Rattle.fields.proofs.Form.{accepted, stop, no_line, kind_is, letter_by, number_by, positive_by, digits_by}

-- the numbers of the lines that have their byte 10
abbrev in_lines : List (List (List ℕ)) → List ℤ
in_lines ls = concat (map line_numbers (drop_last ls))

-- what the rest of a text gives, by what has been read
abbrev told : Scan → Cut → List ℤ
told Line c = in_lines (line c ∷ c.lines)
told (Kind k) c = k ∷ (map value_of c.fields ++ in_lines c.lines)
told Field c = value_of c.field ∷ (map value_of c.fields ++ in_lines c.lines)
told Minus c = neg_ℤ (pos (digits_value 0 c.field)) ∷ (map value_of c.fields ++ in_lines c.lines)
told (Digits m v) c = signed m (digits_value v c.field) ∷ (map value_of c.fields ++ in_lines c.lines)
told Broken c = []

-- the line before others has its byte 10
more_lines : (book : Bool) (l : List (List ℕ)) (ls : List (List (List ℕ))) → is_rest book ls ≡ true → in_lines (l ∷ ls) ≡ line_numbers l ++ in_lines ls
more_lines book l [] e = clash e refl
more_lines book l (m ∷ ms) e = refl

-- a letter was read: it is alone in its field, and gives its kind
record Letter (book : Bool) (bs : List ℕ) (s : Scan) (k : ℕ) : Type 0 where
  alone : is_empty (cut bs).field ≡ true
  rest : is_rest book (cut bs).lines ≡ true
  told : emit book s bs ≡ pos k ∷ (map value_of (cut bs).fields ++ in_lines (cut bs).lines)

module _ (book : Bool) (bs : List ℕ) (ih : (s : Scan) → at_line (run book s bs) ≡ true → emit book s bs ≡ told s (cut bs)) where
  none : {A : Type 0} (s : Scan) → s ≡ Broken → at_line (run book s bs) ≡ true → A
  none s e h = clash h (stop book bs (accepted book bs) s e)

  num_ten : (s : Scan) → at_line (run book (next book s 10) bs) ≡ true
      → scanned s ∷ emit book (next book s 10) bs ≡ told s (record { field = []; fields = []; lines = line (cut bs) ∷ (cut bs).lines })
  unfolding value_of
  num_ten Line h = none _ (no_line book bs (accepted book bs) book).0 h
  num_ten (Kind k) h = none _ refl h
  num_ten Field h = none _ refl h
  num_ten Minus h = none _ refl h
  num_ten (Digits m v) h = ap (λ (x : List ℤ). signed m v ∷ x) (ih Line h)
  num_ten Broken h = none _ refl h

  num_comma : (s : Scan) → at_line (run book (next book s 44) bs) ≡ true
      → scanned s ∷ emit book (next book s 44) bs ≡ told s (record { field = []; fields = line (cut bs); lines = (cut bs).lines })
  unfolding value_of
  num_comma Line h = none _ (no_line book bs (accepted book bs) book).1 h
  num_comma (Kind k) h = ap (λ (x : List ℤ). k ∷ x) (ih Field h)
  num_comma Field h = none _ refl h
  num_comma Minus h = none _ refl h
  num_comma (Digits m v) h = ap (λ (x : List ℤ). signed m v ∷ x) (ih Field h)
  num_comma Broken h = none _ refl h

  module _ (b : ℕ) (no10 : eqb b 10 ≡ false) (no44 : eqb b 44 ≡ false) where
    num_other : (s : Scan) → at_line (run book (next book s b) bs) ≡ true
        → emit book (next book s b) bs ≡ told s (record { field = b ∷ (cut bs).field; fields = (cut bs).fields; lines = (cut bs).lines })
    unfolding value_of
    num_other Line h = of_letter (by book (kind_of_byte b) h)
      where
        of_letter : Letter book bs (line_start book b) (kind_of_byte b)
            → emit book (line_start book b) bs ≡ in_lines (((b ∷ (cut bs).field) ∷ (cut bs).fields) ∷ (cut bs).lines)
        of_letter g =
            g.told
            ∙ ap (λ (k : ℕ). (pos k ∷ map value_of (cut bs).fields) ++ in_lines (cut bs).lines) (sym (kind_is b (cut bs).field g.alone))
            ∙ sym (more_lines book ((b ∷ (cut bs).field) ∷ (cut bs).fields) (cut bs).lines g.rest)

        to : (k : ℕ) → at_line (run book (Kind (pos k)) bs) ≡ true → Letter book bs (Kind (pos k)) k
        to k h =
            let a = both (is_empty (cut bs).field && are_numbers (cut bs).fields) (is_rest book (cut bs).lines) (sym (accepted book bs (Kind (pos k))) ∙ h) in
            record { alone = (both (is_empty (cut bs).field) (are_numbers (cut bs).fields) a.0).0; rest = a.1; told = ih (Kind (pos k)) h }

        by : (m : Bool) (k : ℕ) → at_line (run book (letter_by m k) bs) ≡ true → Letter book bs (letter_by m k) k
        by false k h = none _ refl h
        by true zero h = none _ refl h
        by true (suc k) h = to (suc k) h
    num_other (Kind k) h = none _ (rw no44) h
    num_other Field h = by (eqb b 45) (is_digit b) h
      where
        by : (x y : Bool) → at_line (run book (number_by (b - 48) x y) bs) ≡ true
            → emit book (number_by (b - 48) x y) bs
            ≡ cond x (neg_ℤ (pos (digits_value 0 (cut bs).field))) (pos (digits_value (0 * 10 + (b - 48)) (cut bs).field)) ∷ (map value_of (cut bs).fields ++ in_lines (cut bs).lines)
        by true y h = ih Minus h
        by false true h = rw (zero-mul, zero-add) (ih (Digits false (b - 48)) h)
        by false false h = none _ refl h
    num_other Minus h = by (eqb b 48) (is_digit b) h
      where
        by : (x y : Bool) → at_line (run book (positive_by (b - 48) x y) bs) ≡ true
            → emit book (positive_by (b - 48) x y) bs
            ≡ neg_ℤ (pos (digits_value (0 * 10 + (b - 48)) (cut bs).field)) ∷ (map value_of (cut bs).fields ++ in_lines (cut bs).lines)
        by true y h = none _ refl h
        by false true h = rw (zero-mul, zero-add) (ih (Digits true (b - 48)) h)
        by false false h = none _ refl h
    num_other (Digits m v) h = by (is_digit b) (more_digits v) (after_number b) (rw (no44, no10)) h
      where
        by : (x y : Bool) (s : Scan) → s ≡ Broken → at_line (run book (digits_by m (v * 10 + (b - 48)) x y s) bs) ≡ true
            → emit book (digits_by m (v * 10 + (b - 48)) x y s) bs
            ≡ signed m (digits_value (v * 10 + (b - 48)) (cut bs).field) ∷ (map value_of (cut bs).fields ++ in_lines (cut bs).lines)
        by false y s e h = none _ e h
        by true true s e h = ih (Digits m (v * 10 + (b - 48))) h
        by true false s e h = none _ refl h
    num_other Broken h = none _ refl h

given : (book : Bool) (t : List ℕ) (s : Scan) → at_line (run book s t) ≡ true → emit book s t ≡ told s (cut t)
unfolding value_of
given book [] Line h = refl
given book [] (Kind k) h = clash h refl
given book [] Field h = clash h refl
given book [] Minus h = clash h refl
given book [] (Digits m v) h = clash h refl
given book [] Broken h = clash h refl
given book (b ∷ bs) s h = by (sort b) (given book bs) h
  where
    by : Sort b → ((s : Scan) → at_line (run book s bs) ≡ true → emit book s bs ≡ told s (cut bs)) → at_line (run book (next book s b) bs) ≡ true → emit book s (b ∷ bs) ≡ told s (cut (b ∷ bs))
    by (Sort.ten e) ih h = rw e (num_ten book bs ih s (rw e at h))
    by (Sort.comma e) ih h = rw e (num_comma book bs ih s (rw e at h))
    by (Sort.other e f) ih h = rw (e, f) (num_other book bs ih b e f s h)

-- ════ a book's numbers, and a direction's

pub book_numbers : (t : List ℕ) → is_book_text t ≡ true → emit true Line t ≡ text_numbers t
unfolding text_numbers text_lines
book_numbers [] h = clash h book_empty
book_numbers (b ∷ bs) h =
    given true (b ∷ bs) Line (accepted true (b ∷ bs) Line ∙ sym (book_is b bs) ∙ h)
    ∙ ap (λ (x : List (List (List ℕ))). concat (map line_numbers x)) (sym (lines_are (b ∷ bs)))

pub direction_numbers_lem : (t : List ℕ) → is_direction_text t ≡ true → emit false Field t ≡ direction_numbers t
unfolding direction_numbers
direction_numbers_lem t h =
    given false t Field (accepted false t Field ∙ sym (direction_is t) ∙ h)
    ∙ one_line (line (cut t)) (cut t).lines (both (are_numbers (line (cut t))) (is_rest false (cut t).lines) (sym (direction_is t) ∙ h)).1
    ∙ ap (λ (x : List (List (List ℕ))). map value_of (concat x)) (sym (lines_are t))
  where
    one_line : (l : List (List ℕ)) (ls : List (List (List ℕ))) → is_rest false ls ≡ true → map value_of l ++ in_lines ls ≡ map value_of (concat (drop_last (l ∷ ls)))
    one_line l [] e = clash e refl
    one_line l (m ∷ []) e = append-nil (map value_of l) ∙ ap (map value_of) (sym (append-nil l))
    one_line l (m ∷ n ∷ ls) e = clash e refl
