-- A text taken apart in one recursion, in which the automaton goes, and that it is what notes' specs split it into:
-- into lines by the byte 10 first, and then each line into fields by the commas.
use mathlib.Core.Path.{◌≡◌, refl, sym, ap, ◌∙◌}
use mathlib.Core.Bool.{Bool, true, false, not, cond, ◌&&◌, and-true, and-false, and_comm}
use mathlib.Core.List.{List, [], ◌∷◌, map, drop_last}
use Prim.Native.Nat.{ℕ}
use lib.Dec.{eqb}
use borrow.Author.Tests.{eqb-true}
use Rattle.laws.specs.Lists.{all, is_empty}
use Rattle.laws.proofs.Tests.{clash}
use Rattle.meaning.specs.Numerals.{before, split, last_part, is_ended, lines_of, is_number}
use Rattle.meaning.specs.Book.{is_text_line, is_book_text}
use Rattle.meaning.specs.Direction.{is_one_line_of_numbers, is_direction_text}

-- what stands before the first comma or byte 10, the further fields of that line, and the further lines
pub record Cut : Type 0 where
  pub field : List ℕ
  pub fields : List (List ℕ)
  pub lines : List (List (List ℕ))

-- the first line, by its fields
abbrev pub line : Cut → List (List ℕ)
line c = c.field ∷ c.fields

abbrev pub cut : List ℕ → Cut
cut [] = record { field = []; fields = []; lines = [] }
cut (b ∷ bs) =
    cond (eqb b 10) (record { field = []; fields = []; lines = line (cut bs) ∷ (cut bs).lines })
    (cond (eqb b 44) (record { field = []; fields = line (cut bs); lines = (cut bs).lines })
    (record { field = b ∷ (cut bs).field; fields = (cut bs).fields; lines = (cut bs).lines }))

-- all lines; the last one is what stands behind the last byte 10
abbrev pub left : List ℕ → List (List (List ℕ))
left t = line (cut t) ∷ (cut t).lines

-- a byte is 10, or a comma, or neither
pub data Sort (b : ℕ) : Type 0 where
  ten : b ≡ 10 → Sort b
  comma : b ≡ 44 → Sort b
  other : eqb b 10 ≡ false → eqb b 44 ≡ false → Sort b

pub sort : (b : ℕ) → Sort b
sort b = first (eqb b 10) refl (eqb b 44) refl
  where
    first : (x : Bool) → eqb b 10 ≡ x → (y : Bool) → eqb b 44 ≡ y → Sort b
    first true e y f = Sort.ten (eqb-true b 10 e)
    first false e true f = Sort.comma (eqb-true b 44 f)
    first false e false f = Sort.other e f

-- ════ both ways to split

-- the first line changed
abbrev on_first : (List (List ℕ) → List (List ℕ)) → List (List (List ℕ)) → List (List (List ℕ))
on_first f [] = f ([] ∷ []) ∷ []
on_first f (l ∷ ls) = f l ∷ ls

first_comma : (ps : List (List ℕ)) → map (split 44) (before 44 ps) ≡ on_first (λ l. [] ∷ l) (map (split 44) ps)
unfolding split
first_comma [] = refl
first_comma (p ∷ ps) = refl

first_other : (b : ℕ) → eqb b 44 ≡ false → (ps : List (List ℕ)) → map (split 44) (before b ps) ≡ on_first (before b) (map (split 44) ps)
unfolding split
first_other b no44 [] = rw no44
first_other b no44 (p ∷ ps) = rw no44

pub pieces : (t : List ℕ) → map (split 44) (split 10 t) ≡ left t
unfolding split
pieces [] = refl
pieces (b ∷ bs) = by (sort b) (pieces bs)
  where
    by : Sort b → map (split 44) (split 10 bs) ≡ left bs → map (split 44) (split 10 (b ∷ bs)) ≡ left (b ∷ bs)
    by (Sort.ten e) ih = rw e (ap (λ (x : List (List (List ℕ))). ([] ∷ []) ∷ x) ih)
    by (Sort.comma e) ih = rw e (first_comma (split 10 bs) ∙ ap (on_first (λ l. [] ∷ l)) ih)
    by (Sort.other e f) ih = rw (e, f) (first_other b f (split 10 bs) ∙ ap (on_first (before b)) ih)

-- ════ the lines, and what stands behind the last one

abbrev pub is_blank : List (List ℕ) → Bool
is_blank [] = true
is_blank (f ∷ fs) = is_empty f && is_empty fs

abbrev pub last_of : List (List (List ℕ)) → List (List ℕ)
last_of [] = []
last_of (l ∷ []) = l
last_of (l ∷ m ∷ ms) = last_of (m ∷ ms)

split_some : (t : List ℕ) → is_empty (split 44 t) ≡ false
unfolding split
split_some [] = refl
split_some (b ∷ bs) = by (eqb b 44) (split 44 bs)
  where
    by : (x : Bool) (ps : List (List ℕ)) → is_empty (cond x ([] ∷ ps) (before b ps)) ≡ false
    by true ps = refl
    by false [] = refl
    by false (p ∷ ps) = refl

blank_part : (t : List ℕ) → is_empty t ≡ is_blank (split 44 t)
unfolding split
blank_part [] = refl
blank_part (b ∷ bs) = by (eqb b 44) (split 44 bs) (split_some bs)
  where
    by : (x : Bool) (ps : List (List ℕ)) → is_empty ps ≡ false → false ≡ is_blank (cond x ([] ∷ ps) (before b ps))
    by true ps e = sym e
    by false [] e = refl
    by false (p ∷ ps) e = refl

blank_last : (ps : List (List ℕ)) → is_empty (last_part ps) ≡ is_blank (last_of (map (split 44) ps))
blank_last [] = refl
blank_last (p ∷ []) = blank_part p
blank_last (p ∷ q ∷ ps) = blank_last (q ∷ ps)

pub ended : (t : List ℕ) → is_ended t ≡ is_blank (last_of (left t))
unfolding is_ended
ended t = blank_last (split 10 t) ∙ ap (λ (x : List (List (List ℕ))). is_blank (last_of x)) (pieces t)

map_drop_last : (ps : List (List ℕ)) → map (split 44) (drop_last ps) ≡ drop_last (map (split 44) ps)
map_drop_last [] = refl
map_drop_last (p ∷ []) = refl
map_drop_last (p ∷ q ∷ ps) = ap (λ (x : List (List (List ℕ))). split 44 p ∷ x) (map_drop_last (q ∷ ps))

pub lines_are : (t : List ℕ) → lines_of t ≡ drop_last (left t)
unfolding lines_of
lines_are t = map_drop_last (split 10 t) ∙ ap drop_last (pieces t)

-- what is not empty and is followed by no line is not blank
pub not_blank : (b : ℕ) (bs : List ℕ) → is_empty (cut (b ∷ bs)).lines ≡ true → is_blank (line (cut (b ∷ bs))) ≡ false
not_blank b bs h = by (sort b) h
  where
    by : Sort b → is_empty (cut (b ∷ bs)).lines ≡ true → is_blank (line (cut (b ∷ bs))) ≡ false
    by (Sort.ten e) h = clash (rw e at h) refl
    by (Sort.comma e) h = rw e
    by (Sort.other e f) h = rw (e, f)

-- ════ questions 1 and 8, of the lines one after the other

-- one number or more
abbrev pub are_numbers : List (List ℕ) → Bool
are_numbers [] = false
are_numbers (f ∷ fs) = is_number f && all is_number fs

-- behind a line's byte 10 there is nothing, or, in a book, a line that has its byte 10 too, and so on
abbrev pub is_rest : Bool → List (List (List ℕ)) → Bool
is_rest book [] = false
is_rest book (l ∷ ls) = cond (is_empty ls) (is_blank l) ((book && is_text_line l) && is_rest book ls)

swap : (x y z : Bool) → y && (x && z) ≡ x && (y && z)
swap true y z = refl
swap false y z = and-false y

rest_lines : (l : List (List ℕ)) (ls : List (List (List ℕ))) → is_rest true (l ∷ ls) ≡ is_blank (last_of (l ∷ ls)) && all is_text_line (drop_last (l ∷ ls))
rest_lines l [] = sym (and-true (is_blank l))
rest_lines l (m ∷ ms) =
    ap (λ (x : Bool). is_text_line l && x) (rest_lines m ms) ∙ swap (is_blank (last_of (m ∷ ms))) (is_text_line l) (all is_text_line (drop_last (m ∷ ms)))

-- question 1 of a text that is not empty
pub book_is : (b : ℕ) (bs : List ℕ) → is_book_text (b ∷ bs) ≡ is_rest true (left (b ∷ bs))
unfolding is_book_text
book_is b bs =
    rw (ended (b ∷ bs), lines_are (b ∷ bs)) (by (line (cut (b ∷ bs))) (cut (b ∷ bs)).lines (not_blank b bs))
  where
    by : (l : List (List ℕ)) (ls : List (List (List ℕ))) → (is_empty ls ≡ true → is_blank l ≡ false)
        → (not (is_empty (drop_last (l ∷ ls))) && is_blank (last_of (l ∷ ls))) && all is_text_line (drop_last (l ∷ ls)) ≡ is_rest true (l ∷ ls)
    by l [] h = sym (h refl)
    by l (m ∷ ms) h = sym (rest_lines l (m ∷ ms))

pub book_empty : is_book_text [] ≡ false
unfolding is_book_text lines_of split
book_empty = refl

-- question 8
pub direction_is : (t : List ℕ) → is_direction_text t ≡ are_numbers (line (cut t)) && is_rest false (cut t).lines
unfolding is_direction_text
direction_is t = rw (ended t, lines_are t) (by (cut t).field (cut t).fields (cut t).lines)
  where
    by : (f : List ℕ) (fs : List (List ℕ)) (ls : List (List (List ℕ)))
        → is_blank (last_of ((f ∷ fs) ∷ ls)) && is_one_line_of_numbers (drop_last ((f ∷ fs) ∷ ls)) ≡ are_numbers (f ∷ fs) && is_rest false ls
    by f fs [] = and-false (is_blank (f ∷ fs)) ∙ sym (and-false (are_numbers (f ∷ fs)))
    by f fs (m ∷ []) = and_comm (is_blank m) (are_numbers (f ∷ fs))
    by f fs (m ∷ n ∷ ls) = and-false (is_blank (last_of (n ∷ ls))) ∙ sym (and-false (are_numbers (f ∷ fs)))
