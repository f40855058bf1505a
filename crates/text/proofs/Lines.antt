-- A walk over the lines of a book's text: at a line's start, one line further, at the end.
use mathlib.Core.Path.{◌≡◌, refl, sym, ap, ◌∙◌}
use mathlib.Core.Bool.{Bool, true, false, cond, ◌&&◌}
use mathlib.Core.List.{List, [], ◌∷◌, ◌++◌, append-nil, map, drop_last}
use Prim.Native.Nat.{ℕ, ◌+◌, ◌-◌, ◌≤◌, ◌<◌}
use native.Mathlib.Numerals.{add-one}
use native.Mathlib.Omega.{arith}
use lib.IntN.{ℤ}
use lib.ListN.{length, take, drop, length-drop, drop_of_length-le}
use lib.Seq.{drop-drop}
use Rattle.laws.specs.Lists.{is_empty, concat}
use Rattle.laws.proofs.Tests.{both, clash}
use Rattle.meaning.specs.Book.{is_text_line, line_numbers, is_book_text, text_lines}
use Rattle.meaning.specs.Numerals.{lines_of, split}
use Rattle.text.specs.Walk.{text_numbers}
use Rattle.fields.specs.Fields.{line_length}
use Rattle.fields.proofs.Cut.{line, cut, left, Sort, sort, is_blank, is_rest, not_blank, lines_are, book_is, book_empty}

-- ════ one line of a text

abbrev blank : List (List (List ℕ))
blank = ([] ∷ []) ∷ []

-- t is a line with its byte 10, and what follows
record Parted (t : List ℕ) : Type 0 where
  first : line (cut (take (line_length t) t)) ≡ line (cut t)
  ended : (cut (take (line_length t) t)).lines ≡ blank
  after : left (drop (line_length t) t) ≡ (cut t).lines
  some : 0 < line_length t
  inside : line_length t ≤ length t

abbrev add_byte : ℕ → List (List ℕ) → List (List ℕ)
add_byte b [] = []
add_byte b (f ∷ fs) = (b ∷ f) ∷ fs

parted : (t : List ℕ) → is_empty (cut t).lines ≡ false → Parted t
parted [] h = clash refl h
parted (b ∷ bs) h = by (sort b) (parted bs) h
  where
    by : Sort b → (is_empty (cut bs).lines ≡ false → Parted bs) → is_empty (cut (b ∷ bs)).lines ≡ false → Parted (b ∷ bs)
    by (Sort.ten e) ih h = rw e (record { first = refl; ended = refl; after = refl; some = omega arith; inside = omega arith })
    by (Sort.comma e) ih h =
        let s = ih (rw e at h) in
        rw e
        (record {
          first = rw add-one (ap (λ (l : List (List ℕ)). [] ∷ l) s.first);
          ended = rw add-one s.ended;
          after = rw add-one s.after;
          some = omega arith;
          inside = omega (arith, s.inside);
        })
    by (Sort.other e f) ih h =
        let s = ih (rw (e, f) at h) in
        record {
          first = simp (e, add-one, f) (ap (add_byte b) s.first);
          ended = simp (e, add-one, f) s.ended;
          after = simp (e, add-one, f) s.after;
          some = simp e (omega arith);
          inside = simp e (omega (arith, s.inside));
        }

-- a text's lines as numbers, by its parts
abbrev numbered : List (List (List ℕ)) → List (List ℤ)
numbered ls = map line_numbers (drop_last ls)

lines_numbered : (t : List ℕ) → text_lines t ≡ numbered (left t)
unfolding text_lines
lines_numbered t = ap (map line_numbers) (lines_are t)

loaded_lines_lem : (t : List ℕ) → text_numbers t ≡ concat (text_lines t)
unfolding text_numbers
loaded_lines_lem t = refl

loaded_numbered : (t : List ℕ) → text_numbers t ≡ concat (numbered (left t))
loaded_numbered t = loaded_lines_lem t ∙ ap concat (lines_numbered t)

-- what is not empty and goes on as a book's text does is one
book_of : (p : List ℕ) → (cut p).lines ≡ blank → is_rest true (left p) ≡ true → is_book_text p ≡ true
book_of [] e h = clash refl (ap is_empty e)
book_of (b ∷ bs) e h = book_is b bs ∙ h

record Stepped (t : List ℕ) : Type 0 where
  part : is_book_text (take (line_length t) t) ≡ true
  lines : text_lines t ≡ text_numbers (take (line_length t) t) ∷ text_lines (drop (line_length t) t)
  rest : is_rest true (left (drop (line_length t) t)) ≡ true
  some : 0 < line_length t
  inside : line_length t ≤ length t

-- p is the line l with its byte 10, and u has the lines ls
module _ (p u : List ℕ) (l : List (List ℕ)) where
  one_line : (ls : List (List (List ℕ))) → line (cut p) ≡ l → (cut p).lines ≡ blank → left u ≡ ls → is_empty ls ≡ false → is_rest true (l ∷ ls) ≡ true
      → (is_book_text p ≡ true) × (numbered (l ∷ ls) ≡ text_numbers p ∷ text_lines u) × (is_rest true (left u) ≡ true)
  one_line [] e1 e2 e3 n g = clash refl n
  one_line (m ∷ ms) e1 e2 e3 n g =
      let hs = both (is_text_line l) (is_rest true (m ∷ ms)) g in
      let w : left p ≡ l ∷ blank = ap (λ (x : List (List ℕ)). x ∷ (cut p).lines) e1 ∙ ap (λ (x : List (List (List ℕ))). l ∷ x) e2 in (
        book_of p e2 (ap (is_rest true) w ∙ ap (λ (x : Bool). x && true) hs.0),
        sym
            (ap (λ (x : List ℤ). x ∷ text_lines u) (loaded_numbered p ∙ ap (λ (x : List (List (List ℕ))). concat (numbered x)) w ∙ append-nil (line_numbers l))
            ∙ ap (λ (x : List (List ℤ)). line_numbers l ∷ x) (lines_numbered u ∙ ap numbered e3)),
        ap (is_rest true) e3 ∙ hs.1,
      )

stepped : (t : List ℕ) → 0 < length t → is_rest true (left t) ≡ true → Stepped t
stepped [] h g = absurd (omega arith)
stepped (b ∷ bs) h g = by (is_empty (cut (b ∷ bs)).lines) refl
  where
    by : (x : Bool) → is_empty (cut (b ∷ bs)).lines ≡ x → Stepped (b ∷ bs)
    by true e =
        clash g
        (ap (λ (x : Bool). cond x (is_blank (line (cut (b ∷ bs)))) (is_text_line (line (cut (b ∷ bs))) && is_rest true (cut (b ∷ bs)).lines)) e
        ∙ not_blank b bs e)
    by false e =
        let s = parted (b ∷ bs) e in
        let o = one_line (take (line_length (b ∷ bs)) (b ∷ bs)) (drop (line_length (b ∷ bs)) (b ∷ bs)) (line (cut (b ∷ bs))) (cut (b ∷ bs)).lines s.first s.ended s.after e g in
        record { part = o.0; lines = lines_numbered (b ∷ bs) ∙ o.1; rest = o.2; some = s.some; inside = s.inside }

-- ════ the walk

-- a line starts at `at`, or the text ends there
pub record At (t : List ℕ) (at : ℕ) : Type 0 where
  pub good : is_rest true (left (drop at t)) ≡ true
  pub within : at ≤ length t

pub at_start : (t : List ℕ) → is_book_text t ≡ true → At t 0
at_start [] h = clash h book_empty
at_start (b ∷ bs) h = record { good = sym (book_is b bs) ∙ h; within = omega arith }

pub at_end : (t : List ℕ) (at : ℕ) → length t ≤ at → text_lines (drop at t) ≡ []
unfolding text_lines lines_of split
at_end t at h = ap text_lines (drop_of_length-le t h)

-- the line from `at` to e, and the lines after it
pub record Next (t : List ℕ) (at e : ℕ) : Type 0 where
  pub part : is_book_text (take (e - at) (drop at t)) ≡ true
  pub lines : text_lines (drop at t) ≡ text_numbers (take (e - at) (drop at t)) ∷ text_lines (drop e t)
  pub then : At t e
  pub more : at < e

pub next_line : (t : List ℕ) (at e : ℕ) → At t at → at < length t → e ≡ at + line_length (drop at t) → Next t at e
next_line t at e a h q =
    let d : length (drop at t) ≡ length t - at = length-drop at t in
    let s = stepped (drop at t) (omega arith) a.good in
    let n : e - at ≡ line_length (drop at t) = omega arith in
    let u : drop (line_length (drop at t)) (drop at t) ≡ drop e t = drop-drop (line_length (drop at t)) at t ∙ ap (λ (k : ℕ). drop k t) (sym q) in
    record {
      part = ap (λ (k : ℕ). is_book_text (take k (drop at t))) n ∙ s.part;
      lines =
          s.lines
          ∙ ap (λ (k : ℕ). text_numbers (take k (drop at t)) ∷ text_lines (drop (line_length (drop at t)) (drop at t))) (sym n)
          ∙ ap (λ (x : List ℕ). text_numbers (take (e - at) (drop at t)) ∷ text_lines x) u;
      then = record { good = ap (λ (x : List ℕ). is_rest true (left x)) (sym u) ∙ s.rest; within = omega (arith, s.inside) };
      more = omega (arith, s.some);
    }

-- the numbers of the line from `at` to e, and those of the lines after it
pub loaded_next : {t : List ℕ} {at e : ℕ} → Next t at e → text_numbers (drop at t) ≡ text_numbers (take (e - at) (drop at t)) ++ text_numbers (drop e t)
loaded_next {t} {at} {e} n =
    loaded_lines_lem (drop at t) ∙ ap concat n.lines ∙ ap (λ (x : List ℤ). text_numbers (take (e - at) (drop at t)) ++ x) (sym (loaded_lines_lem (drop e t)))

pub loaded_end : (t : List ℕ) (at : ℕ) → length t ≤ at → text_numbers (drop at t) ≡ []
loaded_end t at h = loaded_lines_lem (drop at t) ∙ ap concat (at_end t at h)
