-- How many n-grams a text can have, and how many numbers its loaded book: a whole line has four numbers, and each number two bytes of a book's text, one at least before its mark.
use Prim.Native.Nat.{ℕ, ◌+◌, ◌*◌, ◌≤◌}
use native.Mathlib.Omega.{arith}
use mathlib.Core.Path.{◌≡◌, refl, ap}
use mathlib.Core.Bool.{true, not, ◌&&◌}
use mathlib.Core.List.{List, [], ◌∷◌, ◌++◌, map}
use lib.IntN.{ℤ}
use lib.ListN.{length, take, length-append, length-take}
use Rattle.laws.specs.Lists.{all, count, is_empty, concat}
use Rattle.laws.proofs.Bits.{one_le}
use Rattle.laws.proofs.Lists.{count_cons}
use Rattle.laws.proofs.Tests.{both, clash}
use Rattle.meaning.specs.Numerals.{lines_of, is_ended}
use Rattle.meaning.specs.Book.{Form, in_text, is_text_line, is_book_text, line_numbers, is_whole, is_gram, text_lines, stored_counts, with_counts, loaded_book, loaded_of}
use Rattle.meaning.proofs.Sizes.{four_numbers}
use Rattle.fields.specs.Scan.{Scan, Line, Kind, Field, Minus, Digits, Broken, next, run, at_line, emit}
use Rattle.fields.proofs.Cut.{Sort, sort}
use Rattle.fields.proofs.Form.{broken, accepted, no_line, book_run}
use Rattle.text.specs.Walk.{text_numbers}
use Rattle.text.proofs.Numbers.{book_numbers}
use Rattle.book.specs.Survey.{gram_count}
use Rattle.book.proofs.Counts.{grams_counted}
use Rattle.reading.specs.Text.{WholeText}
use Rattle.book.specs.declared.survey.Survey.{Survey}

-- ---- the bytes of the numbers

-- the bytes of a number that were read before its mark, one at most counted
abbrev begun : Scan → ℕ
begun Line = 0
begun (Kind k) = 1
begun Field = 0
begun Minus = 1
begun (Digits m v) = 1
begun Broken = 0

begun_most : (s : Scan) → begun s ≤ 1
begun_most Line = omega arith
begun_most (Kind k) = omega arith
begun_most Field = omega arith
begun_most Minus = omega arith
begun_most (Digits m v) = omega arith
begun_most Broken = omega arith

-- what a text of good lines gives, by what has been read
abbrev Two : Scan → List ℕ → Type 0
Two s t = at_line (run true s t) ≡ true → 2 * length (emit true s t) ≤ length t + begun s

module _ (bs : List ℕ) (ih : (s : Scan) → Two s bs) where
  none : {A : Type 0} (s : Scan) → s ≡ Broken → at_line (run true s bs) ≡ true → A
  none s e h = clash h (rw e (broken true bs))

  -- behind a mark a line or a field starts: two bytes of the number are counted, or nothing had been read of it
  mark_ten : (s : Scan) → at_line (run true (next true s 10) bs) ≡ true → 2 * (length (emit true (next true s 10) bs) + 1) ≤ length bs + 1 + begun s
  mark_ten Line h = none _ (no_line true bs (accepted true bs) true).0 h
  mark_ten (Kind k) h = none _ refl h
  mark_ten Field h = none _ refl h
  mark_ten Minus h = none _ refl h
  mark_ten (Digits m v) h = omega (arith, ih Line h)
  mark_ten Broken h = none _ refl h

  mark_comma : (s : Scan) → at_line (run true (next true s 44) bs) ≡ true → 2 * (length (emit true (next true s 44) bs) + 1) ≤ length bs + 1 + begun s
  mark_comma Line h = none _ (no_line true bs (accepted true bs) true).1 h
  mark_comma (Kind k) h = omega (arith, ih Field h)
  mark_comma Field h = none _ refl h
  mark_comma Minus h = none _ refl h
  mark_comma (Digits m v) h = omega (arith, ih Field h)
  mark_comma Broken h = none _ refl h

two_bytes : (t : List ℕ) (s : Scan) → Two s t
two_bytes [] s h = omega arith
two_bytes (b ∷ bs) s h = by (sort b) (two_bytes bs)
  where
    by : Sort b → ((s : Scan) → Two s bs) → 2 * length (emit true s (b ∷ bs)) ≤ length (b ∷ bs) + begun s
    by (Sort.ten e) ih = let n = mark_ten bs ih s (rw e at h) in rw e (omega (arith, n))
    by (Sort.comma e) ih = let n = mark_comma bs ih s (rw e at h) in rw e (omega (arith, n))
    by (Sort.other e f) ih = let n = ih (next true s b) h in simp (e, f) (omega (arith, n, begun_most (next true s b)))

-- ---- the numbers of the lines

four_each : (form : Form) (lines : List (List ℤ)) → all (is_whole form) lines ≡ true → 4 * count is_gram lines ≤ length (concat lines)
four_each form [] h = omega arith
four_each form (line ∷ lines) h =
    let w = both (is_whole form line) (all (is_whole form) lines) h in
    omega (arith, four_numbers form line w.0, four_each form lines w.1, count_cons is_gram line lines, length-append line (concat lines), one_le (is_gram line))

-- ---- so a line of an n-gram has eight bytes

pub eight_bytes : {text index₀ index₁ tally : List ℕ} {s : Survey} {n : ℕ} → WholeText text index₀ index₁ tally s n → 8 * gram_count tally ≤ length text
unfolding text_numbers
eight_bytes {text} w =
    let each = four_each in_text (text_lines text) w.lines.whole in
    let two = two_bytes text Line (book_run text w.formed) in
    omega (arith, each, two, ap length (book_numbers text w.formed), ap gram_count w.lines.tallied, grams_counted (text_lines text))

-- ---- and the loaded book no more numbers than the text has bytes

-- the counts are two numbers more
counts_two : (lines : List (List ℤ)) → length (concat (with_counts lines)) ≤ 2 + length (concat lines)
counts_two [] = omega arith
counts_two (line ∷ lines) =
    omega (arith, length-append (take 4 line ++ stored_counts (line ∷ lines)) (concat lines), length-append (take 4 line) (stored_counts (line ∷ lines)), length-take 4 line, length-append line (concat lines))

-- a text has two numbers at least: the kind of its first line, and one behind it
two_numbers : (lines : List (List (List ℕ))) → not (is_empty lines) ≡ true → all is_text_line lines ≡ true → 2 ≤ length (concat (map line_numbers lines))
unfolding is_text_line
two_numbers [] s t = clash s refl
two_numbers ([] ∷ lines) s t = clash (both (is_text_line []) (all is_text_line lines) t).0 refl
two_numbers ((letter ∷ []) ∷ lines) s t = clash (both (is_text_line (letter ∷ [])) (all is_text_line lines) t).0 refl
two_numbers ((letter ∷ field ∷ fields) ∷ lines) s t = omega arith

pub loaded_few : (text : List ℕ) → is_book_text text ≡ true → length (loaded_of text) ≤ length text
unfolding loaded_of loaded_book text_numbers text_lines is_book_text
loaded_few text h =
    let a = both (not (is_empty (lines_of text)) && is_ended text) (all is_text_line (lines_of text)) h in
    let s = both (not (is_empty (lines_of text))) (is_ended text) a.0 in
    let two = two_bytes text Line (book_run text h) in
    omega (arith, two, ap length (book_numbers text h), counts_two (text_lines text), two_numbers (lines_of text) s.0 a.1)
