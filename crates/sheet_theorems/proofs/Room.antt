-- Ticket 8: a sheet of decodes (Call, `rows_decoded`) has at most 1,430 bytes (`sheet_room`), so the 2,048 that are asked for are enough. Beside the digits of its number an N line
-- of an answer has at most 20 bytes, and one of a refusal 10; each E line has at most 8 and, but for that of answer 0, an N line of a refusal of its own.
use Prim.Native.Nat.{ℕ, zero, suc, ◌+◌, ◌-◌, ◌*◌, ◌≤◌}
use native.Mathlib.Omega.{arith}
use mathlib.Core.Path.{◌≡◌, refl, ap, ◌∙◌}
use mathlib.Core.Bool.{cond}
use mathlib.Core.List.{List, [], ◌∷◌, ◌++◌, map, map-map, map-append, Memᴰ}
use borrow.Author.Tests.{ltb-true, ltb-false}
use lib.Dec.{eqb, ltb}
use lib.IntN.{ℤ, pos, negsuc}
use lib.ListN.{length, length-append, replicate}
use Rattle.laws.specs.Integers.{Within}
use Rattle.laws.specs.Lists.{concat, keep, numbers_from, sumℤ}
use Rattle.laws.proofs.Bounds.{within_+, within_mono}
use Rattle.laws.proofs.Lists.{concat_++, count_le, keep_mem, numbers_mem, numbers_length}
use Rattle.laws.proofs.Tests.{by_test, if_ind}
use Rattle.meaning.specs.Render.{decimal, printed_line}
use Rattle.meaning.specs.State.{score_bound}
use Rattle.meaning.specs.Sheet.{Row, Line, direction_line, direction_lines, count_of, largest, occurred, answer_line, total_line, sheet_lines, printed, sheet_of}
use Rattle.decimals.proofs.Digits.{digit, at_most, negative}
use Rattle.printing.proofs.Lengths.{line_2_long, line_3_long, line_4_long, two_digits, score_short, each_short}
use Rattle.sheet_theorems.proofs.Totals.{total, total_is, total_keep, total_most, total_least, total_numbers}
use Rattle.sheet_theorems.proofs.Sheet.{is_counted, rows_counted}

-- what a row of a decode holds
pub record OfDecode (row : Row) : Type 0 where
  pub answer_to : row.answer ≤ 34
  pub score_to : Within score_bound row.score
  pub words_to : row.words ≤ 256
  pub score_refused : 1 ≤ row.answer → row.score ≡ pos 0
  pub words_refused : 1 ≤ row.answer → row.words ≡ 0

-- ════ lines

-- the digits of a number
abbrev digits_in : ℕ → ℕ
digits_in n = length (decimal (pos n))

-- 10 more in a line of an answer
abbrev more : Row → ℕ
more row = cond (eqb row.answer 0) 10 0

zero_digit : digits_in 0 ≡ 1
zero_digit = ap length (digit 0 (omega arith))

n_short : (number : ℕ) (row : Row) → OfDecode row → length (printed (direction_line number row)) ≤ 10 + digits_in number + more row
n_short number row d = by row.answer refl
  where
    long : length (printed (direction_line number row)) ≡ 6 + digits_in number + digits_in row.answer + length (decimal row.score) + digits_in row.words
    long = line_4_long 78 (pos number) (pos row.answer) row.score (pos row.words)

    by : (k : ℕ) → row.answer ≡ k → length (printed (direction_line number row)) ≤ 10 + digits_in number + more row
    by zero e =
        let ten : more row ≡ 10 = ap (λ (k : ℕ). cond {A = ℕ} (eqb k 0) 10 0) e in
        omega (arith, ten, long, ap digits_in e, zero_digit, score_short row.score d.score_to, at_most 2 row.words (omega (arith, d.words_to)))
    by (suc k) e =
        let l : 1 ≤ row.answer = omega arith in
        omega (arith, long, two_digits row.answer (omega (arith, d.answer_to)), ap (λ (z : ℤ). length (decimal z)) (d.score_refused l), ap digits_in (d.words_refused l), zero_digit)

-- the bytes of lines
abbrev size : List Line → ℕ
size lines = length (concat (map printed lines))

size_++ : (xs ys : List Line) → size (xs ++ ys) ≡ size xs + size ys
size_++ xs ys =
    ap (λ (l : List (List ℕ)). length (concat l)) (map-append printed xs ys) ∙ ap length (concat_++ (map printed xs) (map printed ys))
    ∙ length-append (concat (map printed xs)) (concat (map printed ys))

more_counted : (row : Row) (rows : List Row) → 10 * count_of (row ∷ rows) 0 ≡ more row + 10 * count_of rows 0
unfolding count_of
more_counted row rows = by_test (eqb row.answer 0) (λ t. rw t (omega arith)) (λ f. rw f (omega arith))

-- every row is one of a decode
abbrev pub OfDecodes : List Row → Type 0
OfDecodes rows = (row : Row) → Memᴰ row rows → OfDecode row

n_lines_short : (number : ℕ) (rows : List Row) → OfDecodes rows
    → size (direction_lines number rows) ≤ 10 * length rows + total digits_in (numbers_from number (length rows)) + 10 * count_of rows 0
n_lines_short number [] d = omega arith
n_lines_short number (row ∷ rows) d =
    omega
    (arith, length-append (printed (direction_line number row)) (concat (map printed (direction_lines (suc number) rows))), n_short number row (d row (Memᴰ.head refl)), more_counted row rows, n_lines_short (suc number) rows (λ r m. d r (Memᴰ.tail m)))

-- the numbers 1 to 9 have one digit, those up to 64 two
numbers_short : (n : ℕ) → n ≤ 64 → total digits_in (numbers_from 1 n) ≤ 119
numbers_short n l =
    by_test (ltb n 10) (λ t. let h = ltb-true n 10 t in omega (arith, one_digit n (omega arith)))
    (λ f. let h = ltb-false n 10 f in let e : 9 + (n - 9) ≡ n = omega arith in
    let s : total digits_in (numbers_from 1 (9 + (n - 9))) ≤ 9 + 2 * (n - 9) = omega (arith, total_numbers digits_in 1 9 (n - 9), one_digit 9 (omega arith), two (n - 9) (omega arith)) in
    omega (arith, ap (λ (m : ℕ). total digits_in (numbers_from 1 m)) e, s))
  where
    one_digit : (m : ℕ) → m ≤ 9 → total digits_in (numbers_from 1 m) ≤ m
    one_digit m h = omega (arith, numbers_length 1 m, total_most digits_in 1 (numbers_from 1 m) (λ x i. at_most 0 x (omega (arith, numbers_mem 1 m x i))))

    two : (m : ℕ) → m ≤ 55 → total digits_in (numbers_from 10 m) ≤ 2 * m
    two m h = omega (arith, numbers_length 10 m, total_most digits_in 2 (numbers_from 10 m) (λ x i. two_digits x (omega (arith, numbers_mem 10 m x i))))

largest_to : (rows : List Row) → OfDecodes rows → largest rows ≤ 34
largest_to [] d = omega arith
largest_to (row ∷ rows) d = omega (arith, (d row (Memᴰ.head refl)).answer_to, largest_to rows (λ r m. d r (Memᴰ.tail m)))

module _ (rows : List Row) (d : OfDecodes rows) (few : length rows ≤ 64) where
  count_few : (answer : ℕ) → count_of rows answer ≤ 64
  unfolding count_of
  count_few answer = omega (arith, few, count_le (λ row. eqb row.answer answer) rows)

  e_short : (answer : ℕ) → answer ≤ 34 → length (printed (answer_line rows answer)) ≤ 8
  e_short answer l =
      let c = count_few answer in
      omega (arith, line_2_long 69 (pos answer) (pos (count_of rows answer)), two_digits answer (omega arith), two_digits (count_of rows answer) (omega arith))

  e_zero_short : length (printed (answer_line rows 0)) ≤ 7
  e_zero_short = let c = count_few 0 in omega (arith, line_2_long 69 (pos 0) (pos (count_of rows 0)), zero_digit, two_digits (count_of rows 0) (omega arith))

  -- the refusals that occurred are no more than the refused rows
  abbrev later : List ℕ
  later = numbers_from 1 (largest rows)

  abbrev refusals : List ℕ
  refusals = keep (is_counted rows) later

  refusals_few : length refusals + count_of rows 0 ≤ length rows
  refusals_few =
      let a = total_least (count_of rows) refusals (λ k m. ltb-true 0 (count_of rows k) (keep_mem (is_counted rows) later m).1) in
      omega (arith, a, total_keep (count_of rows) later, rows_counted rows (largest rows) (omega arith))

  refusals_short : size (map (answer_line rows) refusals) ≤ 8 * length refusals
  refusals_short =
      let l = largest_to rows d in
      omega (
        arith,
        ap (λ (l : List (List ℕ)). length (concat l)) (map-map printed (answer_line rows) refusals),
        each_short (λ k. printed (answer_line rows k)) 8 refusals (λ k m. e_short k (omega (arith, numbers_mem 1 (largest rows) k (keep_mem (is_counted rows) later m).0))),
      )

  e_lines_short : size (map (answer_line rows) (occurred rows)) ≤ 7 + 8 * length refusals
  unfolding occurred
  e_lines_short =
      if_ind (is_counted rows 0) (λ (answers : List ℕ). size (map (answer_line rows) answers) ≤ 7 + 8 * length refusals)
      (λ t. omega (arith, length-append (printed (answer_line rows 0)) (concat (map printed (map (answer_line rows) refusals))), e_zero_short, refusals_short))
      (λ f. omega (arith, refusals_short))

-- the sums of the Z line
scores_within : (rows : List Row) → OfDecodes rows → Within (length rows * score_bound) (sumℤ (map (λ row. row.score) rows))
scores_within [] d = omega arith
scores_within (row ∷ rows) d =
    within_mono (omega arith) (within_+ (d row (Memᴰ.head refl)).score_to (scores_within rows (λ r m. d r (Memᴰ.tail m))))

sum_short : (z : ℤ) → Within (64 * score_bound) z → length (decimal z) ≤ 12
sum_short (pos n) h = omega (arith, at_most 10 n (omega arith))
sum_short (negsuc n) h = omega (arith, ap length (negative n), at_most 10 (suc n) (omega arith))

module _ (rows : List Row) (d : OfDecodes rows) (few : length rows ≤ 64) where
  z_short : length (printed (total_line rows)) ≤ 24
  z_short =
      let w = total_most (λ row. row.words) 256 rows (λ row m. (d row m).words_to) in
      let words = sumℤ (map (λ row. pos row.words) rows) in
      let scores = sumℤ (map (λ row. row.score) rows) in
      omega (
        arith,
        line_3_long 90 (pos (length rows)) words scores,
        two_digits (length rows) (omega arith),
        ap (λ (z : ℤ). length (decimal z)) (total_is (λ row. row.words) rows),
        at_most 4 (total (λ row. row.words) rows) (omega arith),
        sum_short scores (within_mono (omega arith) (scores_within rows d)),
      )

  -- "puts the sheet in lent bytes": it has at most 1,430
  pub sheet_room : length (sheet_of rows) ≤ 1_430
  unfolding sheet_of sheet_lines
  sheet_room =
      let ns = direction_lines 1 rows in let es = map (answer_line rows) (occurred rows) in
      omega (
        arith,
        size_++ (ns ++ es) (total_line rows ∷ []),
        size_++ ns es,
        length-append (printed (total_line rows)) [],
        n_lines_short 1 rows d,
        numbers_short (length rows) few,
        e_lines_short rows d few,
        refusals_few rows d few,
        z_short,
        few,
      )

-- and it can have as many: 64 answers of 256 words and the lowest score
pub sheet_longest : length (sheet_of (replicate 64 (record { answer = 0; score = negsuc 810_239_999; words = 256 }))) ≡ 1_430
unfolding sheet_of sheet_lines occurred count_of printed_line decimal
sheet_longest = refl
