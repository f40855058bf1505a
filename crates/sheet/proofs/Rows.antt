-- The rows that stand in a round's answers, one more at a time, as the loops take them.
use Prim.Native.Nat.{ℕ, zero, suc, ◌+◌, ◌≤◌, max}
use native.Mathlib.Omega.{arith}
use mathlib.Core.Path.{◌≡◌, refl, ap, ◌∙◌}
use mathlib.Core.List.{List, [], ◌∷◌, ◌++◌, map, map-append}
use lib.Dec.{eqb}
use lib.IntN.{ℤ}
use lib.ListN.{length, length-map}
use Rattle.std.specs.List.{range_with_len, filter, fold, reduce}
use Rattle.std.specs.Option.{unwrap_or}
use Rattle.laws.specs.Lists.{numbers_from, count}
use Rattle.laws.proofs.Tests.{by_test}
use Rattle.laws.proofs.Lists.{count_le, numbers_length, numbers_next}
use Rattle.meaning.specs.Sheet.{Row, Line, direction_line, direction_lines, count_of, largest}
use Rattle.sheet.specs.Rows.{row_at, rows_in, Fits}

-- ════ one row more

pub rows_none : (answers : List ℤ) → rows_in answers 0 ≡ []
unfolding rows_in
rows_none answers = refl

pub rows_next : (answers : List ℤ) (k : ℕ) → rows_in answers (k + 1) ≡ rows_in answers k ++ (row_at answers k ∷ [])
unfolding rows_in
rows_next answers k =
    let e : 0 + k ≡ k = omega arith in
    ap (map (row_at answers)) (numbers_next 0 k) ∙ rw e (map-append (row_at answers) (numbers_from 0 k) (k ∷ []))

pub rows_count : (answers : List ℤ) (n : ℕ) → length (rows_in answers n) ≡ n
unfolding rows_in
rows_count answers n = length-map (numbers_from 0 n) (row_at answers) ∙ numbers_length 0 n

lines_snoc : (number : ℕ) (rows : List Row) (row : Row) → direction_lines number (rows ++ (row ∷ [])) ≡ direction_lines number rows ++ (direction_line (number + length rows) row ∷ [])
lines_snoc number [] row = let e : number + 0 ≡ number = omega arith in rw e refl
lines_snoc number (r ∷ rows) row =
    let e : suc number + length rows ≡ number + suc (length rows) = omega arith in
    ap (λ (ls : List Line). direction_line number r ∷ ls) (lines_snoc (suc number) rows row ∙ rw e refl)

pub lines_next : (answers : List ℤ) (k : ℕ) → direction_lines 1 (rows_in answers (k + 1)) ≡ direction_lines 1 (rows_in answers k) ++ (direction_line (k + 1) (row_at answers k) ∷ [])
lines_next answers k =
    let e : 1 + length (rows_in answers k) ≡ k + 1 = omega (arith, rows_count answers k) in
    rw (rows_next answers k) (lines_snoc 1 (rows_in answers k) (row_at answers k) ∙ rw e refl)

pub count_small : (answers : List ℤ) (n answer : ℕ) → count_of (rows_in answers n) answer ≤ n
unfolding count_of
count_small answers n answer = omega (arith, count_le (λ row. eqb row.answer answer) (rows_in answers n), rows_count answers n)

largest_snoc : (rows : List Row) (row : Row) → largest (rows ++ (row ∷ [])) ≡ max (largest rows) row.answer
largest_snoc [] row = omega arith
largest_snoc (r ∷ rows) row = omega (arith, largest_snoc rows row)

pub largest_next : (answers : List ℤ) (k : ℕ) → largest (rows_in answers (k + 1)) ≡ max (largest (rows_in answers k)) (row_at answers k).answer
largest_next answers k = rw (rows_next answers k) (largest_snoc (rows_in answers k) (row_at answers k))

-- ════ a round's rows fit

-- fewer of them fit too
pub fewer : {answers : List ℤ} {n : ℕ} (k : ℕ) → k ≤ n → Fits answers n → Fits answers k
fewer k l f = record {
  few = omega (arith, f.few);
  long = omega (arith, f.long);
  rows = λ i h. f.rows i (omega arith);
  answer = λ i h. f.answer i (omega arith);
  words = λ i h. f.words i (omega arith);
}

pub largest_small : {answers : List ℤ} (n : ℕ) → Fits answers n → largest (rows_in answers n) ≤ 34
largest_small {answers} zero f = let e = ap largest (rows_none answers) in omega arith
largest_small {answers} (suc n) f =
    let e : suc n ≡ n + 1 = omega arith in
    rw e (omega (arith, largest_next answers n, largest_small n (fewer n (omega arith) f), (f.rows n (omega arith)).answer))

-- ════ the rows by their directions

numbers_are : (from many : ℕ) → range_with_len from many ≡ numbers_from from many
numbers_are from zero = refl
numbers_are from (suc many) = let e : from + 1 ≡ suc from = omega arith in ap (λ (ns : List ℕ). from ∷ ns) (ap (λ (k : ℕ). range_with_len k many) e ∙ numbers_are (suc from) many)

module _ (answers : List ℤ) where
  abbrev pub answer_of : ℕ → ℕ
  answer_of k = (row_at answers k).answer

  counted_in : (answer : ℕ) (ns : List ℕ) → length (filter (λ k. eqb (answer_of k) answer) ns) ≡ count (λ row. eqb row.answer answer) (map (row_at answers) ns)
  counted_in answer [] = refl
  counted_in answer (n ∷ ns) = by_test (eqb (answer_of n) answer) (λ t. rw t (ap suc (counted_in answer ns))) (λ f. rw f (counted_in answer ns))

  pub counted : (n answer : ℕ) → length (filter (λ k. eqb (answer_of k) answer) (range_with_len 0 n)) ≡ count_of (rows_in answers n) answer
  unfolding rows_in count_of
  counted n answer = ap (λ (ns : List ℕ). length (filter (λ k. eqb (answer_of k) answer) ns)) (numbers_are 0 n) ∙ counted_in answer (numbers_from 0 n)

  largest_from : (most : ℕ) (ns : List ℕ) → fold max most (map answer_of ns) ≡ max most (largest (map (row_at answers) ns))
  largest_from most [] = omega arith
  largest_from most (n ∷ ns) = omega (arith, largest_from (max most (answer_of n)) ns)

  largest_in : (ns : List ℕ) → unwrap_or (reduce max (map answer_of ns)) 0 ≡ largest (map (row_at answers) ns)
  largest_in [] = refl
  largest_in (n ∷ ns) = largest_from (answer_of n) ns

  pub largest_is : (n : ℕ) → unwrap_or (reduce max (map answer_of (range_with_len 0 n))) 0 ≡ largest (rows_in answers n)
  unfolding rows_in
  largest_is n = ap (λ (ns : List ℕ). unwrap_or (reduce max (map answer_of ns)) 0) (numbers_are 0 n) ∙ largest_in (numbers_from 0 n)
