-- How long the lines of a sheet are: 2,048 bytes are enough for all of them.
use Prim.Native.Nat.{ℕ, zero, suc, ◌+◌, ◌*◌, ◌≤◌, ◌<◌}
use native.Mathlib.Nat.{mul-suc}
use native.Mathlib.Omega.{arith}
use mathlib.Core.Path.{◌≡◌, refl, sym, ap}
use mathlib.Core.List.{List, [], ◌∷◌, ◌++◌, map, map-append, append-nil}
use borrow.Author.Tests.{lt-ltb, le-ltb}
use lib.Dec.{ltb}
use lib.IntN.{ℤ, pos, negsuc}
use lib.ListN.{length, length-append}
use Rattle.laws.specs.Integers.{Within}
use Rattle.laws.specs.Lists.{concat, keep, numbers_from}
use Rattle.laws.proofs.Lists.{concat_++}
use Rattle.laws.proofs.Tests.{by_test}
use Rattle.meaning.specs.Render.{decimal, printed_line}
use Rattle.meaning.specs.State.{score_bound}
use Rattle.meaning.specs.Sheet.{Row, direction_line, direction_lines, count_of, largest, occurred, answer_line, total_line, printed, sheet_lines, sheet_of}
use Rattle.decimals.proofs.Digits.{at_most, negative}
use Rattle.printing.proofs.Lengths.{line_2_long, line_3_long, line_4_long, score_short}
use Rattle.sheet.specs.Rows.{row_at, rows_in, RowFits, Fits, count_line}
use Rattle.sheet.proofs.Rows.{rows_none, lines_next, count_small, largest_small, fewer}

-- ════ one line

-- a sum of 64 scores: eleven digits and a minus
total_digits : (z : ℤ) → Within (64 * score_bound) z → length (decimal z) ≤ 12
total_digits (pos n) h = omega (arith, at_most 10 n (omega arith))
total_digits (negsuc n) h = omega (arith, ap length (negative n), at_most 10 (suc n) (omega arith))

-- an N line: two digits, two, a score, and three
pub direction_short : (number : ℕ) (row : Row) → number ≤ 64 → RowFits row → length (printed (direction_line number row)) ≤ 23
direction_short number row l f =
    omega
    (arith, line_4_long 78 (pos number) (pos row.answer) row.score (pos row.words), at_most 1 number (omega arith), at_most 1 row.answer (omega (arith, f.answer)), score_short row.score f.score, at_most 2 row.words (omega (arith, f.words)))

-- an E line
pub answer_short : (answers : List ℤ) (n answer : ℕ) → n ≤ 64 → answer ≤ 34 → length (count_line (rows_in answers n) answer) ≤ 8
answer_short answers n answer l h =
    let rows = rows_in answers n in
    by_test (ltb 0 (count_of rows answer))
    (λ t. rw t (omega (arith, line_2_long 69 (pos answer) (pos (count_of rows answer)), at_most 1 answer (omega arith), at_most 1 (count_of rows answer) (omega (arith, count_small answers n answer)))))
    (λ f. rw f (omega arith))

-- the Z line
pub total_short : (n : ℕ) (words score : ℤ) → n ≤ 64 → Within (64 * 256) words → Within (64 * score_bound) score → length (printed_line 90 (pos n ∷ words ∷ score ∷ [])) ≤ 26
total_short n words score l w s =
    omega (arith, line_3_long 90 (pos n) words score, at_most 1 n (omega arith), words_digits words w, total_digits score s)
  where
    words_digits : (z : ℤ) → Within (64 * 256) z → length (decimal z) ≤ 6
    words_digits (pos n) h = omega (arith, at_most 4 n (omega arith))
    words_digits (negsuc n) h = omega (arith, ap length (negative n), at_most 4 (suc n) (omega arith))

-- ════ the lines before the last one

-- the N lines
pub directions_short : (answers : List ℤ) (n : ℕ) → Fits answers n → length (concat (map printed (direction_lines 1 (rows_in answers n)))) ≤ 23 * n
directions_short answers zero f = rw (rows_none answers) (omega arith)
directions_short answers (suc n) f =
    let e : suc n ≡ n + 1 = omega arith in
    let ls = direction_lines 1 (rows_in answers n) in
    let l = direction_line (n + 1) (row_at answers n) in
    rw (e, lines_next answers n, map-append, concat_++)
    (omega (arith, length-append (concat (map printed ls)) (printed l ++ []), length-append (printed l) [], directions_short answers n (fewer n (omega arith) f), direction_short (n + 1) (row_at answers n) (omega (arith, f.few)) (f.rows n (omega arith))))

-- the E lines of answers up to 34
pub answers_short : (answers : List ℤ) (n from many : ℕ) → n ≤ 64 → from + many ≤ 35 → length (concat (map (count_line (rows_in answers n)) (numbers_from from many))) ≤ 8 * many
answers_short answers n from zero l h = omega arith
answers_short answers n from (suc many) l h =
    let rows = rows_in answers n in
    omega
    (arith, length-append (count_line rows from) (concat (map (count_line rows) (numbers_from (suc from) many))), mul-suc 8 many, answer_short answers n from l (omega arith), answers_short answers n (suc from) many l (omega arith))

-- those of answers that occurred are the E lines
pub occurred_lines : (rows : List Row) → concat (map (count_line rows) (numbers_from 0 (suc (largest rows)))) ≡ concat (map printed (map (answer_line rows) (occurred rows)))
unfolding occurred
occurred_lines rows = kept (numbers_from 0 (suc (largest rows)))
  where
    kept : (ns : List ℕ) → concat (map (count_line rows) ns) ≡ concat (map printed (map (answer_line rows) (keep (λ answer. ltb 0 (count_of rows answer)) ns)))
    kept [] = refl
    kept (n ∷ ns) =
        by_test (ltb 0 (count_of rows n))
        (λ t. rw t (ap (λ (bs : List ℕ). printed (answer_line rows n) ++ bs) (kept ns)))
        (λ f. rw f (kept ns))

-- an answer that did not occur has no E line, and one that did has its
pub no_line : (rows : List Row) (answer : ℕ) {found : ℕ} → found ≡ count_of rows answer → found ≡ 0 → count_line rows answer ≡ []
no_line rows answer e z = rw (le-ltb 0 (count_of rows answer) (omega arith)) refl

pub its_line : (rows : List Row) (answer : ℕ) {found : ℕ} → found ≡ count_of rows answer → 0 < found → count_line rows answer ≡ printed_line 69 (pos answer ∷ pos found ∷ [])
its_line rows answer e l = rw (lt-ltb 0 (count_of rows answer) (omega arith)) (ap (λ (n : ℕ). printed_line 69 (pos answer ∷ pos n ∷ [])) (sym e))

-- all E lines
pub counts_short : (answers : List ℤ) (n : ℕ) → Fits answers n → length (concat (map printed (map (answer_line (rows_in answers n)) (occurred (rows_in answers n))))) ≤ 280
counts_short answers n f =
    let rows = rows_in answers n in let h = largest_small n f in
    omega (arith, ap length (occurred_lines rows), answers_short answers n 0 (suc (largest rows)) f.few (omega arith))

-- ════ the whole

-- a sheet as its parts, in the order in which they are put
pub sheet_parts : (rows : List Row) → concat (map printed (direction_lines 1 rows)) ++ concat (map printed (map (answer_line rows) (occurred rows))) ++ printed (total_line rows) ≡ sheet_of rows
unfolding sheet_of sheet_lines
sheet_parts rows = sym (rw (map-append, concat_++, map-append, concat_++, append-nil) refl)
