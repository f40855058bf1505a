-- One line more is put, as the loops of a sheet go on.
use Prim.Native.Nat.{ℕ, ◌+◌}
use native.Mathlib.Omega.{arith}
use mathlib.Core.Path.{◌≡◌, refl, sym, ap, ◌∙◌}
use mathlib.Core.List.{List, [], ◌∷◌, ◌++◌, map, map-append, append-nil}
use lib.IntN.{ℤ, ◌+ℤ◌, +ℤ_idr}
use Rattle.laws.specs.Lists.{concat, numbers_from, sumℤ}
use Rattle.laws.proofs.Lists.{concat_++, numbers_next}
use Rattle.laws.proofs.Sums.{sum_++}
use Rattle.meaning.specs.Sheet.{Row, direction_line, direction_lines, printed}
use Rattle.decimals.specs.Put.{Put}
use Rattle.decimals.proofs.Laws.{put_is, put_then}
use Rattle.sheet.specs.Rows.{number_at, row_at, rows_in, count_line}
use Rattle.sheet.proofs.Rows.{lines_next}

one_more : {A : Type 0} (f : A → List ℕ) (xs : List A) (x : A) → concat (map f (xs ++ (x ∷ []))) ≡ concat (map f xs) ++ f x
one_more f xs x = rw (map-append, concat_++, append-nil) refl

numbers_more : (k : ℕ) → numbers_from 0 (k + 1) ≡ numbers_from 0 k ++ (k ∷ [])
numbers_more k = let e : 0 + k ≡ k = omega arith in numbers_next 0 k ∙ rw e refl

-- an N line
pub direction_more : (answers : List ℤ) (k : ℕ) {next r : ℕ} {old mid new : List ℕ} → Put (concat (map printed (direction_lines 1 (rows_in answers k)))) 0 next old mid
    → Put (printed (direction_line (k + 1) (row_at answers k))) next r mid new → Put (concat (map printed (direction_lines 1 (rows_in answers (k + 1))))) 0 r old new
direction_more answers k p q =
    put_is (sym (one_more printed (direction_lines 1 (rows_in answers k)) (direction_line (k + 1) (row_at answers k))) ∙ rw (lines_next answers k) refl) (put_then p q)

-- an E line
pub answer_more : (rows : List Row) (answer : ℕ) {at next r : ℕ} {old mid new : List ℕ} → Put (concat (map (count_line rows) (numbers_from 0 answer))) at next old mid
    → Put (count_line rows answer) next r mid new → Put (concat (map (count_line rows) (numbers_from 0 (answer + 1)))) at r old new
answer_more rows answer p q = put_is (sym (one_more (count_line rows) (numbers_from 0 answer) answer) ∙ rw (numbers_more answer) refl) (put_then p q)

-- a number more in a sum
pub sum_more : (answers : List ℤ) (place k : ℕ) → sumℤ (map (number_at answers place) (numbers_from 0 (k + 1))) ≡ sumℤ (map (number_at answers place) (numbers_from 0 k)) +ℤ number_at answers place k
sum_more answers place k =
    rw (numbers_more k, map-append, sum_++) (ap (λ (z : ℤ). sumℤ (map (number_at answers place) (numbers_from 0 k)) +ℤ z) (+ℤ_idr (number_at answers place k)))
