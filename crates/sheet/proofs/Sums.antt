-- The numbers of a place among the nine, and their sums, are within bounds.
use Prim.Native.Nat.{ℕ, zero, suc, ◌+◌, ◌*◌, ◌≤◌, ◌<◌}
use native.Mathlib.Nat.{mul-le-mul, le_refl, le_trans}
use native.Mathlib.Omega.{arith}
use mathlib.Core.Path.{◌≡◌, refl, sym, ap, ◌∙◌, subst}
use mathlib.Core.List.{List, [], ◌∷◌, map, map-map}
use lib.IntN.{ℤ, pos}
use lib.ListN.{length, get_or, length-map}
use Rattle.laws.specs.Integers.{Within}
use Rattle.laws.specs.Lists.{numbers_from, sumℤ, Each}
use Rattle.laws.proofs.Bounds.{within_mono}
use Rattle.laws.proofs.Lists.{numbers_length, numbers_get_d}
use Rattle.laws.proofs.Sums.{sum_within}
use Rattle.meaning.specs.State.{score_bound}
use Rattle.meaning.specs.Sheet.{Row}
use Rattle.sheet.specs.Rows.{number_at, row_at, rows_in, Fits}

module _ (answers : List ℤ) (place : ℕ) where
  abbrev numbers : ℕ → List ℤ
  numbers n = map (number_at answers place) (numbers_from 0 n)

  numbers_long : (n : ℕ) → length (numbers n) ≡ n
  numbers_long n = length-map (numbers_from 0 n) (number_at answers place) ∙ numbers_length 0 n

  number_is : (n k : ℕ) → k < n → get_or (numbers n) k (pos 0) ≡ number_at answers place k
  number_is n k h = get_d_mapped (number_at answers place) (numbers_from 0 n) k (rw numbers_length h) ∙ ap (number_at answers place) (numbers_get_d 0 n k 0 h ∙ omega arith)
    where
      get_d_mapped : (f : ℕ → ℤ) (xs : List ℕ) (i : ℕ) → i < length xs → get_or (map f xs) i (pos 0) ≡ f (get_or xs i 0)
      get_d_mapped f [] i l = absurd (omega arith)
      get_d_mapped f (x ∷ xs) zero l = refl
      get_d_mapped f (x ∷ xs) (suc i) l = get_d_mapped f xs i (omega arith)

  pub each_number : (B n : ℕ) → ((k : ℕ) → k < n → Within B (number_at answers place k)) → Each B (numbers n)
  each_number B n h = record { at = λ k l. let m : k < n = rw (numbers_long n) at l in subst (Within B) (sym (number_is n k m)) (h k m) }

  module _ {B : ℕ} (k n : ℕ) (e : Each B (numbers n)) where
    pub number_within : k < n → Within B (number_at answers place k)
    number_within h = subst (Within B) (number_is n k h) (e.at k (rw (numbers_long n) h))

  pub sums_within : {B : ℕ} (k n : ℕ) → k ≤ n → n ≤ 64 → Each B (numbers n) → Within (64 * B) (sumℤ (numbers k))
  sums_within {B} k n l f e =
      within_mono (mul-le-mul (le_trans l f) (le_refl B)) (rw (numbers_long k) at (sum_within B (numbers k) (each_number B k (λ i h. number_within i n e (omega arith)))))

-- ════ the sums of a Z line

-- two that are the same at each number
map_same : (f g : ℕ → ℤ) (from many : ℕ) → ((k : ℕ) → k < from + many → f k ≡ g k) → map f (numbers_from from many) ≡ map g (numbers_from from many)
map_same f g from zero h = refl
map_same f g from (suc many) h = let a = h from (omega arith) in let b = map_same f g (suc from) many (λ k l. h k (omega arith)) in λ j. a j ∷ b j

module _ {answers : List ℤ} {n : ℕ} (f : Fits answers n) where
  pub words_sum : sumℤ (map (number_at answers 3) (numbers_from 0 n)) ≡ sumℤ (map (λ row. pos row.words) (rows_in answers n))
  unfolding rows_in
  words_sum =
      ap sumℤ (map_same (number_at answers 3) (λ k. pos (row_at answers k).words) 0 n (λ k l. f.words k (omega arith)))
      ∙ ap sumℤ (sym (map-map (λ (row : Row). pos row.words) (row_at answers) (numbers_from 0 n)))

  pub score_sum : sumℤ (map (number_at answers 1) (numbers_from 0 n)) ≡ sumℤ (map (λ row. row.score) (rows_in answers n))
  unfolding rows_in
  score_sum = ap sumℤ (sym (map-map (λ (row : Row). row.score) (row_at answers) (numbers_from 0 n)))

  pub each_score : Each score_bound (map (number_at answers 1) (numbers_from 0 n))
  each_score = each_number answers 1 score_bound n (λ k l. (f.rows k l).score)

  pub each_words : Each 256 (map (number_at answers 3) (numbers_from 0 n))
  each_words = each_number answers 3 256 n (λ k l. subst (Within 256) (sym (f.words k l)) (small (f.rows k l).words))
    where
      small : {m : ℕ} → m ≤ 256 → Within 256 (pos m)
      small h = omega arith

pub each_more : {A B : ℕ} {xs : List ℤ} → A ≤ B → Each A xs → Each B xs
each_more l e = record { at = λ i h. within_mono l (e.at i h) }
