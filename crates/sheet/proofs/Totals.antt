-- The numbers of a Z line: as code holds them they are those of the line, and there is room.
use Prim.Native.Nat.{ℕ, ◌*◌, ◌≤◌}
use native.Mathlib.Omega.{arith}
use mathlib.Core.Path.{◌≡◌, ap, ◌∙◌, subst}
use mathlib.Core.List.{List, [], ◌∷◌, map}
use lib.IntN.{ℤ, pos}
use lib.ListN.{length}
use mir.Syntax.{w64}
use mir.Val.{to_z}
use Rattle.laws.specs.Integers.{Within}
use Rattle.laws.specs.Lists.{numbers_from, sumℤ}
use Rattle.laws.proofs.Got.{i64, held, kept}
use Rattle.meaning.specs.State.{score_bound}
use Rattle.meaning.specs.Sheet.{total_line, printed}
use Rattle.printing.proofs.Numbers.{cast_is}
use Rattle.sheet.specs.Rows.{number_at, rows_in, Fits}
use Rattle.sheet.proofs.Rows.{rows_count}
use Rattle.sheet.proofs.Lengths.{total_short}
use Rattle.sheet.proofs.Sums.{sums_within, words_sum, score_sum, each_words, each_score}

module _ {answers : List ℤ} {n : ℕ} (f : Fits answers n) where
  -- the sums of the rows' words and scores
  abbrev words : ℤ
  words = sumℤ (map (λ row. pos row.words) (rows_in answers n))

  abbrev score : ℤ
  score = sumℤ (map (λ row. row.score) (rows_in answers n))

  words_within : Within (64 * 256) words
  words_within = subst (Within (64 * 256)) (words_sum f) (sums_within answers 3 n n (omega arith) f.few (each_words f))

  score_within : Within (64 * score_bound) score
  score_within = subst (Within (64 * score_bound)) (score_sum f) (sums_within answers 1 n n (omega arith) f.few (each_score f))

  pub total_held : {w s : ℤ} → w ≡ sumℤ (map (number_at answers 3) (numbers_from 0 n)) → s ≡ sumℤ (map (number_at answers 1) (numbers_from 0 n))
      → to_z w64 n ∷ i64 w ∷ i64 s ∷ [] ≡ (total_line (rows_in answers n)).numbers
  total_held p q =
      let e : n ≡ length (rows_in answers n) = omega (arith, rows_count answers n) in
      let a = cast_is n (omega (arith, f.few)) ∙ ap pos e in
      let b = (kept w64 (held (p ∙ words_sum f) words_within) (omega arith)).is in
      let d = (kept w64 (held (q ∙ score_sum f) score_within) (omega arith)).is in
      λ j. a j ∷ b j ∷ d j ∷ []

  pub total_fits : length (printed (total_line (rows_in answers n))) ≤ 26
  total_fits = total_short (length (rows_in answers n)) words score (omega (arith, f.few, rows_count answers n)) words_within score_within
