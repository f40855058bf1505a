-- The numbers of a sheet's lines as code holds them are those of the lines.
use Prim.Native.Nat.{ℕ, ◌+◌, ◌*◌, ◌≤◌, ◌<◌}
use native.Mathlib.Omega.{arith}
use mathlib.Core.Path.{◌≡◌, refl, ap, ◌∙◌}
use mathlib.Core.List.{List, [], ◌∷◌}
use lib.IntN.{ℤ, pos}
use lib.ListN.{get_or}
use mir.Syntax.{w64}
use mir.Val.{to_z}
use Rattle.laws.specs.Integers.{Within}
use Rattle.laws.proofs.Got.{i64, held, kept}
use Rattle.meaning.specs.Sheet.{direction_line}
use Rattle.printing.proofs.Numbers.{cast_is}
use Rattle.sheet.specs.Rows.{number_at, row_at, Fits}

module _ {answers : List ℤ} {n : ℕ} (f : Fits answers n) (k : ℕ) (h : k < n) where
  -- the first of the nine numbers stands where they begin
  answer_there : get_or answers (9 * k) (pos 0) ≡ pos (row_at answers k).answer
  answer_there = let e : 9 * k ≡ 9 * k + 0 = omega arith in ap (λ (i : ℕ). get_or answers i (pos 0)) e ∙ f.answer k h

  pub answer_held : i64 (get_or answers (9 * k) (pos 0)) ≡ pos (row_at answers k).answer
  answer_held = (kept w64 {B = 34} (held answer_there (nat_within (f.rows k h).answer)) (omega arith)).is
    where
      nat_within : {m : ℕ} → m ≤ 34 → Within 34 (pos m)
      nat_within l = omega arith

  score_held : i64 (number_at answers 1 k) ≡ (row_at answers k).score
  score_held = (kept w64 (held refl (f.rows k h).score) (omega arith)).is

  words_held : i64 (number_at answers 3 k) ≡ pos (row_at answers k).words
  words_held = (kept w64 {B = 256} (held (f.words k h) (nat_within (f.rows k h).words)) (omega arith)).is
    where
      nat_within : {m : ℕ} → m ≤ 256 → Within 256 (pos m)
      nat_within l = omega arith

  -- an N line's
  pub direction_held : to_z w64 (k + 1) ∷ i64 (get_or answers (9 * k) (pos 0)) ∷ i64 (number_at answers 1 k) ∷ i64 (number_at answers 3 k) ∷ [] ≡ (direction_line (k + 1) (row_at answers k)).numbers
  direction_held =
      let a = cast_is (k + 1) (omega (arith, f.few)) in
      λ j. a j ∷ answer_held j ∷ score_held j ∷ words_held j ∷ []

-- two counts
pub two_held : (a b : ℕ) → a ≤ 64 → b ≤ 64 → to_z w64 a ∷ to_z w64 b ∷ [] ≡ pos a ∷ pos b ∷ []
two_held a b l m = let p = cast_is a (omega arith) in let q = cast_is b (omega arith) in λ j. p j ∷ q j ∷ []
