-- Covered positions: a step that overlaps nothing covers at least one position more, and none beyond the direction.
use Prim.Native.Nat.{ℕ, zero, suc, ◌+◌, ◌≤◌, ◌<◌}
use native.Mathlib.Omega.{arith}
use mathlib.Core.Path.{◌≡◌, refl, sym, ◌∙◌, ap}
use mathlib.Core.Logic.{◌↔◌}
use mathlib.Core.Bool.{Bool, true, false, not, cond, ◌&&◌, ◌||◌, true≢false, false≢true}
use mathlib.Core.List.{List, [], ◌∷◌}
use borrow.Author.Tests.{le-leb, leb-false}
use lib.Dec.{leb}
use lib.ListN.{length, replicate}
use Rattle.laws.specs.Lists.{all, count}
use Rattle.laws.proofs.Tests.{by_test, both, both_of}
use Rattle.laws.proofs.Lists.{count_le}
use Rattle.meaning.specs.Derivation.{covers}
use Rattle.meaning.specs.State.{is_free, cover}
use Rattle.meaning.specs.declared.Step.{Step}

-- how many positions are covered
abbrev ones : List Bool → ℕ
ones bits = count (λ bit. bit) bits

pub cover_length : (step : Step) (i : ℕ) (bits : List Bool) → length (cover step i bits) ≡ length bits
unfolding cover
cover_length step i [] = refl
cover_length step i (bit ∷ bits) = ap suc (cover_length step (suc i) bits)

-- a position more, or the same
keeps : (b c : Bool) (m n : ℕ) → m ≤ n → cond b (suc m) m ≤ cond (b || c) (suc n) n
keeps true c m n h = omega arith
keeps false true m n h = omega arith
keeps false false m n h = h

adds : (b c : Bool) (m n : ℕ) → not (b && c) ≡ true → c ≡ true → m ≤ n → cond b (suc m) m < cond (b || c) (suc n) n
adds true true m n e f h = absurd (true≢false (sym e))
adds false true m n e f h = omega arith
adds b false m n e f h = absurd (true≢false (sym f))

goes_on : (b c : Bool) (m n : ℕ) → m < n → cond b (suc m) m < cond (b || c) (suc n) n
goes_on true c m n h = omega arith
goes_on false true m n h = omega arith
goes_on false false m n h = h

cover_keeps : (step : Step) (i : ℕ) (bits : List Bool) → ones bits ≤ ones (cover step i bits)
unfolding cover
cover_keeps step i [] = omega arith
cover_keeps step i (bit ∷ bits) = keeps bit (covers step i) (ones bits) (ones (cover step (suc i) bits)) (cover_keeps step (suc i) bits)

-- the first position that the step covers lies among these
pub cover_adds : (step : Step) (i : ℕ) (bits : List Bool) → is_free step i bits ≡ true → i ≤ step.first → step.first ≤ step.last
    → step.first < i + length bits → ones bits < ones (cover step i bits)
unfolding is_free cover covers
cover_adds step i [] e a b c = absurd (omega arith)
cover_adds step i (bit ∷ bits) e a b c =
    let h = both (not (bit && covers step i)) (is_free step (suc i) bits) e in
    by_test (covers step i)
    (λ t. adds bit (covers step i) (ones bits) (ones (cover step (suc i) bits)) h.0 t (cover_keeps step (suc i) bits))
    (λ f. goes_on bit (covers step i) (ones bits) (ones (cover step (suc i) bits))
    (cover_adds step (suc i) bits h.1 (later f) b (omega arith)))
  where
    later : leb step.first i && leb i step.last ≡ false → suc i ≤ step.first
    later f =
        by_test (leb step.first i)
        (λ t. absurd (true≢false (sym (both_of t (le-leb i step.last (omega arith))) ∙ f)))
        (λ g. leb-false step.first i g)

-- every position is covered exactly where as many are as there are
pub all_ones : (bits : List Bool) → (all (λ bit. bit) bits ≡ true) ↔ (ones bits ≡ length bits)
all_ones [] = (λ e. refl, λ e. refl)
all_ones (true ∷ bits) = (λ e. ap suc ((all_ones bits).0 e), λ e. (all_ones bits).1 (omega arith))
all_ones (false ∷ bits) = (λ e. absurd (false≢true e), λ e. absurd (omega (arith, count_le (λ bit. bit) bits)))

pub none_covered : (n : ℕ) → ones (replicate n false) ≡ 0
none_covered zero = refl
none_covered (suc n) = none_covered n
