-- A magnitude that is exact within a score's range, and beyond it elsewhere, gives such a value with either sign.
use Prim.Native.Nat.{ℕ, ◌<◌}
use mathlib.Core.Path.{◌≡◌, sym, ◌∙◌}
use mathlib.Core.Bool.{false}
use native.Mathlib.Omega.{arith}
use borrow.Author.Tests.{leb-true, leb-false}
use lib.Dec.{leb}
use lib.IntN.{ℤ, pos, neg_ℤ}
use lib.Signed.{le_z}
use Rattle.laws.proofs.Linear.{signed, neg}
use Rattle.laws.proofs.Tests.{by_test, both, clash, is_false}
use Rattle.meaning.specs.Bounds.{score_most}
use Rattle.meaning.specs.Book.{is_score}
use Rattle.thousandths.specs.Rounded.{Rounded, Capped}

above : (n : ℕ) → score_most < n → is_score (pos n) ≡ false
above n h = is_false (λ e. let b = both (le_z (neg_ℤ (pos score_most)) (pos n)) (le_z (pos n) (pos score_most)) e in omega (arith, signed, b.1))

below : (n : ℕ) → score_most < n → is_score (neg_ℤ (pos n)) ≡ false
below n h = is_false (λ e. let b = both (le_z (neg_ℤ (pos score_most)) (neg_ℤ (pos n))) (le_z (neg_ℤ (pos n)) (pos score_most)) e in omega (arith, signed, neg (pos n), b.0))

module _ {m r : ℕ} (c : Capped m r) where
  -- by a sign, with which no number beyond the range is a score
  signed_by : (sign : ℕ → ℤ) → ((n : ℕ) → score_most < n → is_score (sign n) ≡ false) → Rounded (sign m) (sign r)
  signed_by sign out =
      by_test (leb m score_most)
      (λ t. let e : r ≡ m = c.same (leb-true m score_most t) in record { in_range = rw e; same = λ s. rw e })
      (λ f. let h : score_most < m = leb-false m score_most f in
      record { in_range = out r (c.beyond h) ∙ sym (out m h); same = λ s. clash s (out m h) })

  pub capped_pos : Rounded (pos m) (pos r)
  capped_pos = signed_by pos above

  pub capped_neg : Rounded (neg_ℤ (pos m)) (neg_ℤ (pos r))
  capped_neg = signed_by (λ n. neg_ℤ (pos n)) below
