-- Chains of questions: what it says that none refuses, or that one does, and what is then written.
use Prim.Native.Nat.{ℕ, zero, suc, ◌≤◌}
use native.Mathlib.Omega.{arith}
use mathlib.Core.Path.{◌≡◌, refl, ap}
use mathlib.Core.Bool.{Bool, true, false, ◌&&◌}
use mathlib.Core.Logic.{◌↔◌}
use mathlib.Core.List.{List}
use Rattle.meaning.specs.Questions.{◌unless◌, ◌orelse◌}
use Rattle.meaning.specs.Reply.{Reply, refused, done, reply, written_over, written_if}

-- no refusal of a chain: none of its first question, and none of the rest
pub first_passes : (k m : ℕ) → k orelse m ≡ 0 → k ≡ 0
first_passes zero m e = refl
first_passes (suc k) m e = e

pub rest_passes : (k m : ℕ) → k orelse m ≡ 0 → m ≡ 0
rest_passes zero m e = e
rest_passes (suc k) m e = absurd (omega arith)

-- a question that does not refuse has passed its test
pub test_passes : (k : ℕ) (test : Bool) → suc k unless test ≡ 0 → test ≡ true
test_passes k true e = refl
test_passes k false e = absurd (omega arith)

pub test_fails : (k j : ℕ) (test : Bool) → k unless test ≡ suc j → test ≡ false
test_fails k j true e = absurd (omega arith)
test_fails k j false e = refl

-- a question before others, and the last one: no refusal exactly where the tests pass
pub asked : (k : ℕ) (test others : Bool) (rest : ℕ) → (rest ≡ 0) ↔ (others ≡ true) → (suc k unless test orelse rest ≡ 0) ↔ (test && others ≡ true)
asked k true others rest e = e
asked k false others rest e = (λ p. absurd (omega arith), λ p. let z : ◌≡◌ {A = ℕ} 0 1 = cc in absurd (omega arith))

pub asked_last : (k : ℕ) (test : Bool) → (suc k unless test ≡ 0) ↔ (test ≡ true)
asked_last k true = (λ p. refl, λ p. refl)
asked_last k false = (λ p. absurd (omega arith), λ p. let z : ◌≡◌ {A = ℕ} 0 1 = cc in absurd (omega arith))

-- a refusal that the first question does not give is the rest's
pub skip : (k m j : ℕ) → (k ≡ j → ⊥) → k orelse m ≡ j → m ≡ j
skip zero m j h e = e
skip (suc k) m j h e = absurd (h e)

-- a chain's number is one of its questions', or 0: what holds of each of these holds of it
module _ (Q : ℕ → Type 0) where
  pub chain_ind : (k m : ℕ) → Q k → Q m → Q (k orelse m)
  chain_ind zero m g h = h
  chain_ind (suc k) m g h = g

  pub test_ind : (k : ℕ) (test : Bool) → Q 0 → Q k → Q (k unless test)
  test_ind k true z h = z
  test_ind k false z h = h

-- ---- replies

module _ {A : Type 0} where
  pub done_passes : (k : ℕ) (a b : A) → reply k a ≡ done b → k ≡ 0
  done_passes zero a b e = refl
  done_passes (suc k) a b e = let z : ◌≡◌ {A = ℕ} 0 1 = cc in absurd (omega arith)

  pub done_is : (k : ℕ) (a b : A) → reply k a ≡ done b → a ≡ b
  done_is zero a b e = cc
  done_is (suc k) a b e = cc

  pub refused_is : (k m : ℕ) (a : A) → reply k a ≡ refused m → k ≡ m
  refused_is zero m a e = let z : ◌≡◌ {A = ℕ} 0 1 = cc in absurd (omega arith)
  refused_is (suc k) m a e = cc

  pub reply_done : (k : ℕ) (a : A) → k ≡ 0 → reply k a ≡ done a
  reply_done zero a e = refl
  reply_done (suc k) a e = absurd (omega arith)

  pub reply_refused : (k m : ℕ) (a : A) → k ≡ suc m → reply k a ≡ refused (suc m)
  reply_refused zero m a e = absurd (omega arith)
  reply_refused (suc k) m a e = ap {B = Reply A} refused e

-- ---- a lent list, after a call that writes where no question refuses

module _ {A : Type 0} where
  pub written_done : (k : ℕ) (new old : List A) → k ≡ 0 → written_if k new old ≡ written_over new old
  written_done zero new old e = refl
  written_done (suc k) new old e = absurd (omega arith)

  pub written_refused : (k : ℕ) (new old : List A) → 1 ≤ k → written_if k new old ≡ old
  written_refused zero new old h = absurd (omega arith)
  written_refused (suc k) new old h = refl
