-- The number of a refusal is 1 to 99, and not 0, which is the number of none; different refusals have different numbers.
use Prim.Native.Nat.{ℕ, zero, suc, ◌-◌, ◌≤◌}
use native.Mathlib.Omega.{arith}
use mathlib.Core.Path.{◌≡◌, refl, sym, ◌∙◌, ap}
use mathlib.Core.Bool.{true}
use mathlib.Core.List.{[], ◌∷◌}
use lib.ListN.{get_or}
use Rattle.laws.proofs.Tests.{between}
use Rattle.meaning.specs.Questions.{◌orelse◌, within, number}
use Rattle.meaning.specs.Reply.{Reply, refused, reply}
use Rattle.meaning.specs.declared.Refusal.{Refusal}
use Rattle.meaning.specs.declared.Refusal.TheVariants.{BookText, LineFields, BLine, NumberRange, LineCount, RepeatedTriple, ListTooShort, DirectionText, WordCount, WordRange, Width, StepsOrWordsTooShort, StoreTooSmall, NoDerivation, LastSetEmpty, DoesNotFit, CoveredTwice, JumpTooLong, Uncovered, RepeatedShorter, StoredCounts, AbsentEntry, ArpaText, UnlistedWord, ValueRange, RoundEnds}

-- the refusals by their numbers
abbrev by_number : ℕ → Refusal
by_number k = get_or (BookText ∷ LineFields ∷ BLine ∷ NumberRange ∷ LineCount ∷ RepeatedTriple ∷ ListTooShort ∷ DirectionText ∷ WordCount ∷ WordRange ∷ Width ∷ StepsOrWordsTooShort ∷ StoreTooSmall ∷ NoDerivation ∷ LastSetEmpty ∷ DoesNotFit ∷ CoveredTwice ∷ JumpTooLong ∷ Uncovered ∷ RepeatedShorter ∷ StoredCounts ∷ AbsentEntry ∷ ArpaText ∷ UnlistedWord ∷ ValueRange ∷ RoundEnds ∷ []) (k - 1) BookText

-- each has a number of 1 to 99 and can be told by it: the one proof that goes through them all
each : (refusal : Refusal) → (within 1 99 (number refusal) ≡ true) × (by_number (number refusal) ≡ refusal)
each BookText = (refl, refl)
each LineFields = (refl, refl)
each BLine = (refl, refl)
each NumberRange = (refl, refl)
each LineCount = (refl, refl)
each RepeatedTriple = (refl, refl)
each ListTooShort = (refl, refl)
each DirectionText = (refl, refl)
each WordCount = (refl, refl)
each WordRange = (refl, refl)
each Width = (refl, refl)
each StepsOrWordsTooShort = (refl, refl)
each StoreTooSmall = (refl, refl)
each NoDerivation = (refl, refl)
each LastSetEmpty = (refl, refl)
each DoesNotFit = (refl, refl)
each CoveredTwice = (refl, refl)
each JumpTooLong = (refl, refl)
each Uncovered = (refl, refl)
each RepeatedShorter = (refl, refl)
each StoredCounts = (refl, refl)
each AbsentEntry = (refl, refl)
each ArpaText = (refl, refl)
each UnlistedWord = (refl, refl)
each ValueRange = (refl, refl)
each RoundEnds = (refl, refl)

pub number_from : (refusal : Refusal) → 1 ≤ number refusal
number_from refusal = (between 1 99 (number refusal) (each refusal).0).0

-- two digits are enough
pub number_to : (refusal : Refusal) → number refusal ≤ 99
number_to refusal = (between 1 99 (number refusal) (each refusal).0).1

-- different refusals have different numbers
pub number_same : (a b : Refusal) → number a ≡ number b → a ≡ b
number_same a b e = sym (each a).1 ∙ ap by_number e ∙ (each b).1

-- a question that refuses ends the chain
pub refused_first : (k m : ℕ) → 1 ≤ k → k orelse m ≡ k
refused_first zero m h = absurd (omega arith)
refused_first (suc k) m h = refl

-- so does one of two, whatever is asked after them
pub refused_before_all : (refusal : Refusal) (j k m : ℕ) → (j orelse k) ≡ number refusal → (j orelse (k orelse m)) ≡ number refusal
refused_before_all refusal zero k m e = ap (λ (i : ℕ). i orelse m) e ∙ refused_first (number refusal) m (number_from refusal)
refused_before_all refusal (suc j) k m e = e

-- and the chain's reply is its refusal
pub refused_reply : {A : Type 0} (refusal : Refusal) (k : ℕ) (a : A) → k ≡ number refusal → refused (number refusal) ≡ reply k a
refused_reply {A} refusal k a e = by k (number_from refusal) e
  where
    by : (j : ℕ) → 1 ≤ number refusal → j ≡ number refusal → refused (number refusal) ≡ reply j a
    by zero h q = absurd (omega arith)
    by (suc j) h q = ap {B = Reply A} refused (sym q)
