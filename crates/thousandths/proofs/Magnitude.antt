-- A number without its minus, by what stands before its first point and behind it.
use Rattle.std.proofs.Common.{Option, Some, None, MatchOption, IsTrue, subst}
use Rattle.std.specs.Option.{ForSome}
use denote.Ref.{Bor}
use Prim.Native.Nat.{ℕ, ◌+◌, ◌*◌, ◌≤◌}
use mathlib.Core.Path.{◌≡◌, refl, sym, ap, ◌∙◌}
use mathlib.Core.Bool.{Bool, true, ◌&&◌, and-true}
use mathlib.Core.List.{List, [], ◌∷◌}
use native.Mathlib.Omega.{arith}
use lib.ListN.{length}
use Rattle.laws.specs.Lists.{all}
use Rattle.laws.proofs.Tests.{both}
use Rattle.meaning.specs.Numerals.{is_digit, split, digits_value}
use Rattle.arpa.specs.Values.{point, are_digits, is_decimal, nearest, magnitude}
use Rattle.thousandths.proofs.Parts.{digits_all, decimal_two, magnitude_two}
use Rattle.thousandths.proofs.Nearest.{nearest_whole, nearest_none, nearest_small}

-- the parts of the number, as code has them
abbrev pub PartsAre : List ℕ → List ℕ → Option (Bor (List ℕ)) → Type 0
PartsAre t whole fraction = MatchOption fraction (split point t ≡ whole ∷ []) (λ f. split point t ≡ whole ∷ split point f.now)

-- it is one where both parts are digits
pub decimal_is : (t whole : List ℕ) (fraction : Option (Bor (List ℕ))) (r : Bool) → PartsAre t whole fraction → MatchOption fraction (IsTrue r) (λ f. r ≡ are_digits f.now)
    → is_decimal (split point t) ≡ are_digits whole && r
decimal_is t whole None r p q = ap is_decimal p ∙ rw (q, and-true)
decimal_is t whole (Some f) r p q = ap is_decimal p ∙ decimal_two whole f.now ∙ rw q

-- ════ of one

pub whole_digits : (t whole : List ℕ) (fraction : Option (Bor (List ℕ))) → PartsAre t whole fraction → is_decimal (split point t) ≡ true → are_digits whole ≡ true
whole_digits t whole None p is = sym (ap is_decimal p) ∙ is
whole_digits t whole (Some f) p is = (both (are_digits whole) (are_digits f.now) (sym (ap is_decimal p ∙ decimal_two whole f.now) ∙ is)).0

pub fraction_digits : (t whole : List ℕ) (fraction : Option (Bor (List ℕ))) → PartsAre t whole fraction → is_decimal (split point t) ≡ true → ForSome fraction (λ f. all is_digit f.now ≡ true)
fraction_digits t whole fraction p is = λ f e. of f (subst (PartsAre t whole) e p)
  where
    of : (f : Bor (List ℕ)) → PartsAre t whole (Some f) → all is_digit f.now ≡ true
    of f p = digits_all f.now (both (are_digits whole) (are_digits f.now) (sym (ap is_decimal p ∙ decimal_two whole f.now) ∙ is)).1

-- the thousandths of the whole digits and those of the fraction, which are 1000 at most
pub record MagnitudeIs (m whole r : ℕ) : Type 0 where
  pub is : m ≡ whole * 1000 + r
  pub small : r ≤ 1000

-- those of the fraction
abbrev pub FractionIs : Option (Bor (List ℕ)) → ℕ → Type 0
FractionIs fraction r = MatchOption fraction (r ≡ 0) (λ f. r ≡ nearest (digits_value 0 f.now) (length f.now))

pub magnitude_is : (t whole : List ℕ) (fraction : Option (Bor (List ℕ))) (r : ℕ) → PartsAre t whole fraction → is_decimal (split point t) ≡ true → FractionIs fraction r
    → MagnitudeIs (magnitude (split point t)) (digits_value 0 whole) r
magnitude_is t whole None r p is q = record { is = omega (arith, ap magnitude p ∙ nearest_none (digits_value 0 whole)); small = omega arith }
magnitude_is t whole (Some f) r p is q =
    let b = both (are_digits whole) (are_digits f.now) (sym (ap is_decimal p ∙ decimal_two whole f.now) ∙ is) in
    record {
      is = rw q (ap magnitude p ∙ magnitude_two whole f.now b.1 ∙ nearest_whole whole f.now);
      small = rw q (nearest_small f.now (digits_all f.now b.1));
    }

pub magnitude_least : (t whole : List ℕ) (fraction : Option (Bor (List ℕ))) → PartsAre t whole fraction → is_decimal (split point t) ≡ true → digits_value 0 whole * 1000 ≤ magnitude (split point t)
magnitude_least t whole None p is = omega (arith, magnitude_is t whole None 0 p is refl)
magnitude_least t whole (Some f) p is = omega (arith, magnitude_is t whole (Some f) (nearest (digits_value 0 f.now) (length f.now)) p is refl)
