-- A value and the parts of a number at its point, by the place of the first point.
use Rattle.std.proofs.Common.{Option, Some, None, MatchOption, unwrap_or}
use Rattle.std.specs.Cmp.Lexicographic.{pointwise}
use Rattle.std.proofs.lemmas.Slice.Eq.{strip_prefix_is}
use Rattle.std.proofs.lemmas.Bool.Decides.{Decides-eqb}
use denote.Ref.{Bor}
use Rattle.std.specs.List.{list_all, position, position_or_len}
use Rattle.std.proofs.lemmas.List.Quantifiers.{position-Some}
use Rattle.std.proofs.lemmas.List.Sums.{fails_before_first}
use Prim.Native.Nat.{ℕ, zero, suc, ◌+◌, ◌-◌, ◌≤◌, ◌<◌}
use mathlib.Core.Path.{◌≡◌, refl, ap, ◌∙◌}
use mathlib.Core.Bool.{Bool, true, false, ◌&&◌, cond, and-false}
use mathlib.Core.List.{List, [], ◌∷◌, ◌++◌}
use native.Mathlib.Numerals.{add-one}
use native.Mathlib.Omega.{arith}
use borrow.Author.Tests.{eqb-true, ne_eqb, ltb-false}
use lib.Dec.{eqb, ltb}
use lib.IntN.{pos, neg_ℤ}
use lib.ListN.{length, get_or, take, drop}
use Rattle.laws.specs.Lists.{all}
use Rattle.laws.proofs.Lists.{part_rest}
use Rattle.laws.proofs.Tests.{clash, by_test}
use Rattle.meaning.specs.Numerals.{is_digit, before, split, digits_value}
use Rattle.arpa.specs.Values.{point, are_digits, is_decimal, is_value, nearest, magnitude, thousandths}

-- ════ digits

-- std's word for a test of each
pub all_same : (test : ℕ → Bool) (ds : List ℕ) → list_all test ds ≡ all test ds
all_same test [] = refl
all_same test (d ∷ ds) = ap (λ (b : Bool). test d && b) (all_same test ds)

pub digits_some : (ds : List ℕ) → 0 < length ds → all is_digit ds ≡ are_digits ds
digits_some [] h = absurd (omega arith)
digits_some (d ∷ ds) h = refl

pub digits_all : (ds : List ℕ) → are_digits ds ≡ true → all is_digit ds ≡ true
digits_all [] h = refl
digits_all (d ∷ ds) h = h

-- ════ the point

-- a number without a point is its only part, and its first point parts another
split_none : (t : List ℕ) → ((k : ℕ) → k < length t → eqb (get_or t k 0) point ≡ false) → split point t ≡ t ∷ []
unfolding split
split_none [] h = refl
split_none (b ∷ t) h = let e : eqb b point ≡ false = h 0 (omega arith) in rw (e, split_none t (λ k l. h (suc k) (omega arith)))

split_two : (t : List ℕ) (e : ℕ) → e < length t → eqb (get_or t e 0) point ≡ true → ((k : ℕ) → k < e → eqb (get_or t k 0) point ≡ false) → split point t ≡ take e t ∷ split point (drop (suc e) t)
unfolding split
split_two [] e l h f = absurd (omega arith)
split_two (b ∷ t) zero l h f = let e : eqb b point ≡ true = h in rw e
split_two (b ∷ t) (suc n) l h f = let e : eqb b point ≡ false = f 0 (omega arith) in rw (e, split_two t n (omega arith) h (λ k m. f (suc k) (omega arith)))

-- the same by a search for the point
abbrev pub is_point : ℕ → Bool
is_point b = eqb b point

pub no_point : (t : List ℕ) → position is_point t ≡ None → split point t ≡ t ∷ []
no_point t h = split_none t (λ k l. fails_before_first is_point t k 0 (omega (arith, past)))
  where
    past : length t ≤ position_or_len is_point t
    past = by_test (ltb (position_or_len is_point t) (length t)) (λ y. let e : Some (position_or_len is_point t) ≡ None = rw y at h in cc) (λ n. ltb-false (position_or_len is_point t) (length t) n)

pub at_point : (t : List ℕ) (e : ℕ) → position is_point t ≡ Some e → split point t ≡ take e t ∷ split point (take (length t - (e + 1)) (drop (e + 1) t))
at_point t e h =
    let p = position-Some is_point t e 0 h in
    split_two t e p.0 p.1 p.2 ∙ rw (part_rest t (e + 1), add-one)

-- what a point parts is more than one part, and no digits
data Parts (t : List ℕ) (parts : List (List ℕ)) : Type 0 where
  one : parts ≡ t ∷ [] → Parts t parts
  more : (first next : List ℕ) (rest : List (List ℕ)) → parts ≡ first ∷ next ∷ rest → all is_digit t ≡ false → Parts t parts

parts_of : (t : List ℕ) → Parts t (split point t)
unfolding split
parts_of [] = one refl
parts_of (b ∷ t) = by (eqb b point) refl (parts_of t)
  where
    by : (x : Bool) → eqb b point ≡ x → Parts t (split point t) → Parts (b ∷ t) (cond x ([] ∷ split point t) (before b (split point t)))
    by true e (one p) = more [] t [] (rw p) (rw (eqb-true b point e))
    by true e (more first next rest p f) = more [] first (next ∷ rest) (rw p) (rw (eqb-true b point e))
    by false e (one p) = one (rw p)
    by false e (more first next rest p f) = more (b ∷ first) next rest (rw p) (rw (f, and-false))

not_digits : (t : List ℕ) → all is_digit t ≡ false → are_digits t ≡ false
not_digits [] f = refl
not_digits (d ∷ t) f = f

-- what stands behind the first point is all of it digits, or the number has another point
pub decimal_two : (whole t : List ℕ) → is_decimal (whole ∷ split point t) ≡ are_digits whole && are_digits t
decimal_two whole t = by (parts_of t)
  where
    by : Parts t (split point t) → is_decimal (whole ∷ split point t) ≡ are_digits whole && are_digits t
    by (one p) = rw p
    by (more first next rest p f) = rw (p, not_digits t f, and-false)

pub magnitude_two : (whole t : List ℕ) → are_digits t ≡ true → magnitude (whole ∷ split point t) ≡ nearest (digits_value 0 (whole ++ t)) (length t)
magnitude_two whole t h = by (parts_of t)
  where
    by : Parts t (split point t) → magnitude (whole ∷ split point t) ≡ nearest (digits_value 0 (whole ++ t)) (length t)
    by (one p) = rw p
    by (more first next rest p f) = clash (digits_all t h) f

-- ════ the minus

-- the number without its minus, as code has it
abbrev pub NumberIs : List ℕ → Option (Bor (List ℕ)) → Type 0
NumberIs t number = MatchOption number (pointwise eqb (take 1 t) (45 ∷ []) ≡ false) (λ n. (pointwise eqb (take 1 t) (45 ∷ []) ≡ true) × (n.now ≡ drop 1 t) × (length n.now + 1 ≡ length t))

module _ (t : List ℕ) where
  minus_first : (n : Bor (List ℕ)) → NumberIs t (Some n) → t ≡ 45 ∷ n.now
  minus_first n h = strip_prefix_is Decides-eqb t (45 ∷ []) (Some n) h

  no_minus_first : NumberIs t None → (rest : List ℕ) → t ≡ 45 ∷ rest → ⊥
  no_minus_first h = strip_prefix_is Decides-eqb t (45 ∷ []) None h

  pub value_minus : (n : Bor (List ℕ)) → NumberIs t (Some n) → is_value t ≡ is_decimal (split point n.now)
  unfolding is_value
  value_minus n h = rw (minus_first n h) refl

  pub thousandths_minus : (n : Bor (List ℕ)) → NumberIs t (Some n) → thousandths t ≡ neg_ℤ (pos (magnitude (split point n.now)))
  unfolding thousandths
  thousandths_minus n h = rw (minus_first n h) refl

value_no_minus : (t : List ℕ) → ((rest : List ℕ) → t ≡ 45 ∷ rest → ⊥) → is_value t ≡ is_decimal (split point t)
unfolding is_value split
value_no_minus [] h = refl
value_no_minus (b ∷ t) h = rw (ne_eqb b 45 (λ e. h t (ap (λ (a : ℕ). a ∷ t) e)))

thousandths_no_minus : (t : List ℕ) → ((rest : List ℕ) → t ≡ 45 ∷ rest → ⊥) → is_value t ≡ true → thousandths t ≡ pos (magnitude (split point t))
unfolding thousandths is_value
thousandths_no_minus [] h v = clash v refl
thousandths_no_minus (b ∷ t) h v = rw (ne_eqb b 45 (λ e. h t (ap (λ (a : ℕ). a ∷ t) e)))

module _ (t : List ℕ) (h : NumberIs t None) where
  pub value_plain : is_value t ≡ is_decimal (split point t)
  value_plain = value_no_minus t (no_minus_first t h)

  pub thousandths_plain : is_value t ≡ true → thousandths t ≡ pos (magnitude (split point t))
  thousandths_plain = thousandths_no_minus t (no_minus_first t h)

pub value_number : (t : Bor (List ℕ)) (number : Option (Bor (List ℕ))) (n : Bor (List ℕ)) → NumberIs t.now number → n ≡ unwrap_or number t → is_value t.now ≡ is_decimal (split point n.now)
value_number t None n h e = rw e (value_plain t.now h)
value_number t (Some m) n h e = rw e (value_minus t.now m h)
