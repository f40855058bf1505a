-- What a line is, by how many fields it has and what stands in them.
use Prim.Native.Nat.{ℕ, suc, ◌+◌, ◌≤◌, ◌<◌}
use mathlib.Core.Path.{◌≡◌, refl, sym, ◌∙◌}
use mathlib.Core.Bool.{Bool, true, false, ◌&&◌, and-false, and-true}
use mathlib.Core.List.{List, [], ◌∷◌}
use native.Mathlib.Omega.{arith}
use native.Mathlib.Numerals.{add-one}
use lib.Dec.{eqb, ltb}
use lib.ListN.{length, get_or, take, drop, drop_of_length-le}
use lib.Seq.{drop-cons, length-take-le}
use borrow.Author.Tests.{le-leb, lt-leb}
use Rattle.laws.proofs.Lists.{eq_list_length}
use Rattle.laws.proofs.Tests.{both, clash, is_false}
use Rattle.meaning.specs.Numerals.{digits_value}
use Rattle.arpa.specs.Lines.{eq_bytes}
use Rattle.arpa.specs.Values.{are_digits, is_value}
use Rattle.arpa.specs.File.{ngram_word, unknown_word, is_mark, is_count, is_count_line, count_of, is_weight_part, is_gram_line, ngram_of, is_unknown}

module _ (mark : List ℕ) where
  pub no_mark : (line : List (List ℕ)) → (length line ≡ 1 → ⊥) → is_mark mark line ≡ false
  no_mark [] h = refl
  no_mark (field ∷ []) h = absurd (h refl)
  no_mark (field ∷ next ∷ fields) h = refl

  pub mark_is : (line : List (List ℕ)) → length line ≡ 1 → is_mark mark line ≡ eq_bytes (get_or line 0 []) mark
  mark_is [] h = absurd (omega arith)
  mark_is (field ∷ []) h = refl
  mark_is (field ∷ next ∷ fields) h = absurd (omega arith)

-- ---- count lines

module _ (n : ℕ) where
  pub no_count : (field : List ℕ) → length field < 2 → is_count n field ≡ false
  no_count [] h = refl
  no_count (digit ∷ []) h = refl
  no_count (digit ∷ sign ∷ digits) h = absurd (omega arith)

  pub count_is : (field : List ℕ) → 2 ≤ length field → is_count n field ≡ eqb (get_or field 0 0) (48 + n) && eqb (get_or field 1 0) 61 && are_digits (drop 2 field)
  count_is [] h = absurd (omega arith)
  count_is (digit ∷ []) h = absurd (omega arith)
  count_is (digit ∷ sign ∷ digits) h = refl

  pub no_count_line : (line : List (List ℕ)) → (length line ≡ 2 → ⊥) → is_count_line n line ≡ false
  no_count_line [] h = refl
  no_count_line (word ∷ []) h = refl
  no_count_line (word ∷ field ∷ []) h = absurd (h refl)
  no_count_line (word ∷ field ∷ next ∷ fields) h = refl

  pub count_line_is : (line : List (List ℕ)) → length line ≡ 2 → is_count_line n line ≡ eq_bytes (get_or line 0 []) ngram_word && is_count n (get_or line 1 [])
  count_line_is [] h = absurd (omega arith)
  count_line_is (word ∷ []) h = absurd (omega arith)
  count_line_is (word ∷ field ∷ []) h = refl
  count_line_is (word ∷ field ∷ next ∷ fields) h = absurd (omega arith)

-- what a count line has
pub record CountLine (line : List (List ℕ)) (field : List ℕ) : Type 0 where
  pub two : length line ≡ 2
  pub long : 2 ≤ length field
  pub digits : are_digits (drop 2 field) ≡ true
  pub value : count_of line ≡ digits_value 0 (drop 2 field)

pub count_line : (n : ℕ) (line : List (List ℕ)) → is_count_line n line ≡ true → CountLine line (get_or line 1 [])
count_line n [] h = clash h refl
count_line n (word ∷ []) h = clash h refl
count_line n (word ∷ [] ∷ []) h = clash h (and-false (eq_bytes word ngram_word))
count_line n (word ∷ (digit ∷ []) ∷ []) h = clash h (and-false (eq_bytes word ngram_word))
count_line n (word ∷ (digit ∷ sign ∷ digits) ∷ []) h =
    let c = (both (eq_bytes word ngram_word) (eqb digit (48 + n) && eqb sign 61 && are_digits digits) h).1 in
    record { two = refl; long = omega arith; digits = (both (eqb digit (48 + n) && eqb sign 61) (are_digits digits) c).1; value = refl }
count_line n (word ∷ field ∷ next ∷ fields) h = clash h refl

-- ---- n-grams' lines

module _ (top n : ℕ) where
  pub too_few : (line : List (List ℕ)) → length line ≤ n → is_gram_line top n line ≡ false
  unfolding is_gram_line
  too_few [] h = refl
  too_few (value ∷ fields) h = rw (lt-leb n (length fields) (omega arith), and-false) refl

  pub gram_line_is : (line : List (List ℕ)) → n < length line → is_gram_line top n line ≡ is_value (get_or line 0 []) && is_weight_part (ltb n top) (drop (n + 1) line)
  unfolding is_gram_line
  gram_line_is [] h = absurd (omega arith)
  gram_line_is (value ∷ fields) h = rw (add-one n, le-leb n (length fields) (omega arith), and-true) refl

module _ (isBelow : Bool) (n : ℕ) (line : List (List ℕ)) where
  pub weight_missing : length line ≡ n + 1 → is_weight_part isBelow (drop (n + 1) line) ≡ true
  weight_missing h = let last : length line ≤ n + 1 = omega arith in rw (drop_of_length-le line last) refl

  pub weight_is : length line ≡ n + 2 → is_weight_part isBelow (drop (n + 1) line) ≡ isBelow && is_value (get_or line (n + 1) [])
  weight_is h =
      let last : length line ≤ suc (n + 1) = omega arith in
      rw (drop-cons line (n + 1) [] (omega arith), drop_of_length-le line last) refl

  pub too_many : n + 2 < length line → is_weight_part isBelow (drop (n + 1) line) ≡ false
  too_many h = rw (drop-cons line (n + 1) [] (omega arith), drop-cons line (suc (n + 1)) [] (omega arith)) refl

pub not_unknown : (n : ℕ) (line : List (List ℕ)) → (n ≡ 1 → ⊥) → n + 1 ≤ length line → is_unknown (ngram_of n line) ≡ false
unfolding ngram_of
not_unknown n [] h l = absurd (omega arith)
not_unknown n (value ∷ fields) h l =
    is_false (λ t. h (sym (length-take-le n fields (omega arith)) ∙ eq_list_length eq_bytes (take n fields) (unknown_word ∷ []) t))

pub unknown_is : (line : List (List ℕ)) → 2 ≤ length line → is_unknown (ngram_of 1 line) ≡ eq_bytes (get_or line 1 []) unknown_word
unfolding ngram_of
unknown_is [] h = absurd (omega arith)
unknown_is (value ∷ []) h = absurd (omega arith)
unknown_is (value ∷ word ∷ fields) h = and-true (eq_bytes word unknown_word)
