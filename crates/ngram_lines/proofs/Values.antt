-- An n-gram's values: its score is the line's first field, and its weight the one behind the words, if there is one.
use Prim.Native.Nat.{ℕ, ◌+◌, ◌≤◌}
use mathlib.Core.Path.{◌≡◌, refl, sym, ◌∙◌}
use mathlib.Core.Bool.{Bool, true, ◌&&◌}
use mathlib.Core.List.{List, [], ◌∷◌}
use native.Mathlib.Numerals.{add-one}
use native.Mathlib.Omega.{arith}
use lib.Dec.{leb, ltb}
use lib.IntN.{pos}
use lib.ListN.{length, get_or, drop, length-drop}
use lib.Seq.{get_or-drop}
use Rattle.laws.proofs.Tests.{both, clash}
use Rattle.arpa.specs.Values.{is_value, thousandths}
use Rattle.arpa.specs.File.{is_weight_part, is_gram_line, weight_of, ngram_of}
use Rattle.arpa.proofs.Ngrams.{gram_long}
use Rattle.tokens.specs.Scan.{field_at}
use Rattle.tokens.specs.Fields.{FieldsAt}

module _ (top n : ℕ) where
  score_is : (fields : List (List ℕ)) → is_gram_line top n fields ≡ true → (is_value (get_or fields 0 []) ≡ true) × ((ngram_of n fields).score ≡ thousandths (get_or fields 0 []))
  unfolding is_gram_line ngram_of
  score_is [] h = clash h refl
  score_is (value ∷ fields) h =
      ((both (is_value value) (leb n (length fields)) (both (is_value value && leb n (length fields)) (is_weight_part (ltb n top) (drop n fields)) h).0).0, refl)

  -- what stands behind the words
  weight_part : (isBelow : Bool) (rest : List (List ℕ)) → is_weight_part isBelow rest ≡ true → length rest ≡ 1 → (is_value (get_or rest 0 []) ≡ true) × (weight_of rest ≡ thousandths (get_or rest 0 []))
  weight_part isBelow [] h e = absurd (omega arith)
  weight_part isBelow (weight ∷ []) h e = ((both isBelow (is_value weight) h).1, refl)
  weight_part isBelow (weight ∷ next ∷ fields) h e = clash h refl

  no_weight_part : (isBelow : Bool) (rest : List (List ℕ)) → is_weight_part isBelow rest ≡ true → (length rest ≡ 1 → ⊥) → weight_of rest ≡ pos 0
  no_weight_part isBelow [] h d = refl
  no_weight_part isBelow (weight ∷ []) h d = absurd (d refl)
  no_weight_part isBelow (weight ∷ next ∷ fields) h d = clash h refl

  weight_is : (fields : List (List ℕ)) → is_gram_line top n fields ≡ true → length fields ≡ n + 2
      → (is_value (get_or fields (n + 1) []) ≡ true) × ((ngram_of n fields).weight ≡ thousandths (get_or fields (n + 1) []))
  unfolding is_gram_line ngram_of
  weight_is [] h e = clash h refl
  weight_is (value ∷ fields) h e =
      let z : n + 0 ≡ n = omega arith in
      let at : get_or (drop n fields) 0 [] ≡ get_or fields n [] = rw z at (get_or-drop n fields 0 []) in
      let b = (both (is_value value && leb n (length fields)) (is_weight_part (ltb n top) (drop n fields)) h).1 in
      rw (add-one, ← at) (weight_part (ltb n top) (drop n fields) b (omega (arith, length-drop n fields)))

  weight_missing : (fields : List (List ℕ)) → is_gram_line top n fields ≡ true → (length fields ≡ n + 2 → ⊥) → (ngram_of n fields).weight ≡ pos 0
  unfolding is_gram_line ngram_of
  weight_missing [] h d = clash h refl
  weight_missing (value ∷ fields) h d =
      no_weight_part (ltb n top) (drop n fields) (both (is_value value && leb n (length fields)) (is_weight_part (ltb n top) (drop n fields)) h).1 (λ e. d (omega (arith, length-drop n fields)))

-- ---- by the places of the fields

module _ {text places : List ℕ} {count : ℕ} {fields : List (List ℕ)} (f : FieldsAt text places count fields) (top n : ℕ) (few : n ≤ 3) (g : is_gram_line top n fields ≡ true) where
  pub score_noted : (is_value (field_at text places 0) ≡ true) × ((ngram_of n fields).score ≡ thousandths (field_at text places 0))
  score_noted = rw (f.noted.is 0 (omega arith) (omega (arith, gram_long top n fields g))) (score_is top n fields g)

  pub weight_noted : count ≡ n + 2 → (is_value (field_at text places (n + 1)) ≡ true) × ((ngram_of n fields).weight ≡ thousandths (field_at text places (n + 1)))
  weight_noted e = rw (f.noted.is (n + 1) (omega arith) (omega (arith, f.long))) (weight_is top n fields g (f.long ∙ e))

  pub weight_none : (count ≡ n + 2 → ⊥) → (ngram_of n fields).weight ≡ pos 0
  weight_none d = weight_missing top n fields g (λ e. d (sym f.long ∙ e))
