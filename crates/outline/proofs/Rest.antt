-- One line more of the sections: an n-gram's line, a mark, or the end; and the walk over sections that are as they should be.
use Prim.Native.Nat.{ℕ, zero, suc, ◌+◌, ◌≤◌, ◌<◌}
use mathlib.Core.Path.{◌≡◌, refl, sym, ◌∙◌}
use mathlib.Core.Bool.{true, false, ◌&&◌, and-false}
use mathlib.Core.List.{List, [], ◌∷◌}
use mathlib.Core.Logic.{◌⊎◌, inr, ⊎_elim}
use native.Mathlib.Omega.{arith}
use lib.Dec.{leb, leb-zero, leb-suc-zero, leb-suc-suc}
use lib.ListN.{length, get_or, drop, drop_of_length-le}
use lib.Seq.{drop-cons}
use borrow.Author.Tests.{ne_eqb, eq-eqb, leb-true, leb-false, le-leb}
use Rattle.laws.specs.Bits.{one}
use Rattle.laws.specs.Lists.{count}
use Rattle.laws.proofs.Lists.{count_cons}
use Rattle.laws.proofs.Tests.{clash, by_test}
use Rattle.arpa.specs.File.{end_mark, grams_mark, is_mark, is_gram_line, are_sections, ngram_of, ngrams_from, is_unknown}
use Rattle.arpa.proofs.Ngrams.{gram_long}
use Rattle.outline.specs.Outline.{rest_shaped, rest_ngrams, rest_is, walked, is_walk}

-- ---- lines

pub mark_one : (mark : List ℕ) (line : List (List ℕ)) → is_mark mark line ≡ true → length line ≡ 1
mark_one mark [] h = clash h refl
mark_one mark (field ∷ []) h = refl
mark_one mark (field ∷ next ∷ fields) h = clash h refl

-- ---- sections that are not yet judged

pub shaped_none : (counts : List ℕ) (order left : ℕ) → rest_shaped counts order left [] ≡ false
unfolding rest_shaped are_sections
shaped_none counts order zero = by_list (drop order counts)
  where
    by_list : (cs : List ℕ) → are_sections (length counts) (suc order) cs [] ≡ false
    by_list [] = refl
    by_list (c ∷ cs) = refl
shaped_none counts order (suc left) = rw leb-suc-zero

module _ (counts : List ℕ) (order unknown : ℕ) where
  pub rest_none : (left : ℕ) → rest_is counts order left [] unknown ≡ false
  unfolding rest_is
  rest_none left = rw shaped_none

  module _ (line : List (List ℕ)) (lines : List (List (List ℕ))) where
    pub rest_gram : (left : ℕ) → is_gram_line (length counts) order line ≡ true
        → rest_is counts order (suc left) (line ∷ lines) unknown ≡ rest_is counts order left lines (unknown + one (is_unknown (ngram_of order line)))
    unfolding rest_is rest_shaped rest_ngrams
    rest_gram left h =
        let e : unknown + count is_unknown (rest_ngrams counts order (suc left) (line ∷ lines)) ≡ (unknown + one (is_unknown (ngram_of order line))) + count is_unknown (rest_ngrams counts order left lines)
        = omega (arith, count_cons is_unknown (ngram_of order line) (rest_ngrams counts order left lines)) in
        rw (e, h, leb-suc-suc left (length lines)) refl

    pub rest_no_gram : (left : ℕ) → is_gram_line (length counts) order line ≡ false → rest_is counts order (suc left) (line ∷ lines) unknown ≡ false
    unfolding rest_is rest_shaped
    rest_no_gram left h = rw (h, and-false) refl

    pub rest_mark : order < length counts → is_mark (grams_mark (suc order)) line ≡ true
        → rest_is counts order 0 (line ∷ lines) unknown ≡ rest_is counts (suc order) (get_or counts order 0) lines unknown
    unfolding rest_is rest_shaped rest_ngrams are_sections ngrams_from
    rest_mark l h = rw (drop-cons counts order 0 l, h, leb-zero (length (line ∷ lines))) refl

    pub rest_no_mark : order < length counts → is_mark (grams_mark (suc order)) line ≡ false → rest_is counts order 0 (line ∷ lines) unknown ≡ false
    unfolding rest_is rest_shaped are_sections
    rest_no_mark l h = rw (drop-cons counts order 0 l, h, leb-zero (length (line ∷ lines))) refl

    pub rest_end : length counts ≤ order → rest_is counts order 0 (line ∷ lines) unknown ≡ is_mark end_mark line && leb unknown 1
    unfolding rest_is rest_shaped rest_ngrams are_sections ngrams_from
    rest_end l = let e : unknown + 0 ≡ unknown = omega arith in rw (drop_of_length-le counts l, e, leb-zero (length (line ∷ lines))) refl

-- ---- sections that were judged

-- of sections that are as they should be, each line is what it should be, and so are those behind it
module _ (counts : List ℕ) (order : ℕ) (line : List (List ℕ)) (lines : List (List (List ℕ))) where
  shaped_gram : (left : ℕ) → rest_shaped counts order (suc left) (line ∷ lines) ≡ true
      → (is_gram_line (length counts) order line ≡ true) × (rest_shaped counts order left lines ≡ true)
  unfolding rest_shaped
  shaped_gram left h = by_test (is_gram_line (length counts) order line)
      (λ t. (t, sym (rw (t, leb-suc-suc left (length lines)) refl) ∙ h))
      (λ f. clash h (rw (f, and-false) refl))

  shaped_mark : order < length counts → rest_shaped counts order 0 (line ∷ lines) ≡ true
      → (is_mark (grams_mark (suc order)) line ≡ true) × (rest_shaped counts (suc order) (get_or counts order 0) lines ≡ true)
  unfolding rest_shaped are_sections
  shaped_mark l h = by_test (is_mark (grams_mark (suc order)) line)
      (λ t. (t, sym (rw (drop-cons counts order 0 l, t, leb-zero (length (line ∷ lines))) refl) ∙ h))
      (λ f. clash h (rw (drop-cons counts order 0 l, f, leb-zero (length (line ∷ lines))) refl))

  shaped_end : length counts ≤ order → rest_shaped counts order 0 (line ∷ lines) ≡ true → is_mark end_mark line ≡ true
  unfolding rest_shaped are_sections
  shaped_end l h = sym (rw (drop_of_length-le counts l, leb-zero (length (line ∷ lines))) refl) ∙ h

module _ (counts : List ℕ) where
  -- the sections from a line on can be walked by their marks, and their n-grams are those of the walk
  pub rest_walk : (lines : List (List (List ℕ))) (order left : ℕ) → (left ≤ 0) ⊎ (1 ≤ order) → order ≤ length counts → rest_shaped counts order left lines ≡ true
      → (is_walk (length counts) order lines ≡ true) × (walked (length counts) order lines ≡ rest_ngrams counts order left lines)
  unfolding rest_ngrams ngrams_from is_walk walked
  rest_walk [] order left o k h = clash h (shaped_none counts order left)
  rest_walk (line ∷ lines) order zero o k h =
      by_test (leb (length counts) order)
      (λ t.
      let l = leb-true (length counts) order t in
      let e = eq-eqb (length line) 1 (mark_one end_mark line (shaped_end counts order line lines l h)) in
      (rw (e, eq-eqb order (length counts) (omega arith)) refl, rw (e, eq-eqb order (length counts) (omega arith), drop_of_length-le counts l) refl))
      (λ f.
      let l = leb-false (length counts) order f in
      let m = shaped_mark counts order line lines l h in
      let e = eq-eqb (length line) 1 (mark_one (grams_mark (suc order)) line m.0) in
      let w = rest_walk lines (suc order) (get_or counts order 0) (inr (omega arith)) l m.1 in
      (rw (e, ne_eqb order (length counts) (omega arith)) w.0, rw (e, ne_eqb order (length counts) (omega arith), drop-cons counts order 0 l) w.1))
  rest_walk (line ∷ lines) order (suc left) o k h =
      let g = shaped_gram counts order line lines left h in
      let at : 1 ≤ order = ⊎_elim (λ z. absurd (omega arith)) (λ p. p) o in
      let e = ne_eqb (length line) 1 (omega (arith, gram_long (length counts) order line g.0)) in
      let w = rest_walk lines order left (inr at) k g.1 in
      (rw (e, le-leb 1 order at, g.0) w.0, rw (e, w.1) refl)
