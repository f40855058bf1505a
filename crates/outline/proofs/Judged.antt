-- Question 23 by what code finds: the counts as it reads them, and the lines that follow them.
use Prim.Native.Nat.{ℕ, ◌+◌, ◌≤◌, ◌<◌}
use mathlib.Core.Path.{◌≡◌, refl, sym, ap, ◌∙◌}
use mathlib.Core.Bool.{Bool, true, false}
use mathlib.Core.List.{List}
use mathlib.Core.Logic.{inl}
use native.Mathlib.Omega.{arith}
use native.Mathlib.Nat.{zero-add}
use lib.Dec.{leb, leb-zero}
use lib.ListN.{length, take, drop, length-drop}
use lib.Seq.{length-take-le}
use borrow.Author.Tests.{le-leb, lt-leb}
use Rattle.laws.specs.Lists.{count}
use Rattle.laws.proofs.Tests.{both, by_test}
use Rattle.arpa.specs.Lines.{filled_lines}
use Rattle.arpa.specs.File.{counts_of, sections_of, are_sections, ngrams_of, is_unknown, is_shaped, is_arpa}
use Rattle.outline.specs.declared.counts.Counted.{Counted}
use Rattle.outline.specs.Outline.{lines_bound, AreSaturated, DataFound, CountsRead, rest_shaped, rest_ngrams, rest_is, walked, is_walk}
use Rattle.outline.specs.Walk.{Outlines}
use Rattle.arpa.proofs.Room.{filled_few}
use Rattle.outline.proofs.Rest.{rest_walk}
use Rattle.outline.proofs.Saturated.{saturated_length, same_sections, same_ngrams}

-- a text without counts is none
pub no_counts : (text : List ℕ) → length (counts_of text) ≡ 0 → is_arpa text ≡ false
unfolding is_arpa is_shaped
no_counts text e = rw (lt-leb 1 (length (counts_of text)) (omega arith))

module _ (text counts : List ℕ) (few : length (sections_of text) ≤ lines_bound) (are : AreSaturated (counts_of text) counts) where
  -- the sections are as they should be by these counts too
  sections_agree : {b : Bool} → are_sections (length counts) 1 counts (sections_of text) ≡ b → are_sections (length (counts_of text)) 1 (counts_of text) (sections_of text) ≡ b
  sections_agree e = rw (saturated_length (counts_of text) counts are) at (sym (same_sections (length counts) 1 (counts_of text) counts (sections_of text) few are) ∙ e)

  pub arpa_is : 1 ≤ length counts → is_arpa text ≡ rest_is counts 0 0 (sections_of text) 0
  unfolding is_arpa is_shaped ngrams_of rest_is rest_shaped rest_ngrams
  arpa_is h =
      let some = le-leb 1 (length (counts_of text)) (omega (arith, saturated_length (counts_of text) counts are)) in
      by_test (are_sections (length counts) 1 counts (sections_of text))
      (λ t. rw (some, sections_agree t, leb-zero (length (sections_of text)), t, same_ngrams (length counts) 1 (counts_of text) counts (sections_of text) few are t, zero-add) refl)
      (λ f. rw (some, sections_agree f, leb-zero (length (sections_of text)), f) refl)

  -- where they are, the walk by their marks meets the text's n-grams
  pub walk_is : rest_is counts 0 0 (sections_of text) 0 ≡ true
      → (is_walk (length counts) 0 (sections_of text) ≡ true) × (walked (length counts) 0 (sections_of text) ≡ ngrams_of text)
  unfolding ngrams_of rest_is rest_shaped rest_ngrams
  walk_is e =
      let shaped = (both (rest_shaped counts 0 0 (sections_of text)) (leb (0 + count is_unknown (rest_ngrams counts 0 0 (sections_of text))) 1) e).0 in
      let w = rest_walk counts (sections_of text) 0 0 (inl (omega arith)) (omega arith) shaped in
      let t : are_sections (length counts) 1 counts (sections_of text) ≡ true = sym (rw (leb-zero (length (sections_of text))) refl) ∙ shaped in
      (w.0, w.1 ∙ same_ngrams (length counts) 1 (counts_of text) counts (sections_of text) few are t)

-- the counts and the sections as code finds them
module _ {text : List ℕ} {from : ℕ} (d : DataFound text from) {counts : List ℕ} {r : Counted} (k : CountsRead text from counts r) where
  pub top_is : length (take r.top counts) ≡ r.top
  top_is = length-take-le r.top counts (omega (arith, k.most, k.long))

  counts_are : AreSaturated (counts_of text) (take r.top counts)
  unfolding counts_of
  counts_are = rw d.body at k.are

  counted : length (counts_of text) ≡ r.top
  counted = sym (saturated_length (counts_of text) (take r.top counts) counts_are) ∙ top_is

  sections_are : filled_lines (drop r.at text) ≡ sections_of text
  sections_are = k.rest ∙ rw (d.body, counted) refl

  few : length text < 18_446_744_073_709_551_616 → length (sections_of text) ≤ lines_bound
  few h = omega (arith, filled_few (drop r.at text), length-drop r.at text, ap length sections_are)

  -- there are no count lines
  pub broken_counts : r.top ≡ 0 → is_arpa text ≡ false
  broken_counts e = no_counts text (counted ∙ e)

  module _ (size : length text < 18_446_744_073_709_551_616) (some : 1 ≤ r.top) where
    judged : is_arpa text ≡ rest_is (take r.top counts) 0 0 (filled_lines (drop r.at text)) 0
    judged = rw sections_are (arpa_is text (take r.top counts) (few size) counts_are (omega (arith, top_is)))

    pub broken_sections : false ≡ rest_is (take r.top counts) 0 0 (filled_lines (drop r.at text)) 0 → is_arpa text ≡ false
    broken_sections e = judged ∙ sym e

    pub outlined : true ≡ rest_is (take r.top counts) 0 0 (filled_lines (drop r.at text)) 0 → Outlines text (record { top = r.top; at = r.at })
    outlined e =
        let w = walk_is text (take r.top counts) (few size) counts_are (rw sections_are at (sym e)) in
        record {
          arpa = judged ∙ sym e;
          top_from = some;
          few = k.most;
          within = k.within;
          walk = rw (sections_are, ← top_is) w.0;
          ngrams = rw (sections_are, ← top_is) w.1;
        }
