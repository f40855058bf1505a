-- The walk over the sections' lines: its start, one line more by what that line is, and its end.
use Rattle.std.proofs.Common.{Some}
use Prim.Native.Nat.{ℕ, suc, ◌+◌, ◌-◌, ◌≤◌, ◌<◌}
use mathlib.Core.Path.{◌≡◌, refl, sym, ap, ◌∙◌}
use mathlib.Core.Bool.{Bool, true, false, and-false, and-true}
use mathlib.Core.List.{List, [], ◌∷◌}
use mathlib.Core.Logic.{inl, inr, ⊎_elim}
use native.Mathlib.Omega.{arith}
use native.Mathlib.Numerals.{add-one}
use lib.ListN.{length, get_or, drop}
use borrow.Author.Tests.{le-leb, lt-leb}
use Rattle.laws.specs.Bits.{one}
use Rattle.laws.specs.Lists.{count}
use Rattle.arpa.specs.Lines.{filled_lines}
use Rattle.arpa.specs.File.{end_mark, grams_mark, is_mark, is_gram_line, ngram_of, is_unknown}
use Rattle.tokens.specs.declared.scan.Line.{Line}
use Rattle.tokens.specs.Scan.{LineRead}
use Rattle.outline.specs.declared.sections.Cursor.{Cursor}
use Rattle.outline.specs.Outline.{rest_ngrams, rest_is}
use Rattle.outline.specs.Walk.{Proper, left_is, AdvancedAs}
use Rattle.outline.proofs.Rest.{rest_none, rest_gram, rest_no_gram, rest_mark, rest_no_mark, rest_end}

one_most : (b : Bool) → one b ≤ 1
one_most true = omega arith
one_most false = omega arith

-- ---- one line more

module _ {counts : List ℕ} {c : Cursor} (p : Proper counts c) (line : List (List ℕ)) (lines : List (List (List ℕ))) where
  -- behind the last section
  pub ends_by : {b : Bool} → c.left ≡ 0 → length counts ≤ c.order → b ≡ is_mark end_mark line → left_is counts c (line ∷ lines) ≡ b
  ends_by z l e = rw (z, rest_end counts c.order (one c.unknown) line lines l, le-leb (one c.unknown) 1 (one_most c.unknown), and-true) (sym e)

  pub no_section : c.left ≡ 0 → c.order < length counts → false ≡ is_mark (grams_mark (c.order + 1)) line → left_is counts c (line ∷ lines) ≡ false
  no_section z l e = rw (z, rest_no_mark counts c.order (one c.unknown) line lines l (sym (rw (add-one c.order) at e)))

  pub section_begins : c.left ≡ 0 → c.order < length counts → true ≡ is_mark (grams_mark (c.order + 1)) line
      → AdvancedAs counts c (line ∷ lines) lines (Some (record { order = c.order + 1; left = get_or counts c.order 0; unknown = c.unknown }))
  section_begins z l e = (
    record { few = p.few; order_to = omega arith; begun = inr (omega arith) },
    rw (z, add-one c.order) (rest_mark counts c.order (one c.unknown) line lines l (sym (rw (add-one c.order) at e))),
  )

  -- in a section
  pub no_gram : 1 ≤ c.left → false ≡ is_gram_line (length counts) c.order line → left_is counts c (line ∷ lines) ≡ false
  no_gram h e = let z : c.left ≡ suc (c.left - 1) = omega arith in rw z (rest_no_gram counts c.order (one c.unknown) line lines (c.left - 1) (sym e))

  gram_left : 1 ≤ c.left → true ≡ is_gram_line (length counts) c.order line
      → left_is counts c (line ∷ lines) ≡ rest_is counts c.order (c.left - 1) lines (one c.unknown + one (is_unknown (ngram_of c.order line)))
  gram_left h e = let z : c.left ≡ suc (c.left - 1) = omega arith in ap (λ (n : ℕ). rest_is counts c.order n (line ∷ lines) (one c.unknown)) z ∙ rest_gram counts c.order (one c.unknown) line lines (c.left - 1) (sym e)

  pub gram_passed : {u : Bool} → 1 ≤ c.left → true ≡ is_gram_line (length counts) c.order line → one u ≡ one c.unknown + one (is_unknown (ngram_of c.order line))
      → AdvancedAs counts c (line ∷ lines) lines (Some (record { order = c.order; left = c.left - 1; unknown = u }))
  gram_passed h e s =
      (record { few = p.few; order_to = p.order_to; begun = inr (⊎_elim (λ z. absurd (omega arith)) (λ o. o) p.begun) }, rw s (gram_left h e))

  pub gram_twice : 1 ≤ c.left → true ≡ is_gram_line (length counts) c.order line → true ≡ is_unknown (ngram_of c.order line) → c.unknown ≡ true
      → left_is counts c (line ∷ lines) ≡ false
  unfolding rest_is
  gram_twice h e t z =
      gram_left h e ∙ rw (sym t, z, lt-leb (1 + 1 + count is_unknown (rest_ngrams counts c.order (c.left - 1) lines)) 1 (omega arith), and-false)

-- ---- the whole walk

-- at `at`, what is left decides what the lines from `from` on are
pub record Walking (text counts : List ℕ) (from at : ℕ) (c : Cursor) : Type 0 where
  pub within : at ≤ length text
  pub proper : Proper counts c
  pub left : left_is counts c (filled_lines (drop at text)) ≡ rest_is counts 0 0 (filled_lines (drop from text)) 0

module _ {text counts : List ℕ} {from : ℕ} where
  pub walking_start : from ≤ length text → length counts ≤ 3 → Walking text counts from from (record { order = 0; left = 0; unknown = false })
  walking_start h l = record { within = h; proper = record { few = l; order_to = omega arith; begun = inl (omega arith) }; left = refl }

  pub walking_none : {at : ℕ} {c : Cursor} → Walking text counts from at c → filled_lines (drop at text) ≡ [] → false ≡ rest_is counts 0 0 (filled_lines (drop from text)) 0
  walking_none {at} {c} w e = sym (rw e (rest_none counts c.order (one c.unknown) c.left)) ∙ w.left

  module _ {at : ℕ} {c : Cursor} (w : Walking text counts from at c) {places : List ℕ} {line : Line} (r : LineRead text at places line) where
    -- what is left from this line on decides
    decided : {b : Bool} → left_is counts c (r.fields ∷ filled_lines (drop line.next text)) ≡ b → b ≡ rest_is counts 0 0 (filled_lines (drop from text)) 0
    decided a = sym a ∙ ap (left_is counts c) (sym r.is) ∙ w.left

    pub walking_on : (next : Cursor) → AdvancedAs counts c (r.fields ∷ filled_lines (drop line.next text)) (filled_lines (drop line.next text)) (Some next)
        → Walking text counts from line.next next
    walking_on next a = record { within = r.within; proper = a.0; left = sym a.1 ∙ ap (left_is counts c) (sym r.is) ∙ w.left }

    pub walking_broken : left_is counts c (r.fields ∷ filled_lines (drop line.next text)) ≡ false → false ≡ rest_is counts 0 0 (filled_lines (drop from text)) 0
    walking_broken a = decided a

    pub walking_end : {b : Bool} → c.left ≡ 0 → length counts ≤ c.order → b ≡ is_mark end_mark r.fields → b ≡ rest_is counts 0 0 (filled_lines (drop from text)) 0
    walking_end z l e = decided (ends_by w.proper r.fields (filled_lines (drop line.next text)) z l e)
