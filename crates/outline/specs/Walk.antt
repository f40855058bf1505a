-- The walk over the sections, and the outline, as code has them.
use Rattle.std.specs.Prelude.{ℕ, ◌≤◌, ◌≡◌, Bool, true, false, List, ◌⊎◌, length, drop, Option, MatchOption}
use Rattle.laws.specs.Bits.{one}
use Rattle.arpa.specs.Lines.{filled_lines}
use Rattle.arpa.specs.File.{ngrams_of, is_arpa}
use Rattle.outline.specs.Outline.{rest_is, walked, is_walk}
use Rattle.outline.specs.declared.sections.Cursor.{Cursor}
use Rattle.outline.specs.declared.sections.Outline.{Outline}

-- a place that the walk comes to
pub record Proper (counts : List ℕ) (c : Cursor) : Type 0 where
  pub few : length counts ≤ 3
  pub order_to : c.order ≤ length counts
  pub begun : (c.left ≤ 0) ⊎ (1 ≤ c.order)

-- what is left of the sections at a place
abbrev pub left_is : List ℕ → Cursor → List (List (List ℕ)) → Bool
left_is counts c lines = rest_is counts c.order c.left lines (one c.unknown)

-- the answer to the first of the lines, with `lines` behind it: the place behind it, where it is what it should be
abbrev pub AdvancedAs : List ℕ → Cursor → List (List (List ℕ)) → List (List (List ℕ)) → Option Cursor → Type 0
AdvancedAs counts c all lines next = MatchOption next (left_is counts c all ≡ false) (λ n. Proper counts n × (left_is counts c all ≡ left_is counts n lines))

-- an ARPA text: its n-grams are met by a walk over the lines from `at` on
pub record Outlines (text : List ℕ) (o : Outline) : Type 0 where
  pub arpa : is_arpa text ≡ true
  pub top_from : 1 ≤ o.top
  pub few : o.top ≤ 3
  pub within : o.at ≤ length text
  pub walk : is_walk o.top 0 (filled_lines (drop o.at text)) ≡ true
  pub ngrams : walked o.top 0 (filled_lines (drop o.at text)) ≡ ngrams_of text

-- question 23
abbrev pub OutlineIs : List ℕ → Option Outline → Type 0
OutlineIs text outline = MatchOption outline (is_arpa text ≡ false) (Outlines text)
