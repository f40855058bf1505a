-- The walk over the n-grams of an ARPA text that question 23 has passed.
use Rattle.std.specs.Prelude.{ℕ, ◌≤◌, ◌<◌, ◌≡◌, true, List, [], ◌∷◌, ℤ, length, drop, Option, MatchOption}
use Rattle.arpa.specs.Lines.{filled_lines}
use Rattle.arpa.specs.File.{Ngram}
use Rattle.outline.specs.Outline.{walked, is_walk}
use Rattle.ngram_lines.specs.Gram.{GramIs}
use Rattle.arpa_model.specs.declared.walk.Cursor.{Cursor}
use Rattle.arpa_model.specs.declared.walk.Met.{Met}

-- the n-grams from the cursor on
unfoldable pub ngrams_at : List ℕ → Cursor → List Ngram
ngrams_at text c = walked c.top c.order (filled_lines (drop c.at text))

-- it stands at a line of the sections
pub record Walking (text : List ℕ) (c : Cursor) : Type 0 where
  pub within : c.at ≤ length text
  pub few : c.top ≤ 3
  pub order_to : c.order ≤ c.top
  pub walk : is_walk c.top c.order (filled_lines (drop c.at text)) ≡ true

-- the first of them was met, and the others are those from its cursor on
pub record MetIs (text list : List ℕ) (c : Cursor) (row : List ℤ) (m : Met) : Type 0 where
  pub ngram : Ngram
  pub is : GramIs list ngram row m.gram
  pub first : ngrams_at text c ≡ ngram ∷ ngrams_at text m.cursor
  pub walking : Walking text m.cursor
  pub later : c.at < m.cursor.at

-- where there is one
abbrev pub NextIs : List ℕ → List ℕ → Cursor → List ℤ → Option Met → Type 0
NextIs text list c row next = MatchOption next (ngrams_at text c ≡ []) (MetIs text list c row)
