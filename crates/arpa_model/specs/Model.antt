-- What the n-grams of an ARPA text add to a book.
use Rattle.std.specs.Prelude.{ℕ, ◌+◌, ◌≤◌, ◌≡◌, Bool, true, ◌&&◌, List, [], map, ℤ, length, take, Some, None, unwrap_or}
use Rattle.laws.specs.Lists.{all, keep}
use Rattle.meaning.specs.Book.{is_score, is_weight}
use Rattle.arpa.specs.File.{Ngram, is_unknown}
use Rattle.arpa.specs.Words.{is_known}
use Rattle.arpa.specs.Import.{is_imported, imported_line, unseen_by}
use Rattle.book.specs.declared.survey.Survey.{Survey}
use Rattle.book.specs.Survey.{with_line, survey_from, with_kind, tally_from, gram_count, lines_most, Few}
use Rattle.book.specs.Grams.{with_gram, grams_from}
use Rattle.ngram_lines.specs.declared.Row.{Row}
use Rattle.ngram_lines.specs.declared.Gram.{Gram}
use Rattle.ngram_lines.specs.declared.Gram.TheVariants.{PassedOver, Unknown, Line}
use Rattle.arpa_model.specs.declared.walk.Cursor.{Cursor}
use Rattle.arpa_model.specs.declared.model.Model.{Model}
use Rattle.arpa_model.specs.Walk.{ngrams_at}

-- ════ n-grams in their order

-- question 24: the word list has the words of those that become lines
abbrev pub are_known_in : List ℕ → List Ngram → Bool
are_known_in list gs = all (λ g. all (is_known list) g.words) (keep is_imported gs)

-- question 25: the values that are not passed over are in a score's range
abbrev pub are_scores_in : List Ngram → Bool
are_scores_in gs = all (λ g. is_score g.score && is_weight g.weight) (keep is_imported gs) && all (λ g. is_score g.score) (keep is_unknown gs)

-- the lines that they become
abbrev pub lines_in : List ℕ → List Ngram → List (List ℤ)
lines_in list gs = map (imported_line list) (keep is_imported gs)

-- ════ one n-gram more

-- none was met
abbrev pub begun : Survey → Model
begun s = record { survey = s; known = true; ranged = true; unseen = None }

-- `<unk>` alone was met, with this value
unfoldable pub with_unknown : Model → ℤ → Model
with_unknown m u = record {
  survey = m.survey;
  known = m.known;
  ranged = m.ranged && is_score u;
  unseen = Some (unwrap_or m.unseen u);
}

-- the line stands at the row's front
abbrev pub RowFits : List ℤ → Row → Type 0
RowFits row made = made.size ≤ length row

-- where it has one
abbrev pub GramFits : List ℤ → Gram → Type 0
GramFits row PassedOver = Unit
GramFits row (Unknown u) = Unit
GramFits row (Line made) = RowFits row made

-- a line was met, surveyed, counted and noted
pub record RowNoted (m : Model) (made : Row) (row : List ℤ) (index₀ tally₀ : List ℕ) (r : Model) (index₁ tally₁ : List ℕ) : Type 0 where
  pub model_is : r ≡ record {
    survey = with_line m.survey (take made.size row);
    known = m.known && made.known;
    ranged = m.ranged && made.ranged;
    unseen = m.unseen;
  }
  pub tally_is : tally₁ ≡ with_kind tally₀ (take made.size row)
  pub index_is : index₁ ≡ with_gram index₀ (gram_count tally₀) (take made.size row)

-- an n-gram was met that becomes no line
pub record Unchanged (m r : Model) (index₀ tally₀ index₁ tally₁ : List ℕ) : Type 0 where
  pub model_is : r ≡ m
  pub tally_is : tally₁ ≡ tally₀
  pub index_is : index₁ ≡ index₀

abbrev pub NotedAs : Model → Gram → List ℤ → List ℕ → List ℕ → Model → List ℕ → List ℕ → Type 0
NotedAs m PassedOver row index₀ tally₀ r index₁ tally₁ = Unchanged m r index₀ tally₀ index₁ tally₁
NotedAs m (Unknown u) row index₀ tally₀ r index₁ tally₁ = Unchanged (with_unknown m u) r index₀ tally₀ index₁ tally₁
NotedAs m (Line made) row index₀ tally₀ r index₁ tally₁ = RowNoted m made row index₀ tally₀ r index₁ tally₁

-- ════ all of them

-- the u of the book whose u is this one, after the n-grams that were met and those that are left
abbrev pub unseen_from : Model → List Ngram → ℤ → ℤ
unseen_from m gs u = unwrap_or m.unseen (unseen_by (keep is_unknown gs) u)

-- a walk has come from the n-grams `gs₀`, and what was known before them, to `gs`: what they answer together is the same
pub record Carried (list : List ℕ) (gs₀ : List Ngram) (m₀ : Model) (index₀ tally₀ : List ℕ) (gs : List Ngram) (m : Model) (index tally : List ℕ) : Type 0 where
  pub known_is : m.known && are_known_in list gs ≡ m₀.known && are_known_in list gs₀
  pub ranged_is : m.ranged && are_scores_in gs ≡ m₀.ranged && are_scores_in gs₀
  pub unseen_is : m.ranged ≡ true → (u : ℤ) → unseen_from m gs u ≡ unseen_from m₀ gs₀ u
  pub survey_is : m.ranged ≡ true → survey_from m.survey (lines_in list gs) ≡ survey_from m₀.survey (lines_in list gs₀)
  pub tally_is : m.ranged ≡ true → tally_from tally (lines_in list gs) ≡ tally_from tally₀ (lines_in list gs₀)
  pub index_is : m.ranged ≡ true → grams_from index (gram_count tally) (lines_in list gs) ≡ grams_from index₀ (gram_count tally₀) (lines_in list gs₀)

-- no count passes its type, however many lines come
pub record IsRoom (text : List ℕ) (c : Cursor) (s : Survey) (tally : List ℕ) : Type 0 where
  pub most : ℕ
  pub few : Few s tally most
  pub room : most + length (ngrams_at text c) ≤ lines_most

-- the model of the n-grams from the cursor on, behind a book's lines of which s, index₀ and tally₀ are known
pub record Imports (text list : List ℕ) (c : Cursor) (s : Survey) (index₀ tally₀ : List ℕ) (m : Model) (index₁ tally₁ : List ℕ) : Type 0 where
  pub carried : Carried list (ngrams_at text c) (begun s) index₀ tally₀ [] m index₁ tally₁
