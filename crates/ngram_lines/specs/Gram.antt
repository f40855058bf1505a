-- What becomes of the line of an n-gram.
use Rattle.std.specs.Prelude.{ℕ, ◌≤◌, ◌≡◌, true, false, ◌&&◌, List, [], ◌∷◌, map, ℤ, length, take, Option, unwrap_or, is_some}
use Rattle.laws.specs.Lists.{all}
use Rattle.meaning.specs.Book.{is_score, is_weight}
use Rattle.arpa.specs.File.{Ngram, is_gram_line, is_unknown}
use Rattle.arpa.specs.Words.{word_number, is_known, spelled_most}
use Rattle.arpa.specs.Import.{is_imported, imported_line}
use Rattle.tokens.specs.Fields.{FieldsAt}
use Rattle.thousandths.specs.Rounded.{Rounded}
use Rattle.ngram_lines.specs.declared.Words.{Words}
use Rattle.ngram_lines.specs.declared.Row.{Row}
use Rattle.ngram_lines.specs.declared.Gram.{Gram}
use Rattle.ngram_lines.specs.declared.Gram.TheVariants.{PassedOver, Unknown, Line}

-- the line of an n-gram of this order was read
pub record GramRead (text places : List ℕ) (count order : ℕ) : Type 0 where
  pub fields : List (List ℕ)
  pub at : FieldsAt text places count fields
  pub top : ℕ
  pub is : is_gram_line top order fields ≡ true
  pub order_from : 1 ≤ order
  pub order_to : order ≤ 3

-- a word by the word list: its number, which is 0 by the definition where it has none
pub record WordIs (list word : List ℕ) (r : Option ℕ) : Type 0 where
  pub number_is : unwrap_or r 0 ≡ word_number list word
  pub known_is : is_some r ≡ is_known list word
  pub small : unwrap_or r 0 ≤ spelled_most

-- each fits a loaded number
pub record AreSmall (w : Words) : Type 0 where
  pub first_small : w.first ≤ spelled_most
  pub second_small : w.second ≤ spelled_most
  pub third_small : w.third ≤ spelled_most

-- the numbers of an n-gram's words, as many as there are
abbrev pub numbers_of : ℕ → Words → List ℕ
numbers_of order w = take order (w.first ∷ w.second ∷ w.third ∷ [])

-- the words' numbers by the word list
pub record WordsAre (list : List ℕ) (words : List (List ℕ)) (order : ℕ) (r : Words) : Type 0 where
  pub numbers_are : numbers_of order r ≡ map (word_number list) words
  pub known_is : r.known ≡ all (is_known list) words
  pub small : AreSmall r

-- the line stands at the row's front; where a value leaves a score's range, another stands in its place that does too. It is as long either way
pub record RowIs (list : List ℕ) (g : Ngram) (row : List ℤ) (r : Row) : Type 0 where
  pub imported : is_imported g ≡ true
  pub not_unknown : is_unknown g ≡ false
  pub known_is : r.known ≡ all (is_known list) g.words
  pub ranged_is : r.ranged ≡ is_score g.score && is_weight g.weight
  pub within : r.size ≤ length row
  pub size_is : r.size ≡ length (imported_line list g)
  pub few : r.size ≤ 5
  pub line : r.ranged ≡ true → take r.size row ≡ imported_line list g

-- what becomes of an n-gram
abbrev pub GramIs : List ℕ → Ngram → List ℤ → Gram → Type 0
GramIs list g row PassedOver = (is_imported g ≡ false) × (is_unknown g ≡ false)
GramIs list g row (Unknown u) = (is_imported g ≡ false) × (is_unknown g ≡ true) × Rounded g.score u
GramIs list g row (Line r) = RowIs list g row r
