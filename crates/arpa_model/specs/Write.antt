-- The lines of n-grams, put into a list one behind the other.
use Rattle.std.specs.Prelude.{ℕ, ◌+◌, ◌≤◌, ◌≡◌, List, [], ◌++◌, ℤ, length, take, drop}
use Rattle.ngram_lines.specs.declared.Gram.{Gram}
use Rattle.ngram_lines.specs.declared.Gram.TheVariants.{PassedOver, Unknown, Line}
use Rattle.arpa_model.specs.Model.{GramFits}

-- the line of an n-gram that becomes one, at the row's front
abbrev pub line_of_gram : List ℤ → Gram → List ℤ
line_of_gram row PassedOver = []
line_of_gram row (Unknown u) = []
line_of_gram row (Line made) = take made.size row

-- there is room for it from n on
pub record FitsAt (out : List ℤ) (n : ℕ) (row : List ℤ) (gram : Gram) : Type 0 where
  pub fits : GramFits row gram
  pub room : n + length (line_of_gram row gram) ≤ length out

-- the line was put over what stood from n on
pub record PutAt (old : List ℤ) (n : ℕ) (line new : List ℤ) (end : ℕ) : Type 0 where
  pub end_is : end ≡ n + length line
  pub list_is : new ≡ take n old ++ (line ++ drop (n + length line) old)
