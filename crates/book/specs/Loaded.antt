-- A walk over a loaded list, line by line, and what a survey of the whole list says.
use Rattle.std.specs.declared.option.Option.TheVariants.{Some, None}
use Rattle.std.specs.declared.option.Option.{Option}
use Rattle.book.specs.declared.survey.Survey.{Survey}
use Rattle.std.specs.Prelude.{ℕ, ◌-◌, ◌≡◌, true, false, cond, List, leb, ℤ, length, drop}
use Rattle.laws.specs.Lists.{all}
use Rattle.meaning.specs.Book.{in_list, size_of, is_whole, loaded_lines}
use Rattle.book.specs.Survey.{fresh, survey_from, no_tally, tally_from}
use Rattle.book.specs.Grams.{grams_from}

-- how many numbers the line takes that stands at `at`; 0 where it cannot be cut, or is cut off
unfoldable pub size_at : List ℤ → ℕ → ℕ
size_at loaded at = cond (leb (size_of in_list (drop at loaded)) (length loaded - at)) (size_of in_list (drop at loaded)) 0

-- question 2 of all lines; where it passes, the survey of all lines, their tally and their records
abbrev pub SurveyOf : List ℤ → List ℕ → List ℕ → List ℕ → Option Survey → Type 0
SurveyOf loaded index₀ index₁ tally (Some s) =
    (all (is_whole in_list) (loaded_lines loaded) ≡ true) × (s ≡ survey_from fresh (loaded_lines loaded)) × (tally ≡ tally_from no_tally (loaded_lines loaded)) × (index₁ ≡ grams_from index₀ 0 (loaded_lines loaded))
SurveyOf loaded index₀ index₁ tally None = all (is_whole in_list) (loaded_lines loaded) ≡ false
