-- What the lines of a book answer to questions 2 to 6, 21 and 20, and what a search has of a book that passes them.
use Rattle.std.specs.declared.result.Result.TheVariants.{Ok, Err}
use Rattle.std.specs.declared.result.Result.{Result}
use Rattle.std.specs.declared.option.Option.TheVariants.{Some, None}
use Rattle.std.specs.declared.option.Option.{Option}
use Rattle.meaning.specs.declared.Refusal.{Refusal}
use Rattle.std.specs.Prelude.{ℕ, ◌≡◌, Bool, true, false, ◌&&◌, List, ℤ, pos, get_or}
use Rattle.laws.specs.Integers.{eqℤ}
use Rattle.laws.specs.Lists.{all}
use Rattle.meaning.specs.Questions.{number}
use Rattle.meaning.specs.Book.{Form, number_at, is_whole, is_one_bFirst, is_counted, Book}
use Rattle.ngrams.specs.Grams.{grams_in, Listing}
use Rattle.book.specs.declared.survey.Survey.{Survey}
use Rattle.book.specs.Survey.{fresh, survey_from, no_tally, tally_from}
use Rattle.book.specs.Grams.{grams_from}
use Rattle.loading.specs.declared.load.Grams.{Grams}

-- the number of a refusal, 0 for none
abbrev pub refusal_of : Result Unit Refusal → ℕ
refusal_of (Ok tt) = 0
refusal_of (Err refusal) = number refusal

-- ════ the survey of lines

-- the lines are whole, s is what is known of them and `tally` how many there are of each kind, and their records were put into
-- the list that was `index₀`
pub record WholeAs (form : Form) (lines : List (List ℤ)) (index₀ index₁ tally : List ℕ) (s : Survey) : Type 0 where
  pub whole : all (is_whole form) lines ≡ true
  pub surveyed : s ≡ survey_from fresh lines
  pub tallied : tally ≡ tally_from no_tally lines
  pub gathered : index₁ ≡ grams_from index₀ 0 lines

-- question 2 of all lines; where it passes, their survey
abbrev pub SurveyIs : Form → List (List ℤ) → List ℕ → List ℕ → List ℕ → Option Survey → Type 0
SurveyIs form lines index₀ index₁ tally (Some s) = WholeAs form lines index₀ index₁ tally s
SurveyIs form lines index₀ index₁ tally None = all (is_whole form) lines ≡ false

-- the two counts that stand in a loaded list behind the first four numbers are those of the tally
abbrev pub stores_counts : List ℤ → List ℕ → Bool
stores_counts loaded tally = eqℤ (number_at loaded 4) (pos (get_or tally 2 0)) && eqℤ (number_at loaded 5) (pos (get_or tally 3 0))

-- what question 21 finds, of lines that pass 2 and 3
abbrev pub CountedAs : Form → List (List ℤ) → Bool → Type 0
CountedAs form lines counted = all (is_whole form) lines ≡ true → is_one_bFirst lines ≡ true → counted ≡ is_counted form lines

-- ════ what questions 2 to 6, 21 and 20 answer

-- none refuses: how many n-grams the book has and how many of them are shorter than a triple, and its n-grams as indexed records
pub record Known (refusal : ℕ) (book : Book) (index : List ℕ) (grams : Grams) : Type 0 where
  pub passes : refusal ≡ 0
  pub grams_are : grams_in index grams.count ≡ book.grams
  pub listing : Listing index grams.count grams.shorter

-- of lines or a list that the questions answer with `refusal`, 0 for none, and that state the book `book`
abbrev pub Answered : ℕ → Book → List ℕ → Result Grams Refusal → Type 0
Answered refusal book index (Ok grams) = Known refusal book index grams
Answered refusal book index (Err question) = refusal ≡ number question

-- the answer without what a search needs
abbrev pub replied : Result Grams Refusal → Result Unit Refusal
replied (Ok grams) = (Ok tt)
replied (Err refusal) = Err refusal
