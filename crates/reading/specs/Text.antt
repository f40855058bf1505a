-- What a text of a book answers to questions 1 to 6, and its survey.
use Rattle.std.specs.declared.result.Result.TheVariants.{Ok, Err}
use Rattle.std.specs.declared.result.Result.{Result}
use Rattle.std.specs.declared.option.Option.TheVariants.{Some, None}
use Rattle.loading.specs.declared.load.Grams.{Grams}
use Rattle.std.specs.Prelude.{ℕ, ◌+◌, ◌*◌, ◌≤◌, ◌≡◌, true, false, Option, Some, None, Result, Ok, Err, List, ◌∷◌, ◌++◌, ℤ, pos, length, get_or, take, drop}
use Rattle.laws.specs.Lists.{all, count}
use Rattle.meaning.specs.Questions.{◌unless◌, ◌orelse◌, number}
use Rattle.meaning.specs.Book.{in_text, is_p, is_t, is_book_text, is_whole, text_lines, loaded_of, lines_refusal}
use Rattle.ngrams.specs.Parts.{records_most, record_at}
use Rattle.book.specs.declared.survey.Survey.{Survey}
use Rattle.text.specs.Walk.{text_numbers}
use Rattle.reading.specs.declared.TextCounts.{TextCounts}
use Rattle.reading.specs.declared.TextSurvey.{TextSurvey}
use Rattle.meaning.specs.declared.Refusal.{Refusal}
use Rattle.loading.specs.Loaded.{WholeAs}

-- questions 1 to 6 and 20
abbrev pub text_refusal : List ℕ → ℕ
text_refusal text = 1 unless is_book_text text orelse lines_refusal in_text (text_lines text)

-- it is a book's text, its lines are whole, s is their survey and `tally` their tally, and it has `count` numbers with the two counts
pub record WholeText (text : List ℕ) (index₀ index₁ tally : List ℕ) (s : Survey) (count : ℕ) : Type 0 where
  pub formed : is_book_text text ≡ true
  pub lines : WholeAs in_text (text_lines text) index₀ index₁ tally s
  pub counted : count ≡ 2 + length (text_numbers text)

-- questions 1 and 2 of a text; where both pass, its survey
abbrev pub TextSurveyIs : List ℕ → List ℕ → List ℕ → List ℕ → Option TextSurvey → Type 0
TextSurveyIs text index₀ index₁ tally (Some s) = WholeText text index₀ index₁ tally s.survey s.count
TextSurveyIs text index₀ index₁ tally None = is_book_text text ≡ true → all (is_whole in_text) (text_lines text) ≡ false

-- how many bytes a short text has at most
abbrev pub short_text : ℕ
short_text = 10_240

-- a list of so many places has room for the n-grams of a text of so many bytes, eight for the line of each
abbrev pub IsRoomFor : ℕ → ℕ → Type 0
IsRoomFor bytes places = (n : ℕ) → n ≤ records_most → 8 * n ≤ bytes → record_at n ≤ places

-- the answer with the counts, without what a search needs: how many numbers there are, and of the tally how many P and T lines
abbrev pub counted_as : Result Grams Refusal → ℕ → List ℕ → Result TextCounts Refusal
counted_as (Ok grams) numbers tally = Ok (record { numbers = numbers; phrases = get_or tally 2 0; triples = get_or tally 3 0 })
counted_as (Err refusal) numbers tally = Err refusal

-- questions 1 to 6 and 20 pass, and the counts are those of the text and of its loaded book
pub record Counted (text : List ℕ) (counts : TextCounts) : Type 0 where
  pub passed : text_refusal text ≡ 0
  pub numbers_are : counts.numbers ≡ length (loaded_of text)
  pub phrases_are : counts.phrases ≡ count is_p (text_lines text)
  pub triples_are : counts.triples ≡ count is_t (text_lines text)

-- what questions 1 to 6 and 20 answer
abbrev pub CheckedAs : List ℕ → Result TextCounts Refusal → Type 0
CheckedAs text (Ok counts) = Counted text counts
CheckedAs text (Err refusal) = text_refusal text ≡ number refusal

-- a list whose numbers from the third to the sixth were moved to its front, with the two counts behind them
unfoldable pub with_b : ℕ → ℕ → List ℤ → List ℤ
with_b phrases triples list = take 4 (drop 2 list) ++ (pos phrases ∷ pos triples ∷ drop 6 list)
