-- From the answer of a load to what a text answers.
use Rattle.std.specs.declared.result.Result.TheVariants.{Ok, Err}
use Rattle.std.specs.declared.result.Result.{Result}
use Rattle.meaning.specs.declared.Refusal.{Refusal}
use Rattle.loading.specs.declared.load.Grams.{Grams}
use Prim.Native.Nat.{ℕ, ◌+◌}
use native.Mathlib.Omega.{arith}
use mathlib.Core.Path.{◌≡◌, refl, sym, ap, ◌∙◌}
use mathlib.Core.Bool.{true}
use mathlib.Core.List.{List}
use lib.IntN.{ℤ}
use lib.ListN.{length, get_or}
use Rattle.meaning.specs.Book.{in_text, Book, is_book_text, is_counted, text_lines, loaded_of, lines_refusal}
use Rattle.meaning.proofs.Ranges.{lines_passed}
use Rattle.meaning.proofs.Loaded.{read_long}
use Rattle.text.specs.Walk.{text_numbers}
use Rattle.book.specs.Survey.{no_tally, tally_from}
use Rattle.book.proofs.Counts.{tally_is}
use Rattle.loading.specs.Loaded.{CountedAs, Answered}
use Rattle.reading.specs.Text.{counted_as, CheckedAs}

-- the loaded book of a text that passes has two numbers more than the text
pub loaded_long : (t : List ℕ) → lines_refusal in_text (text_lines t) ≡ 0 → length (loaded_of t) ≡ 2 + length (text_numbers t)
unfolding loaded_of text_numbers
loaded_long t e = read_long (text_lines t) (lines_passed in_text (text_lines t) e)

-- question 21 is not asked of a text
pub text_counted : (lines : List (List ℤ)) → CountedAs in_text lines true
unfolding is_counted
text_counted lines w b = refl

pub answer_counted : (t : List ℕ) (count : ℕ) (tally : List ℕ) (book : Book) (index : List ℕ) (r : Result Grams Refusal) → is_book_text t ≡ true → count ≡ 2 + length (text_numbers t) → tally ≡ tally_from no_tally (text_lines t)
    → Answered (lines_refusal in_text (text_lines t)) book index r → CheckedAs t (counted_as r count tally)
answer_counted t count tally book index (Ok s) i c n a = record {
  passed = rw i a.passes;
  numbers_are = c ∙ sym (loaded_long t a.passes);
  phrases_are = ap (λ (x : List ℕ). get_or x 2 0) n ∙ tally_is 2 (omega arith) (omega arith) (text_lines t);
  triples_are = ap (λ (x : List ℕ). get_or x 3 0) n ∙ tally_is 3 (omega arith) (omega arith) (text_lines t);
}
answer_counted t count tally book index (Err refusal) i c n a = rw i a
