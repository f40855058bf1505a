-- The questions of an import behind 23, and what the longer book has, as code has them.
use Rattle.std.specs.declared.result.Result.{Result}
use Rattle.std.specs.Prelude.{ℕ, ◌+◌, ◌-◌, ◌*◌, ◌≤◌, ◌≡◌, true, List, ◌++◌, ℤ, length, get_or, unwrap_or, Result, MatchResult}
use Rattle.laws.specs.Lists.{count, concat}
use Rattle.meaning.specs.Questions.{number, ◌unless◌, ◌orelse◌}
use Rattle.meaning.specs.Book.{in_list, grams_most, is_t, is_counted, lines_refusal, loaded_lines, book_refusal, loaded_book}
use Rattle.meaning.specs.declared.Refusal.{Refusal}
use Rattle.arpa.specs.File.{ngrams_of, is_arpa}
use Rattle.arpa.specs.Import.{unseen_by, unknown_of, imported_lines, longer_lines, are_known, are_scores}
use Rattle.loading.specs.Loaded.{refusal_of, WholeAs}
use Rattle.arpa_model.specs.declared.walk.Cursor.{Cursor}
use Rattle.arpa_model.specs.declared.model.Model.{Model}
use Rattle.longer.specs.declared.Counts.{Counts}
use Rattle.longer.specs.declared.Longer.{Longer}
use Rattle.arpa_model.specs.Walk.{Walking, ngrams_at}

-- question 23 has passed the text, and the cursor stands before its first n-gram
pub record Opened (text : List ℕ) (c : Cursor) : Type 0 where
  pub arpa : is_arpa text ≡ true
  pub walking : Walking text c
  pub ngrams : ngrams_at text c ≡ ngrams_of text

-- questions 24 and 25, of all n-grams
abbrev pub model_refusal : Model → ℕ
model_refusal m = 24 unless m.known orelse 25 unless m.ranged

-- and as the meaning has them
abbrev pub texts_refusal : List ℕ → List ℕ → ℕ
texts_refusal text list = 24 unless are_known text list orelse 25 unless are_scores text

-- ════ the longer book

-- how many U, D and T lines a tally has
abbrev pub counts_in : List ℕ → Counts
counts_in tally = record { words = get_or tally 4 0; pairs = get_or tally 5 0; triples = get_or tally 3 0 }

-- none has become fewer, and they are no more than question 5 allows
pub record AreSince (before after : Counts) : Type 0 where
  pub words_from : before.words ≤ after.words
  pub pairs_from : before.pairs ≤ after.pairs
  pub triples_from : before.triples ≤ after.triples
  pub words_to : after.words ≤ grams_most
  pub pairs_to : after.pairs ≤ grams_most
  pub triples_to : after.triples ≤ grams_most

-- how many numbers the lines take by which they grew: 4 of a U, 5 of a D and of a T line
abbrev pub size_since : Counts → Counts → ℕ
size_since before after = 4 * (after.words - before.words) + 5 * (after.pairs - before.pairs) + 5 * (after.triples - before.triples)

-- the answer of 24 and 25, and of the questions of lines that were surveyed and whose counts are right, where 25 passes
abbrev pub LongerChecked : Model → List ℕ → List ℕ → Result Unit Refusal → Type 0
LongerChecked m index tally r =
    (lines : List (List ℤ)) (index₀ : List ℕ) → (m.ranged ≡ true → WholeAs in_list lines index₀ index tally m.survey × (is_counted in_list lines ≡ true)) → refusal_of r ≡ model_refusal m orelse lines_refusal in_list lines

-- the lines and the numbers of the longer book, of a book's numbers
abbrev pub longer_of : List ℕ → List ℕ → List ℤ → List ℤ
longer_of text list book = loaded_book (longer_lines text list (loaded_lines book))

-- the refusal by 24 and 25, by the book's questions and by those of the longer book
abbrev pub judge_refusal : List ℕ → List ℕ → List ℤ → ℕ
judge_refusal text list book = texts_refusal text list orelse (book_refusal book orelse book_refusal (longer_of text list book))

-- none refuses: u, the T lines and the numbers more of the longer book
pub record LongerIs (text list : List ℕ) (book : List ℤ) (l : Longer) : Type 0 where
  pub passes : judge_refusal text list book ≡ 0
  pub unseen_is : (u : ℤ) → unwrap_or l.unseen u ≡ unseen_by (unknown_of text) u
  pub triples_are : l.triples ≡ count is_t (loaded_lines book ++ imported_lines text list)
  pub triples_few : l.triples ≤ grams_most
  pub size_is : l.size ≡ length (concat (imported_lines text list))

abbrev pub JudgedAs : List ℕ → List ℕ → List ℤ → Result Longer Refusal → Type 0
JudgedAs text list book r = MatchResult r (LongerIs text list book) (λ refusal. judge_refusal text list book ≡ number refusal)
