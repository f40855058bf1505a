-- What is known of a loaded book once it is open, and what is ready once a direction is begun.
use Rattle.std.specs.Prelude.{ℕ, ◌≡◌, List, ℤ, Result, Ok, Err}
use Rattle.meaning.specs.Questions.{◌orelse◌, number}
use Rattle.meaning.specs.Book.{Book, book_refusal, book_of}
use Rattle.meaning.specs.Direction.{direction_refusal}
use Rattle.meaning.specs.declared.Refusal.{Refusal}
use Rattle.ngrams.specs.Grams.{grams_in, Listing}
use Rattle.book.specs.Entries.{EntriesAt}
use Rattle.derivation.specs.declared.Setup.{Setup}
use Rattle.derivation.specs.Prepared.{Prepared}
use Rattle.opening.specs.declared.Counts.{Counts}

-- ════ questions 2 to 6, 21 and 20

-- they pass: the list has the book's n-grams as indexed records, and the places of its entries
pub record Open (loaded : List ℤ) (index : List ℕ) (counts : Counts) : Type 0 where
  pub passed : book_refusal loaded ≡ 0
  pub grams_are : grams_in index counts.grams ≡ (book_of loaded).grams
  pub listing : Listing index counts.grams counts.shorter
  pub entries_at : EntriesAt loaded index counts.phrases

-- "Any call that takes a loaded book ..: 2 to 6."
abbrev pub OpenedAs : List ℤ → List ℕ → Result Counts Refusal → Type 0
OpenedAs loaded index (Ok counts) = Open loaded index counts
OpenedAs loaded index (Err refusal) = book_refusal loaded ≡ number refusal

-- ════ questions 9 and 10

-- the numbers of the B line, and the counts given
pub record SetupOf (book : Book) (n : ℕ) (counts : Counts) (t : Setup) : Type 0 where
  pub n_is : t.n ≡ n
  pub limit_is : t.limit ≡ book.limit
  pub eta_is : t.eta ≡ book.eta
  pub phrases_are : t.phrases ≡ counts.phrases
  pub unseen_is : t.model.unseen ≡ book.unseen
  pub grams_are : t.model.count ≡ counts.grams
  pub shorter_are : t.model.shorter ≡ counts.shorter

-- "A direction as numbers: 9, 10." Where they pass, the list and the numbers are those of the book and the direction
abbrev pub BegunAs : List ℤ → List ℕ → List ℕ → Result Setup Refusal → Type 0
BegunAs loaded direction index (Ok t) = Prepared loaded direction index t
BegunAs loaded direction index (Err refusal) = direction_refusal direction ≡ number refusal

-- ════ both

abbrev pub StartOf : List ℤ → List ℕ → List ℕ → Result Setup Refusal → Type 0
StartOf loaded direction index (Ok t) = Prepared loaded direction index t
StartOf loaded direction index (Err refusal) = (book_refusal loaded orelse direction_refusal direction) ≡ number refusal
