-- What is known of a book and the numbers of a decode are those of its book and its direction.
use Rattle.std.specs.Prelude.{ℕ, ◌≡◌, List, ℤ}
use Rattle.meaning.specs.Book.{book_refusal, book_of}
use Rattle.meaning.specs.Direction.{word_count, direction_refusal}
use Rattle.meaning.specs.Derivation.{triple_score}
use Rattle.ngrams.specs.Grams.{grams_in}
use Rattle.book.specs.Entries.{EntriesAt}
use Rattle.derivation.specs.Model.{Model, model_score}
use Rattle.derivation.specs.declared.Setup.{Setup}

pub record Prepared (loaded : List ℤ) (direction : List ℕ) (index : List ℕ) (t : Setup) : Type 0 where
  pub passed : book_refusal loaded ≡ 0
  pub directed : direction_refusal direction ≡ 0
  pub model : Model index t
  pub grams_are : grams_in index t.model.count ≡ (book_of loaded).grams
  pub scores_are : (v w y : ℕ) → model_score index t v w y ≡ triple_score (book_of loaded) v w y
  pub n_is : t.n ≡ word_count direction
  pub limit_is : t.limit ≡ (book_of loaded).limit
  pub eta_is : t.eta ≡ (book_of loaded).eta
  pub entries_at : EntriesAt loaded index t.phrases
