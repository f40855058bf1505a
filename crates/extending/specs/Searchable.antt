-- What the lists of a decode hold.
use Rattle.std.specs.Prelude.{ℕ, ◌^◌, ◌≤◌, ◌<◌, ◌≡◌, List, ℤ, length}
use Rattle.book.specs.Entries.{EntriesAt}
use Rattle.meaning.specs.Book.{book_of}
use Rattle.meaning.specs.Direction.{word_count}
use Rattle.options.specs.Options.{OptionsOf}
use Rattle.derivation.specs.Prepared.{Prepared}
use Rattle.derivation.specs.declared.Setup.{Setup}

-- the entries' places and the steps that fit are those of this book and this direction
pub record Choices (loaded : List ℤ) (direction : List ℕ) (index : List ℕ) (options : List ℕ) (t : Setup) : Type 0 where
  pub n_is : t.n ≡ word_count direction
  pub few : word_count direction ≤ 32
  pub entries_at : EntriesAt loaded index t.phrases
  pub options_of : OptionsOf (book_of loaded) direction options
  pub options_small : length options < 2 ^ 63

-- and so is the language model: all that a search reads is there
pub record Searchable (loaded : List ℤ) (direction : List ℕ) (index : List ℕ) (options : List ℕ) (t : Setup) : Type 0 where
  pub prepared : Prepared loaded direction index t
  pub choices : Choices loaded direction index options t
