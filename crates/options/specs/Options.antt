-- The steps that fit, as the code lists them: one list, of where the options of each first position begin and then of their entry numbers.
use Rattle.std.specs.Prelude.{ℕ, ◌+◌, ◌*◌, ◌≤◌, ◌<◌, ◌≡◌, List, ◌++◌, map, length, get_or, take}
use Rattle.laws.specs.Lists.{keep, concat, one_to}
use Rattle.meaning.specs.Book.{Book}
use Rattle.halves.specs.Halves.{whole_at}
use Rattle.book.specs.Entries.{entries_most}
use Rattle.meaning.specs.Direction.{word_count}
use Rattle.meaning.specs.Derivation.{no_step, fits}
use Rattle.meaning.specs.Search.{step_at, fitting_steps}
use Rattle.meaning.specs.declared.Step.{Step}

-- the entry numbers stand behind the starts of positions 1 to 32 and of what would be the 33rd, two numbers each
abbrev pub options_from : ℕ
options_from = 66

-- the list has room for every entry at every position
abbrev pub options_size : ℕ
options_size = options_from + 32 * entries_most

-- where the options of position i + 1 begin, counted in options: a number in two halves
unfoldable pub start_at : List ℕ → ℕ → ℕ
start_at options i = whole_at options (2 * i)

-- the entry number of option o
unfoldable pub option_in : List ℕ → ℕ → ℕ
option_in options o = get_or options (options_from + o) 0

-- the steps of the first m entries that fit at a first position
unfoldable pub fitting_at : Book → List ℕ → ℕ → ℕ → List Step
fitting_at book direction first m = keep (fits book direction) (map (step_at book first) (one_to m))

-- the steps that fit at the first i positions: at all of them, these are `fitting_steps`
unfoldable pub fitting_to : Book → List ℕ → ℕ → List Step
fitting_to book direction i = concat (map (λ first. fitting_at book direction first (length book.entries)) (one_to i))

abbrev pub entry_numbers : List Step → List ℕ
entry_numbers steps = map (λ step. step.entry) steps

-- the start of position i + 1 was noted; the other starts and the options are as before
pub record StartPut (before after : List ℕ) (i start : ℕ) : Type 0 where
  pub long : length after ≡ length before
  pub here : start_at after i ≡ start
  pub others : (j : ℕ) → (j ≡ i → ⊥) → start_at after j ≡ start_at before j
  pub options : (o : ℕ) → option_in after o ≡ option_in before o

-- the steps' entries were listed behind `from` options, which makes `count`; what stands before them is as before
pub record Listed (before after : List ℕ) (from count : ℕ) (steps : List Step) : Type 0 where
  pub counted : count ≡ from + length steps
  pub long : length after ≡ length before
  pub put : take (options_from + count) after ≡ take (options_from + from) before ++ entry_numbers steps

-- the options of first position i + 1 stand from its start on, and end where the next begin
pub record OptionsOf (book : Book) (direction options : List ℕ) : Type 0 where
  pub begins : start_at options 0 ≡ 0
  pub ends : start_at options (word_count direction) ≡ length (fitting_steps book direction)
  pub rising : (i : ℕ) → i < word_count direction → start_at options i ≤ start_at options (i + 1)
  pub each : (i p : ℕ) → i < word_count direction → start_at options i ≤ p → p < start_at options (i + 1)
      → get_or (fitting_steps book direction) p no_step ≡ step_at book (i + 1) (option_in options p)
  pub entries_in : (p : ℕ) → p < start_at options (word_count direction) → (1 ≤ option_in options p) × (option_in options p ≤ length book.entries)
  pub room : options_from + start_at options (word_count direction) ≤ length options
