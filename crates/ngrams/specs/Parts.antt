-- One list for what is known of a book, in named parts: the heads of the buckets, and the records, each with its link behind it. What stands behind them is the caller's.
use Rattle.std.specs.Prelude.{ℕ, zero, suc, ◌+◌, ◌*◌, ◌≤◌, ◌<◌, ◌≡◌, Option, Some, None, List, length, get_or}
use Rattle.meaning.specs.Book.{grams_most}

-- how many buckets there are
abbrev pub bucket_count : ℕ
bucket_count = 16_384

-- a record for each T, U and D line that question 5 allows
abbrev pub records_most : ℕ
records_most = 3 * grams_most

-- how many numbers a record has: three words, how many of them are the n-gram's, and the score and the weight in two halves each
abbrev pub record_size : ℕ
record_size = 8

-- and with its link behind it
abbrev pub record_step : ℕ
record_step = record_size + 1

-- where the records begin, and where they end
abbrev pub records_from : ℕ
records_from = bucket_count

abbrev pub records_end : ℕ
records_end = records_from + record_step * records_most

-- where record k stands
abbrev pub record_at : ℕ → ℕ
record_at k = records_from + record_step * k

-- the head of bucket h and the link of record k: 1 + a record's number, or 0
unfoldable pub head_at : List ℕ → ℕ → ℕ
head_at index h = get_or index h 0

unfoldable pub link_at : List ℕ → ℕ → ℕ
link_at index k = get_or index (record_at k + record_size) 0

-- the record that a head or a link names
abbrev pub record_named : ℕ → Option ℕ
record_named zero = None
record_named (suc k) = Some k

-- what a writer leaves alone: the length, and all that stands from `from` on
pub record KeptFrom (from : ℕ) (old new : List ℕ) : Type 0 where
  pub size : length new ≡ length old
  pub at : (k : ℕ) → from ≤ k → get_or new k 0 ≡ get_or old k 0

-- the length, and the records
pub record KeptRecords (old new : List ℕ) : Type 0 where
  pub size : length new ≡ length old
  pub at : (k f : ℕ) → f < record_size → get_or new (record_at k + f) 0 ≡ get_or old (record_at k + f) 0

-- the length, and all that stands before `to`
pub record KeptBelow (to : ℕ) (old new : List ℕ) : Type 0 where
  pub size : length new ≡ length old
  pub at : (k : ℕ) → k < to → get_or new k 0 ≡ get_or old k 0
