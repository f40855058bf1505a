-- Where the entries of a loaded book stand in its list, and what a user reads there.
use Rattle.std.specs.Prelude.{ℕ, ◌+◌, ◌*◌, ◌≤◌, ◌<◌, ◌≡◌, true, cond, List, ℤ, length, get_or, drop}
use Rattle.laws.specs.Integers.{Within}
use Rattle.laws.specs.Lists.{set_from}
use Rattle.meaning.specs.Bounds.{score_most}
use Rattle.meaning.specs.Book.{Entry, number_at, natural_at, phrases_most, is_p, is_phrase_word, words_at, entry_of, book_of}
use Rattle.meaning.specs.Derivation.{no_entry}
use Rattle.halves.specs.Halves.{halves_of, whole_at}
use Rattle.ngrams.specs.Parts.{records_end, KeptBelow}

-- the P line of an entry stands at `at`: a and b, then the a source words, the b target words, and g
pub record EntryAt (loaded : List ℤ) (at : ℕ) (entry : Entry) : Type 0 where
  pub is : entry_of (drop at loaded) ≡ entry
  pub a_from : 1 ≤ natural_at loaded (at + 1)
  pub a_to : natural_at loaded (at + 1) ≤ 8
  pub b_from : 1 ≤ natural_at loaded (at + 2)
  pub b_to : natural_at loaded (at + 2) ≤ 8
  pub inside : at + (natural_at loaded (at + 1) + natural_at loaded (at + 2) + 4) ≤ length loaded
  pub source_is : entry.source ≡ words_at loaded (at + 3) (natural_at loaded (at + 1))
  pub target_is : entry.target ≡ words_at loaded (at + (3 + natural_at loaded (at + 1))) (natural_at loaded (at + 2))
  pub g_is : entry.g ≡ number_at loaded (at + (3 + natural_at loaded (at + 1) + natural_at loaded (at + 2)))
  pub words : (j : ℕ) → j < natural_at loaded (at + 1) + natural_at loaded (at + 2) → is_phrase_word (number_at loaded (at + (3 + j))) ≡ true
  pub g_within : Within score_most (number_at loaded (at + (3 + natural_at loaded (at + 1) + natural_at loaded (at + 2))))

-- ---- the part of the one list behind the records: where each entry stands in the loaded book

-- how many there may be (question 5), where the part begins, two halves for each, and how long the list is with it
abbrev pub entries_most : ℕ
entries_most = phrases_most

abbrev pub entries_from : ℕ
entries_from = records_end

abbrev pub index_size : ℕ
index_size = entries_from + 2 * entries_most

-- where the halves of entry k's place stand, k counted from 0
abbrev pub entry_halves : ℕ → ℕ
entry_halves k = entries_from + 2 * k

-- its place
unfoldable pub entry_place : List ℕ → ℕ → ℕ
entry_place index k = whole_at index (entry_halves k)

-- it has the place of each of them, in their order
pub record EntriesAt (loaded : List ℤ) (index : List ℕ) (count : ℕ) : Type 0 where
  pub counted : count ≡ length (book_of loaded).entries
  pub few : count ≤ entries_most
  pub room : index_size ≤ length index
  pub each : (k : ℕ) → k < count → EntryAt loaded (entry_place index k) (get_or (book_of loaded).entries k no_entry)

-- the list after one line more: where a P line stands at `at`, its place is put behind the `count` before it
unfoldable pub with_place : List ℤ → ℕ → List ℕ → ℕ → List ℕ
with_place loaded at index count = cond (is_p (drop at loaded)) (set_from index (entry_halves count) (halves_of at)) index

-- the places were put, and what stands before them is kept
pub record Placed (loaded : List ℤ) (old new : List ℕ) (count : ℕ) : Type 0 where
  pub entries : EntriesAt loaded new count
  pub kept : KeptBelow entries_from old new
