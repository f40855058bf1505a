-- Ticket 7: a round's directions together. "Take them as one list with their ends"; each is decoded on places of its own.
use Rattle.std.specs.Prelude.{ℕ, zero, suc, ◌-◌, ◌*◌, ◌≡◌, Bool, true, ◌&&◌, List, [], ◌∷◌, ◌++◌, leb, ltb, ℤ, pos, length, take, drop, replicate}
use Rattle.laws.specs.Lists.{all}
use Rattle.meaning.specs.Questions.{◌unless◌, ◌orelse◌, within}
use Rattle.meaning.specs.Book.{book_refusal}
use Rattle.meaning.specs.Reply.{Reply, refused, done, reply, counts_of, Lent, decode, decoded_steps, decoded_words, decoded_store}
use Rattle.meaning.specs.declared.Answer.{Answer}
use Rattle.meaning.specs.declared.Step.{Step}

-- ════ the directions of a round

-- each end is above the one before
abbrev pub are_rising : ℕ → List ℕ → Bool
are_rising before [] = true
are_rising before (end ∷ ends) = ltb before end && are_rising end ends

-- 26 "when there are not 1 to 64, an end is not above the one before (0 for the first), or an end lies past the list"
unfoldable pub are_ends : List ℕ → List ℕ → Bool
are_ends directions ends = within 1 64 (length ends) && are_rising 0 ends && all (λ end. leb end (length directions)) ends

-- each direction, from the end of the one before to its own
abbrev pub directions_from : ℕ → List ℕ → List ℕ → List (List ℕ)
directions_from before directions [] = []
directions_from before directions (end ∷ ends) = take (end - before) (drop before directions) ∷ directions_from end directions ends

unfoldable pub directions_of : List ℕ → List ℕ → List (List ℕ)
directions_of directions ends = directions_from 0 directions ends

-- ════ the questions of a round

-- the book's; "26, after the book checks and before that 12"; "lists of steps, words or answers too short for all directions answer 12 for the whole
-- round". (The store is each direction's: 13.)
unfoldable pub round_refusal : List ℤ → List ℕ → List ℕ → Lent → ℕ → ℕ
round_refusal loaded directions ends lent answers =
    book_refusal loaded
    orelse 26 unless are_ends directions ends
    orelse 12 unless (leb (32 * length ends) lent.steps && leb (256 * length ends) lent.words && leb (9 * length ends) answers)

unfoldable pub decode_round : List ℤ → List ℕ → List ℕ → Lent → ℕ → Reply Unit
decode_round loaded directions ends lent answers = reply (round_refusal loaded directions ends lent answers) tt

-- ════ each direction, decoded alone

-- "the 32 step places and 256 word places", and "the same store"
abbrev pub alone : List ℤ → Lent
alone store = record { steps = 32; words = 256; store = length store }

-- its nine numbers: the answer, and what a decode reports or eight zeros; "a refused direction included"
abbrev pub answer_numbers : Reply Answer → List ℤ
answer_numbers (done a) = pos 0 ∷ counts_of a
answer_numbers (refused k) = pos k ∷ replicate 8 (pos 0)

-- how steps stand in a list: what counts as a place, how many of the list's elements 32 places are, and what a decode leaves of the list
pub record Form (A : Type 0) : Type 0 where
  pub places : List A → ℕ
  pub size : ℕ
  pub decoded : List ℤ → List ℕ → ℤ → Lent → List A → List A

-- as step records
abbrev pub as_records : Form Step
as_records = record { places = length; size = 32; decoded = decoded_steps }

-- ════ the lent lists

-- a lent list afterwards: direction k has the places "that follow those of direction k − 1", and the places behind the last one's are as before
abbrev pub by_parts : {A B : Type 0} → ℕ → (B → List A → List A) → List B → List A → List A
by_parts size each [] list = list
by_parts size each (d ∷ ds) list = each d (take size list) ++ by_parts size each ds (drop size list)

-- the store as the decodes leave it, one after the other
abbrev pub store_after : List ℤ → ℤ → List (List ℕ) → List ℤ → List ℤ
store_after loaded width [] store = store
store_after loaded width (d ∷ ds) store = store_after loaded width ds (decoded_store loaded d width (alone store) store)

-- a round that is refused changes no list
abbrev pub kept_if_refused : {A : Type 0} → ℕ → List A → List A → List A
kept_if_refused zero old new = new
kept_if_refused (suc k) old new = old

-- "Each answer, with its steps and words, equals that of its direction decoded alone with the same store and width": each lent list before (₀) and
-- after (₁)
pub record RoundLists {A : Type 0} (form : Form A) (refusal : ℕ) (loaded : List ℤ) (ds : List (List ℕ)) (width : ℤ) (steps₀ steps₁ : List A) (words₀ words₁ : List ℕ)
    (store₀ store₁ answers₀ answers₁ : List ℤ) : Type 0 where
  pub steps_are : steps₁ ≡ kept_if_refused refusal steps₀ (by_parts form.size (λ d. form.decoded loaded d width (alone store₀)) ds steps₀)
  pub words_are : words₁ ≡ kept_if_refused refusal words₀ (by_parts 256 (λ d. decoded_words loaded d width (alone store₀)) ds words₀)
  pub store_is : store₁ ≡ kept_if_refused refusal store₀ (store_after loaded width ds store₀)
  pub answers_are : answers₁ ≡ kept_if_refused refusal answers₀ (by_parts 9 (λ d old. answer_numbers (decode loaded d width (alone store₀))) ds answers₀)
