-- The states of the search: the start, the steps that may extend a state, the state that a step leads to, what can be reached, equality.
use Rattle.std.specs.Prelude.{ℕ, suc, ◌+◌, ◌*◌, ◌≡◌, Bool, true, false, not, ◌&&◌, ◌||◌, eqb, leb, ℤ, pos, ◌+ℤ◌, ◌*ℤ◌, replicate}
use mathlib.Core.List.{List, [], ◌∷◌, Memᴰ}
use Rattle.laws.specs.Bits.{bits_of}
use Rattle.laws.specs.Lists.{count, eq_list, Distinct}
use Rattle.search_theory.specs.Search.{Hypothesis}
use Rattle.search_theory.specs.Orders.{ahead}
use Rattle.meaning.specs.Bounds.{score_most, penalty_most, words_bound}
use Rattle.meaning.specs.Book.{Book}
use Rattle.meaning.specs.Direction.{word_count}
use Rattle.meaning.specs.Derivation.{entry_at, fits, covers, jump, words_score, step_before}
use Rattle.meaning.specs.declared.Step.{Step}
use Rattle.meaning.specs.declared.State.{State}

-- "A state is the last two target words, the set of covered positions, r and the score."
-- The key is all of a state but its score; `covered` has a bit for each position, true where it is covered
pub record Key : Type 0 where
  pub word1 : ℕ
  pub word2 : ℕ
  pub covered : List Bool
  pub r : ℕ

-- a state of the search: key, score, and the steps that led to it
abbrev pub Hyp : Type 0
Hyp = Hypothesis Key Step

-- "The start state is (0, 0, nothing covered, 0, 0).", for a direction of n words; the search begins with the score 0
unfoldable pub start : ℕ → Key
start n = record { word1 = 0; word2 = 0; covered = replicate n false; r = 0 }

-- how many words are covered
unfoldable pub words_covered : Key → ℕ
words_covered k = count (λ bit. bit) k.covered

abbrev pub eq_bit : Bool → Bool → Bool
eq_bit true b = b
eq_bit false b = not b

-- "Two states are equal when all but the score agree."
unfoldable pub is_equal : Key → Key → Bool
is_equal a b =
    eqb a.word1 b.word1
    && eqb a.word2 b.word2
    && eq_list eq_bit a.covered b.covered
    && eqb a.r b.r

-- none of the step's positions is covered; `i` is the position of the first bit
unfoldable pub is_free : Step → ℕ → List Bool → Bool
is_free step i [] = true
is_free step i (bit ∷ bits) = not (bit && covers step i) && is_free step (suc i) bits

-- the bits with the step's positions covered too
unfoldable pub cover : Step → ℕ → List Bool → List Bool
cover step i [] = []
cover step i (bit ∷ bits) = (bit || covers step i) ∷ cover step (suc i) bits

-- "A step may extend a state when it fits, covers nothing covered already, and its jump, taken from the state's r, is at most d."
unfoldable pub may_extend : Book → List ℕ → Key → Step → Bool
may_extend book direction k step =
    fits book direction step
    && is_free step 1 k.covered
    && leb (jump k.r step) book.limit

-- "the last two words are the last two of this row: the old two, then the entry's target words"
unfoldable pub last_two : ℕ → ℕ → List ℕ → ℕ × ℕ
last_two v w [] = (v, w)
last_two v w (y ∷ ys) = last_two w y ys

-- the new state: ".. the step's positions are covered too; r is the step's last"
unfoldable pub next_key : Book → Key → Step → Key
next_key book k step =
    let two = last_two k.word1 k.word2 (entry_at book step.entry).target in
    record { word1 = two.0; word2 = two.1; covered = cover step 1 k.covered; r = step.last }

-- "The states that the transitions can reach are the start state and every one that such steps, one after another, lead to from it"
pub data Reaches (book : Book) (direction : List ℕ) : Key → Type 0 where
  at_start : Reaches book direction (start (word_count direction))
  by_step : (k : Key) (step : Step) → Reaches book direction k → may_extend book direction k step ≡ true → Reaches book direction (next_key book k step)

-- the list of them, "equal ones counted once"
pub record AreReachable (book : Book) (direction : List ℕ) (keys : List Key) : Type 0 where
  pub different : Distinct keys
  pub are_reached : (k : Key) → Memᴰ k keys → Reaches book direction k
  pub all_listed : (k : Key) → Reaches book direction k → Memᴰ k keys

-- "to the score come the entry's g, eta × jump and the scores of the triples that the entry's target words end"
unfoldable pub gain : Book → Key → Step → ℤ
gain book k step =
    (entry_at book step.entry).g
    +ℤ book.eta *ℤ pos (jump k.r step)
    +ℤ words_score book k.word1 k.word2 (entry_at book step.entry).target

-- "Of equal states the higher score stays."; "Of equal states with equal score, the one whose steps come first stays"
unfoldable pub is_better : Hyp → Hyp → Bool
is_better new old = ahead step_before new old

-- ════ the bound, and the constants of the code

-- "No score passes 32 × (1,000,000 + 8 × 1,000,000 + 32 × 10,000)": what a step can add, for each of 32 words. With back-off a word
-- scores at most 3,000,000, and "the bound becomes 810,240,000"
abbrev pub gain_bound : ℕ
gain_bound = score_most + words_bound + 32 * penalty_most

abbrev pub score_bound : ℕ
score_bound = 32 * gain_bound

-- "the width that prunes nothing twice that", 1,620,480,000: no two scores are further apart
abbrev pub spread_bound : ℕ
spread_bound = 2 * score_bound

-- the key of a state as code holds it: the covered positions of n are the lowest n binary digits of a number
unfoldable pub key_of : ℕ → State → Key
key_of n s = record { word1 = s.word1; word2 = s.word2; covered = bits_of n s.covered; r = s.r }

-- the code's constant is the start state of every direction
pub record IsStart (s : State) : Type 0 where
  pub key_is : (n : ℕ) → key_of n s ≡ start n
  pub score_is : s.score ≡ pos 0
