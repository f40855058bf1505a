-- What the loops of the search keep: the store holds the states of the search so far. The list of these states, with the steps that led to each, is no data of
-- the code but a field of the records (`list`).
-- A level is a number i below that of the words: the states that cover i words are extended, in the order of their places, each by every option in turn.
use Rattle.std.specs.Prelude.{◌≡◌, Bool, ◌||◌, List, ℕ, ◌+◌, ◌*◌, ◌/◌, ◌<◌, ◌≤◌, ℤ, ◌+ℤ◌, ◌-ℤ◌, length, get_or, Result, Ok, Err}
use Rattle.std.specs.Int.Signed.{le_z}
use Rattle.search_theory.specs.Search.{Problem, set_of, upto, run}
use Rattle.search_theory.specs.Statements.{Legal, InLevel, InGrow, Traced}
use Rattle.meaning.specs.Book.{Book}
use Rattle.meaning.specs.Direction.{word_count}
use Rattle.meaning.specs.State.{Hyp, words_covered, next_key, gain, key_of}
use Rattle.meaning.specs.Search.{fitting_steps, is_off, best_score, search}
use Rattle.meaning.specs.declared.Step.{Step}
use Rattle.store.specs.Store.{place_at, Indexed}
use Rattle.meaning.specs.Derivation.{no_step}
use Rattle.ways.specs.Back.{nobody}
use Rattle.ways.specs.Codes.{step_of, codes}
use Rattle.states.specs.Shows.{Fine, Shows}
use Rattle.store.specs.declared.Place.{Place}
use Rattle.states.specs.declared.Added.{Added}
use Rattle.states.specs.declared.Added.TheVariants.{Replaced, Kept, Appended}
use Rattle.states.specs.declared.Full.{Full}

-- the beam's test, of the set's best score and a state's
abbrev pub in_width : ℤ → ℤ → ℤ → Bool
in_width width top score = is_off width || le_z (top -ℤ width) score

-- option p
abbrev pub option_at : Book → List ℕ → ℕ → Step
option_at book direction p = get_or (fitting_steps book direction) p no_step

module _ (book : Book) (direction : List ℕ) (width : ℤ) where
  abbrev P : Problem
  P = search book direction width

  -- the first places of the store are the list; i is the level, for the back pointers
  pub record Held (i : ℕ) (st : List ℤ) (l : List Hyp) : Type 0 where
    pub room : 8 * length l ≤ length st
    pub each : (k : ℕ) → k < length l → Shows (word_count direction) (place_at st k) (get_or l k nobody)
    pub apart : (j k : ℕ) → j < length l → k < length l → (get_or l j nobody).key ≡ (get_or l k nobody).key → j ≡ k
    pub steps_in : (k : ℕ) → 0 < k → k < length l → (place_at st k).step < codes
    pub legal : (k : ℕ) → k < length l → Legal P (get_or l k nobody)
    pub traced : Traced P i l (λ k. (place_at st k).parent) (λ k. step_of (place_at st k).step) nobody

  -- where the level i starts
  pub record Starting (i : ℕ) (st : List ℤ) (count : ℕ) : Type 0 where
    pub long : length (upto P i) ≡ count
    pub index : Indexed st count
    pub held : Held i st (upto P i)

  -- at the place j of the level i
  pub record Levelling (i j : ℕ) (st : List ℤ) (count : ℕ) : Type 0 where
    pub list : List Hyp
    pub long : length list ≡ count
    pub index : Indexed st count
    pub held : Held i st list
    pub level : InLevel P i j list

  -- the same with o options of that place done
  pub record Growing (i j o : ℕ) (st : List ℤ) (count : ℕ) : Type 0 where
    pub list : List Hyp
    pub long : length list ≡ count
    pub index : Indexed st count
    pub held : Held i st list
    pub grow : InGrow P i j (get_or (upto P i) j nobody) o list

  -- what the place j holds, whose state is extended at the level i
  pub record Chosen (i j : ℕ) (x : Place) : Type 0 where
    pub low : i < word_count direction
    pub inside : j < length (upto P i)
    pub sized : x.size ≡ i
    pub shown : Shows (word_count direction) x (get_or (upto P i) j nobody)

  -- the set that the level i extends, by its best score
  abbrev pub top_of : ℕ → ℤ
  top_of i = best_score (set_of P i (upto P i))

  -- the place after an option: each answer of add_place
  abbrev pub After : ℕ → ℕ → ℕ → List ℤ → ℕ → Result Added Full → Type 0
  After i j o st count (Ok Replaced) = Growing i j o st count
  After i j o st count (Ok Kept) = Growing i j o st count
  After i j o st count (Ok Appended) = Growing i j o st (count + 1)
  After i j o st count (Err full) = length st / 8 < length (run P)

  -- what the search's functions answer: the count and what holds of the store, or that it is too small
  abbrev pub Grew : ℕ → ℕ → ℕ → List ℤ → Result ℕ Full → Type 0
  Grew i j o st (Ok count) = Growing i j o st count
  Grew i j o st (Err full) = length st / 8 < length (run P)

  abbrev pub Levelled : ℕ → ℕ → List ℤ → Result ℕ Full → Type 0
  Levelled i j st (Ok count) = Levelling i j st count
  Levelled i j st (Err full) = length st / 8 < length (run P)

  abbrev pub Reached : ℕ → List ℤ → Result ℕ Full → Type 0
  Reached i st (Ok count) = Starting i st count
  Reached i st (Err full) = length st / 8 < length (run P)

-- y is what extending x, the place j, by the option o leads to
pub record NextPlace (book : Book) (direction : List ℕ) (x : Place) (j o : ℕ) (y : Place) : Type 0 where
  pub key_is : key_of (word_count direction) y.state ≡ next_key book (key_of (word_count direction) x.state) (option_at book direction o)
  pub score_is : y.state.score ≡ x.state.score +ℤ gain book (key_of (word_count direction) x.state) (option_at book direction o)
  pub size_is : y.size ≡ words_covered (key_of (word_count direction) y.state)
  pub fine : Fine (word_count direction) y.state
  pub parent_is : y.parent ≡ j
  pub step_is : step_of y.step ≡ option_at book direction o
  pub step_in : y.step < codes
