-- What extending a state does to the store.
use Rattle.std.specs.Prelude.{ℕ, ◌+◌, ◌-◌, ◌^◌, ◌≤◌, ◌<◌, ◌≡◌, List, ℤ, length, drop, Result, Ok, Err}
use Rattle.laws.specs.Bits.{bits_of}
use Rattle.positions.specs.Runs.{free_run}
use Rattle.meaning.specs.Book.{Entry, book_of}
use Rattle.meaning.specs.Direction.{word_count}
use Rattle.meaning.specs.Search.{step_at, fitting_steps}
use Rattle.derivation.specs.Next.{jump_from, next_state, CanNext}
use Rattle.states.specs.Ghost.{option_at, Chosen}
use Rattle.extending.specs.declared.task.Task.{Task}
use Rattle.extending.specs.declared.Spot.{Spot}
use Rattle.extending.specs.declared.Turn.{Turn}
use Rattle.derivation.specs.declared.Setup.{Setup}
use Rattle.derivation.specs.declared.Phrase.{Phrase}
use Rattle.states.specs.Adding.{AddedOf, IndexedAfter}
use Rattle.store.specs.declared.Place.{Place}
use Rattle.ways.specs.Codes.{code_of}
use Rattle.states.specs.declared.Added.{Added}
use Rattle.states.specs.declared.Added.TheVariants.{Replaced, Kept, Appended}
use Rattle.states.specs.declared.Full.{Full}

-- the place after a turn by the entry e, over its positions
unfoldable pub next_place : List ℕ → Setup → Phrase → Entry → Turn → Place
next_place index t p e turn =
    let spot = turn.spot in
    let x = spot.source.place in
    record {
      state = next_state index t p e spot.first (spot.first + p.long - 1) x.state;
      size = x.size + p.long;
      parent = spot.source.at;
      step = code_of (record { first = spot.first; last = spot.first + p.long - 1; entry = turn.entry });
    }

-- the numbers are small enough for it
pub record CanPlace (t : Setup) (p : Phrase) (turn : Turn) : Type 0 where
  pub next : CanNext t turn.spot.first (turn.spot.first + p.long - 1) turn.spot.source.place.state
  pub size_small : turn.spot.source.place.size ≤ 32
  pub entry_fits : turn.entry < 65_536

-- how many states there are after each answer of add_place
abbrev pub grown_by : ℕ → Result Added Full → Result ℕ Full
grown_by count (Ok Replaced) = Ok count
grown_by count (Ok Kept) = Ok count
grown_by count (Ok Appended) = Ok (count + 1)
grown_by count (Err full) = Err full

-- y was added to the store
pub record Grows (old new : List ℤ) (count : ℕ) (y : Place) (r : Result ℕ Full) : Type 0 where
  pub answer : Result Added Full
  pub added : AddedOf old new count y answer
  pub index : IndexedAfter new count answer
  pub is : r ≡ grown_by count answer

-- ════ what a task's states are extended by

-- the spot is a position of the direction, and its source a state that is to be extended
pub record SpotOf (task : Task) (spot : Spot) : Type 0 where
  pub chosen : Chosen (book_of task.book.now) task.direction.now task.beam.width spot.source.place.size spot.source.at spot.source.place
  pub place_small : spot.source.at < 2 ^ 63
  pub first_from : 1 ≤ spot.first
  pub first_to : spot.first ≤ word_count task.direction.now
  pub run_is : spot.run ≡ free_run (drop (spot.first - 1) (bits_of (word_count task.direction.now) spot.source.place.state.covered))

-- the turn's option is its entry at its spot, which is in reach
pub record TurnOf (task : Task) (turn : Turn) : Type 0 where
  pub spot_of : SpotOf task turn.spot
  pub near : jump_from turn.spot.source.place.state.r turn.spot.first ≤ task.beam.setup.limit
  pub option_in : turn.option < length (fitting_steps (book_of task.book.now) task.direction.now)
  pub option_is : option_at (book_of task.book.now) task.direction.now turn.option ≡ step_at (book_of task.book.now) turn.spot.first turn.entry
  pub entry_from : 1 ≤ turn.entry
  pub entry_to : turn.entry ≤ task.beam.setup.phrases
