-- How a place of the store shows a state of the search (a hypothesis): all but the steps that led to it.
-- n is the direction's number of words. Nothing here depends on the book, so code that only reads states speaks of these alone.
use Rattle.std.specs.Prelude.{◌≡◌, List, ℕ, ◌<◌, ◌≤◌, ◌^◌, ℤ, length, get_or}
use Rattle.meaning.specs.State.{Hyp, words_covered, key_of}
use Rattle.meaning.specs.declared.State.{State}
use Rattle.store.specs.Store.{place_at}
use Rattle.store.specs.declared.Place.{Place}
use Rattle.ways.specs.Back.{nobody}

-- no position past the last word is covered
pub record Fine (n : ℕ) (x : State) : Type 0 where
  pub few : n ≤ 32
  pub covered_in : x.covered < 2 ^ n
  pub r_in : x.r ≤ 32

pub record Shows (n : ℕ) (x : Place) (s : Hyp) : Type 0 where
  pub key_is : key_of n x.state ≡ s.key
  pub score_is : x.state.score ≡ s.score
  pub size_is : x.size ≡ words_covered (key_of n x.state)
  pub fine : Fine n x.state

-- the first places are the list: what a loop that only reads asks
pub record Lists (n : ℕ) (st : List ℤ) (count : ℕ) (l : List Hyp) : Type 0 where
  pub long : length l ≡ count
  pub each : (k : ℕ) → k < count → Shows n (place_at st k) (get_or l k nobody)
