-- A proposed list of steps as numbers, three to a step, and what is asked of one step.
use Rattle.std.specs.Prelude.{ℕ, ◌+◌, ◌*◌, ◌^◌, ◌<◌, ◌≡◌, true, List, map, ℤ, ◌+ℤ◌, get_or, Result, Ok, Err}
use Rattle.laws.specs.Integers.{Within}
use Rattle.laws.specs.Lists.{numbers_from}
use Rattle.meaning.specs.Questions.{number}
use Rattle.meaning.specs.Book.{Book}
use Rattle.meaning.specs.Direction.{word_count}
use Rattle.meaning.specs.State.{words_covered, may_extend, next_key, gain, gain_bound, key_of}
use Rattle.meaning.specs.Reply.{Reply, refused, done, step_refusal}
use Rattle.meaning.specs.declared.Step.{Step}
use Rattle.meaning.specs.declared.State.{State}
use Rattle.meaning.specs.declared.Refusal.{Refusal}

abbrev pub step_of : ℕ → ℕ → ℕ → Step
step_of first last entry = record { first = first; last = last; entry = entry }

-- step i of the list, counted from 0
abbrev pub step_in : List ℕ → ℕ → Step
step_in steps i = step_of (get_or steps (3 * i) 0) (get_or steps (3 * i + 1) 0) (get_or steps (3 * i + 2) 0)

-- the first `count` steps
unfoldable pub steps_in : List ℕ → ℕ → List Step
steps_in steps count = map (step_in steps) (numbers_from 0 count)

-- the state's numbers are small: no position beyond the direction is covered, and the score is within what a step can add for each covered word
pub record Bounded (direction : List ℕ) (s : State) : Type 0 where
  pub small : s.covered < 2 ^ word_count direction
  pub score_within : Within (gain_bound * words_covered (key_of (word_count direction) s)) s.score

-- the step may extend the state s, and leads to the state t
pub record Follows (book : Book) (direction : List ℕ) (s : State) (step : Step) (t : State) : Type 0 where
  pub may : may_extend book direction (key_of (word_count direction) s) step ≡ true
  pub key_is : key_of (word_count direction) t ≡ next_key book (key_of (word_count direction) s) step
  pub score_is : t.score ≡ s.score +ℤ gain book (key_of (word_count direction) s) step
  pub ready : Bounded direction t

-- the next state, or the question that refuses whatever is asked after the step
abbrev pub AskedOf : Book → List ℕ → State → Step → Result State Refusal → Type 0
AskedOf book direction s step (Ok t) = Follows book direction s step t
AskedOf book direction s step (Err refusal) = (rest : ℕ) → number refusal ≡ step_refusal book direction (key_of (word_count direction) s) step rest

-- what a list answers to 16 to 19
abbrev pub summed_reply : Result ℤ Refusal → Reply ℤ
summed_reply (Ok score) = done score
summed_reply (Err refusal) = refused (number refusal)
