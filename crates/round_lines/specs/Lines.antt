-- What is read of a text that has a direction on each line.
use Rattle.std.specs.declared.result.Result.TheVariants.{Ok, Err}
use Rattle.std.specs.declared.result.Result.{Result}
use Rattle.meaning.specs.declared.Refusal.{Refusal}
use Rattle.std.specs.Prelude.{ℕ, ◌+◌, ◌≤◌, ◌≡◌, true, List, ◌++◌, map, length, take}
use Rattle.meaning.specs.Questions.{number}
use Rattle.meaning.specs.Direction.{direction_of, read_direction_refusal}
use Rattle.meaning.specs.Round.{are_ends, directions_of}
use Rattle.meaning.specs.Sheet.{texts_refusal}

-- a direction's text was read, and its `count` words stand from `at` on
pub record Placed (text : List ℕ) (count at : ℕ) (old new : List ℕ) : Type 0 where
  pub passes : read_direction_refusal text (length (direction_of text)) ≡ 0
  pub counted : count ≡ length (direction_of text)
  pub some : 1 ≤ count
  pub few : count ≤ 32
  pub words : take (at + count) new ≡ take at old ++ direction_of text

-- a line's own, by the reply
abbrev pub PlacedAt : Result ℕ Refusal → List ℕ → ℕ → List ℕ → List ℕ → Type 0
PlacedAt (Ok count) text at old new = Placed text count at old new
PlacedAt (Err refusal) text at old new = read_direction_refusal text (length (direction_of text)) ≡ number refusal

-- every line was read: each is a direction of the round that the list and the ends make
pub record AllRead (texts : List (List ℕ)) (count : ℕ) (directions ends : List ℕ) : Type 0 where
  pub passes : texts_refusal texts ≡ 0
  pub counted : count ≡ length texts
  pub right : are_ends directions ends ≡ true
  pub are : directions_of directions ends ≡ map direction_of texts

-- by the reply; a refusal is that of the first line that is refused
abbrev pub LinesRead : Result ℕ Refusal → List (List ℕ) → List ℕ → List ℕ → Type 0
LinesRead (Ok count) texts directions ends = AllRead texts count directions (take count ends)
LinesRead (Err refusal) texts directions ends = texts_refusal texts ≡ number refusal
