-- The order of the search on what code holds: `is_better` of the notes, which is of hypotheses with their steps.
use Rattle.std.specs.Prelude.{◌≡◌, Bool, true, false, cond, List, [], ◌∷◌, ◌++◌, ℕ, ◌<◌, ℤ, length, get_or}
use Rattle.std.specs.Int.Signed.{lt_z}
use Rattle.meaning.specs.Derivation.{comes_before}
use Rattle.meaning.specs.State.{Hyp}
use Rattle.meaning.specs.declared.State.{State}
use Rattle.store.specs.declared.Place.{Place}
use Rattle.store.specs.Store.{place_at, is_same}
use Rattle.ways.specs.Back.{nobody}
use Rattle.ways.specs.Codes.{step_of}
use Rattle.ways.specs.Ties.{Walked, Beside}

-- the new state is better than the old one: a higher score, or the same and steps that come first
abbrev pub surpasses : State → State → Bool → Bool
surpasses new old first = cond (lt_z old.score new.score) true (cond (lt_z new.score old.score) false first)

-- x was compared with the state y of the place k, and b is what came out: the steps are those that the store shows
abbrev pub Tested : List ℤ → Place → State → ℕ → Bool → Type 0
Tested st x y k b =
    (l : List Hyp) → Beside st l x.parent x.step k
    → b ≡ surpasses x.state y (comes_before ((get_or l x.parent nobody).steps ++ (step_of x.step ∷ [])) (get_or l k nobody).steps)

-- the first places of the store have ways
pub record Walks (st : List ℤ) (count : ℕ) : Type 0 where
  pub list : List Hyp
  pub long : length list ≡ count
  pub walked : Walked st list

-- and x is a state that its step leads to from its parent: a place with the same steps, or with an equal state, covers as many words
pub record Leading (st : List ℤ) (count : ℕ) (x : Place) : Type 0 where
  pub walks : Walks st count
  pub parent_in : x.parent < count
  pub parent_below : (place_at st x.parent).size < x.size
  pub same_steps : (c : ℕ) → c < count → (get_or walks.list c nobody).steps ≡ (get_or walks.list x.parent nobody).steps ++ (step_of x.step ∷ []) → (place_at st c).size ≡ x.size
  pub same_state : (c : ℕ) → c < count → is_same (place_at st c).state x.state ≡ true → (place_at st c).size ≡ x.size
