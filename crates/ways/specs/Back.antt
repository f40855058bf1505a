-- The way that led to a state: the parents' places and the steps' numbers that the store holds, for code that only follows them back. l lists the states of
-- the places, with the steps that led to each.
use Rattle.std.specs.Prelude.{◌≡◌, List, [], ◌∷◌, ◌++◌, ℕ, ◌*◌, ◌<◌, ◌≤◌, ℤ, pos, length, get_or}
use Rattle.meaning.specs.State.{Hyp}
use Rattle.meaning.specs.declared.Step.{Step}
use Rattle.store.specs.Store.{place_at}
use Rattle.meaning.specs.Derivation.{no_step}
use Rattle.ways.specs.Codes.{step_of, codes}

-- what `get_or` gives past the end: nothing depends on it
abbrev pub nobody : Hyp
nobody = record { key = record { word1 = 0; word2 = 0; covered = []; r = 0 }; score = pos 0; steps = [] }

-- the state at the place j is its parent's with one step more
pub record Linked (st : List ℤ) (l : List Hyp) (j : ℕ) : Type 0 where
  pub inside : (place_at st j).parent < length l
  pub step_in : (place_at st j).step < codes
  pub steps_are : (get_or l j nobody).steps ≡ (get_or l (place_at st j).parent nobody).steps ++ (step_of (place_at st j).step ∷ [])

pub record Chains (st : List ℤ) (l : List Hyp) : Type 0 where
  pub room : 8 * length l ≤ length st
  pub root : (get_or l 0 nobody).steps ≡ []
  pub links : (j : ℕ) → 0 < j → j < length l → Linked st l j

-- from the place k they lead back in at most b steps
pub record Leads (st : List ℤ) (k b : ℕ) : Type 0 where
  pub list : List Hyp
  pub chains : Chains st list
  pub inside : k < length list
  pub short : length (get_or list k nobody).steps ≤ b

-- the first r numbers of the list are those of the steps
pub record Way (steps : List Step) (out : List ℕ) (r : ℕ) : Type 0 where
  pub long : r ≡ length steps
  pub step_in : (i : ℕ) → i < r → get_or out i 0 < codes
  pub step_is : (i : ℕ) → i < r → step_of (get_or out i 0) ≡ get_or steps i no_step

-- what `path` keeps: the steps from `left` on are written, and those of the place `at` are the ones before
pub record Behind (l : List Hyp) (k d : ℕ) (out : List ℕ) (at left : ℕ) : Type 0 where
  pub inside : at < length l
  pub long : length (get_or l at nobody).steps ≡ left
  pub front : (i : ℕ) → i < left → get_or (get_or l k nobody).steps i no_step ≡ get_or (get_or l at nobody).steps i no_step
  pub step_in : (i : ℕ) → left ≤ i → i < d → get_or out i 0 < codes
  pub step_is : (i : ℕ) → left ≤ i → i < d → step_of (get_or out i 0) ≡ get_or (get_or l k nobody).steps i no_step
