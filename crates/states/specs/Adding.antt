-- What adding a state does to the store: of two equal states the better stays.
use Rattle.std.specs.Prelude.{◌≡◌, Bool, true, false, List, ℕ, ◌+◌, ◌*◌, ◌<◌, ◌≤◌, ℤ, length, Result, Ok, Err}
use Rattle.store.specs.Store.{place_at, is_same, Unseen, Put, Indexed}
use Rattle.store.specs.declared.Place.{Place}
use Rattle.states.specs.Order.{Tested}
use Rattle.states.specs.declared.Added.{Added}
use Rattle.states.specs.declared.Added.TheVariants.{Replaced, Kept, Appended}
use Rattle.states.specs.declared.Full.{Full}

-- an equal one was there, at k, and the test of the two came out as b
pub record Met (st : List ℤ) (count : ℕ) (x : Place) (k : ℕ) (b : Bool) : Type 0 where
  pub inside : k < count
  pub same : is_same (place_at st k).state x.state ≡ true
  pub test : Tested st x (place_at st k).state k b

-- what was done, by the answer
abbrev pub AddedOf : List ℤ → List ℤ → ℕ → Place → Result Added Full → Type 0
AddedOf old new count x (Ok Replaced) = (k : ℕ) × Met old count x k true × Put old new k x
AddedOf old new count x (Ok Kept) = (k : ℕ) × Met old count x k false × (new ≡ old)
AddedOf old new count x (Ok Appended) = Unseen old count x.state × (8 * count + 8 ≤ length old) × Put old new count x
AddedOf old new count x (Err full) = Unseen old count x.state × (length old < 8 * count + 8) × (new ≡ old)

-- and the index after it
abbrev pub IndexedAfter : List ℤ → ℕ → Result Added Full → Type 0
IndexedAfter st count (Ok Replaced) = Indexed st count
IndexedAfter st count (Ok Kept) = Indexed st count
IndexedAfter st count (Ok Appended) = Indexed st (count + 1)
IndexedAfter st count (Err full) = Unit
