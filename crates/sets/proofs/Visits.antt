-- The sets: the start state, the state that is to be extended, and the last set.
use Prim.Native.Nat.{ℕ, ◌≤◌, ◌<◌}
use mathlib.Core.Path.{◌≡◌, sym, subst}
use mathlib.Core.Bool.{true}
use mathlib.Core.List.{List}
use lib.IntN.{ℤ}
use lib.ListN.{length}
use Rattle.search_theory.specs.Search.{upto, first}
use Rattle.meaning.specs.Book.{Book}
use Rattle.meaning.specs.Direction.{word_count}
use Rattle.meaning.specs.State.{IsStart}
use Rattle.meaning.specs.Search.{search}
use Rattle.states.specs.Ghost.{in_width, top_of, Chosen, Growing, Levelling, Starting}
use Rattle.states.specs.Shows.{Shows}
use Rattle.store.specs.Store.{place_at, Put, Indexed}
use Rattle.store.specs.declared.Place.{Place}
use Rattle.states.proofs.Ghost.{ready, search_starts, first_shown}

-- it is its size that says to which set it belongs
pub to_extend : (book : Book) (direction : List ℕ) (width : ℤ) {i j : ℕ} {st : List ℤ} {count : ℕ} → Levelling book direction width i j st count
    → j < length (upto (search book direction width) i) → {x : Place} → x ≡ place_at st j → x.size ≡ i
    → in_width width (top_of book direction width i) x.state.score ≡ true → i < word_count direction
    → Chosen book direction width x.size j x × Growing book direction width x.size j 0 st count
to_extend book direction width {j} {st} {count} L inside {x} e z k h =
    let u = ready book direction width L inside e z k h in
    (subst (λ (m : ℕ). Chosen book direction width m j x) (sym z) u.0, subst (λ (m : ℕ). Growing book direction width m j 0 st count) (sym z) u.1)

-- the start state was put at the place 0 of an empty store
pub start_put : (book : Book) (direction : List ℕ) (width : ℤ) → word_count direction ≤ 32 → {old st : List ℤ} {x : Place} → IsStart x.state → x.size ≡ 0
    → Put old st 0 x → Indexed st 1 → Starting book direction width 0 st 1
start_put book direction width few b z u J =
    search_starts book direction width J (subst (λ (y : Place). Shows (word_count direction) y (first (search book direction width))) (sym u.at) (first_shown book direction width b z few))
