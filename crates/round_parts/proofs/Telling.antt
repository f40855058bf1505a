-- Nine numbers put over nine places, a decode's steps as numbers, and what is known of the store.
use Prim.Native.Nat.{ℕ, zero, suc}
use native.Mathlib.Omega.{arith}
use mathlib.Core.Path.{◌≡◌, refl, sym, ap, ◌∙◌}
use mathlib.Core.Bool.{Bool, true, false, ◌||◌, true≢false}
use mathlib.Core.List.{List, [], ◌∷◌}
use lib.ListN.{length}
use Rattle.meaning.specs.Reply.{filled_with, written_over, written_if}
use Rattle.meaning.specs.declared.Step.{Step}
use Rattle.lists.specs.Steps.{numbers_of}
use Rattle.decoder.specs.Decodes.{unless_refused}

-- a list over one of its length
filled_all : {A : Type 0} (new old : List A) → length new ≡ length old → filled_with new old ≡ new
unfolding filled_with
filled_all {A} [] [] e = refl
filled_all {A} [] (y ∷ old) e = absurd (omega arith)
filled_all {A} (x ∷ new) [] e = absurd (omega arith)
filled_all {A} (x ∷ new) (y ∷ old) e = ap (λ (l : List A). x ∷ l) (filled_all new old (omega arith))

pub filled_whole : {A : Type 0} (new old list : List A) {m : ℕ} {numbers : List A} → list ≡ filled_with numbers old → numbers ≡ new → length new ≡ m → length old ≡ m → list ≡ new
filled_whole {A} new old list f n e e' = f ∙ ap (λ (l : List A). filled_with l old) n ∙ filled_all new old (e ∙ sym e')

-- it was all zero before, or is where the direction was searched
pub is_so : (a b : Bool) → a ≡ true → a ≡ a || b
is_so true b e = refl
is_so false b e = absurd (true≢false (sym e))

pub or_else : (a b : Bool) {r : Bool} → a ≡ false → r ≡ b → r ≡ a || b
or_else true b e f = absurd (true≢false e)
or_else false b e f = f

-- the steps of a decode as numbers
pub numbers_written : (k : ℕ) (steps : List Step) (old : List ℕ) → written_over (numbers_of (unless_refused k steps)) old ≡ written_if k (numbers_of steps) old
numbers_written zero steps old = refl
numbers_written (suc k) steps old = refl
