-- A list that takes as many values as it has places for.
use Prim.Native.Nat.{ℕ, suc, ◌≤◌}
use native.Mathlib.Omega.{arith}
use mathlib.Core.Path.{◌≡◌, refl, ap, ◌∙◌}
use mathlib.Core.List.{List, [], ◌∷◌, ◌++◌}
use lib.ListN.{length, take, set}
use Rattle.meaning.specs.Reply.{written_over, filled_with}

module _ {A : Type 0} where
  -- with no values it is as before
  pub filled_none : (old : List A) → old ≡ filled_with [] old
  unfolding filled_with
  filled_none old = refl

  -- one value more, where there is a place for it and where there is none
  filled_more : (new old : List A) (v : A) → set (filled_with new old) (length new) v ≡ filled_with (new ++ (v ∷ [])) old
  unfolding filled_with
  filled_more [] [] v = refl
  filled_more [] (y ∷ old) v = refl
  filled_more (x ∷ new) [] v = refl
  filled_more (x ∷ new) (y ∷ old) v = ap (λ (l : List A). x ∷ l) (filled_more new old v)

  pub filled_next : (new old : List A) {out : List A} (v : A) → out ≡ filled_with new old → set out (length new) v ≡ filled_with (new ++ (v ∷ [])) old
  filled_next new old v e = ap (λ (l : List A). set l (length new) v) e ∙ filled_more new old v

  -- the list keeps its length
  pub filled_length : (new old : List A) → length (filled_with new old) ≡ length old
  unfolding filled_with
  filled_length [] old = refl
  filled_length (x ∷ new) [] = refl
  filled_length (x ∷ new) (y ∷ old) = ap suc (filled_length new old)

  -- where there is room for all, they stand at its beginning and the rest is as before
  pub filled_room : (new old : List A) → length new ≤ length old → filled_with new old ≡ written_over new old
  unfolding filled_with
  filled_room [] old h = refl
  filled_room (x ∷ new) [] h = absurd (omega arith)
  filled_room (x ∷ new) (y ∷ old) h = ap (λ (l : List A). x ∷ l) (filled_room new old (omega arith))

  -- the first n of a list that took n values are those values
  pub filled_take : (new old : List A) (n : ℕ) → n ≡ length new → n ≤ length old → take n (filled_with new old) ≡ new
  unfolding filled_with
  filled_take [] old n e h = rw e
  filled_take (x ∷ new) [] n e h = absurd (omega arith)
  filled_take (x ∷ new) (y ∷ old) n e h = rw e (ap (λ (l : List A). x ∷ l) (filled_take new old (length new) refl (omega arith)))
