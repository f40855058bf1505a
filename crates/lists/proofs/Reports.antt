-- As many values as the list has places for; and counts as signed numbers.
use Prim.Native.Nat.{ℕ, suc, ◌<◌, min}
use native.Mathlib.Omega.{arith}
use mathlib.Core.Path.{◌≡◌, refl, ap}
use mathlib.Core.List.{List, [], ◌∷◌, ◌++◌}
use lib.IntN.{ℤ, pos}
use lib.ListN.{length, take, drop}
use mir.Syntax.{w64}
use mir.Val.{to_z}
use mir.ValLaws.{to_z_pos}
use Rattle.meaning.specs.Reply.{filled_with, supplied_numbers}
use Rattle.meaning.specs.declared.Supplied.{Supplied}
use Rattle.lists.specs.Report.{FewSupplied}

-- as many values as there are places for, and the places behind them as before
pub filled_front : (numbers report : List ℤ) (n : ℕ) → n ≡ min (length report) (length numbers) → take n numbers ++ drop n report ≡ filled_with numbers report
unfolding filled_with
filled_front [] report n e = let z : n ≡ 0 = omega arith in rw z refl
filled_front (x ∷ numbers) [] n e = let z : n ≡ 0 = omega arith in rw z refl
filled_front (x ∷ numbers) (y ∷ report) n e =
    let z : n ≡ suc (min (length report) (length numbers)) = omega arith in
    rw z (ap (λ (l : List ℤ). x ∷ l) (filled_front numbers report (min (length report) (length numbers)) refl))

-- a count as a signed number
pub as64 : (n : ℕ) → n < 9_223_372_036_854_775_808 → to_z w64 n ≡ pos n
as64 n h = to_z_pos w64 n h

pub supplied_as64 : (s : Supplied) → FewSupplied s
    → to_z w64 s.triples ∷ to_z w64 s.pairs ∷ to_z w64 s.words ∷ to_z w64 s.unseen ∷ [] ≡ supplied_numbers s
supplied_as64 s h = rw (as64 s.triples h.triples, as64 s.pairs h.pairs, as64 s.words h.words, as64 s.unseen h.unseen)
