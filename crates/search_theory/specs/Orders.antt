-- The order of states by score, and among equal scores by their steps: the list of steps that comes first in the order of `less`.
use Rattle.std.specs.Prelude.{Bool, true, false, cond, List, [], ◌∷◌}
use Rattle.std.specs.Int.Signed.{lt_z}
use Rattle.search_theory.specs.Search.{Hypothesis}

module _ {Step : Type 0} (less : Step → Step → Bool) where
  -- the first steps that differ decide; a list comes before one that it begins
  abbrev pub before : List Step → List Step → Bool
  before [] [] = false
  before [] (y ∷ ys) = true
  before (x ∷ xs) [] = false
  before (x ∷ xs) (y ∷ ys) = cond (less x y) true (cond (less y x) false (before xs ys))

  -- a greater score, or the same and steps that come before
  abbrev pub ahead : {Key : Type 0} → Hypothesis Key Step → Hypothesis Key Step → Bool
  ahead a b = cond (lt_z b.score a.score) true (cond (lt_z a.score b.score) false (before a.steps b.steps))
