-- The steps of a round as plain numbers, and a list of records with them.
use Rattle.std.specs.Prelude.{ℕ, zero, suc, ◌+◌, ◌*◌, List, [], ◌∷◌, ◌++◌, get_or}
use Rattle.meaning.specs.declared.Step.{Step}
use Rattle.records.specs.declared.rows.Rows.{Rows}

-- step i, counted from 0: numbers 3i, 3i + 1 and 3i + 2
abbrev pub row_in : List ℕ → ℕ → Step
row_in numbers i = record { first = get_or numbers (i * 3) 0; last = get_or numbers (i * 3 + 1) 0; entry = get_or numbers (i * 3 + 2) 0 }

-- the first k steps, in order
abbrev pub rows_to : List ℕ → ℕ → List Step
rows_to numbers zero = []
rows_to numbers (suc k) = rows_to numbers k ++ (row_in numbers k ∷ [])

-- the steps, in order
abbrev pub rows_of : Rows → List Step
rows_of rows = rows_to rows.numbers rows.count

-- the new step unless its first position is 0: then it is none
abbrev pub unless_none : ℕ → Step → Step → Step
unless_none zero new old = old
unless_none (suc first) new old = new

abbrev pub step_over : Step → Step → Step
step_over new old = unless_none new.first new old

-- a list of records with new steps, each in its place
abbrev pub put_over : List Step → List Step → List Step
put_over [] old = old
put_over (x ∷ new) [] = []
put_over (x ∷ new) (y ∷ old) = step_over x y ∷ put_over new old
