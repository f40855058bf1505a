-- The table of kinds by number: the row of a line, and what a row allows.
use Rattle.std.specs.Prelude.{ℕ, cond, List, ◌∷◌, map, leb, ℤ, length, get_or}
use Rattle.meaning.specs.Book.{kinds, natural_at}

-- the kind of a line, the number of its row; 0 where it is of none
unfoldable pub kind_of : List ℤ → ℕ
kind_of line = cond (leb (natural_at line 0) (length kinds)) (natural_at line 0) 0

-- how many lines of kind k a book may have; none of kind 0
abbrev pub most_of : ℕ → ℕ
most_of k = get_or (0 ∷ map (λ row. row.most) kinds) k 0
