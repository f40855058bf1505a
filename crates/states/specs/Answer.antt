-- What code reads off the store, of a list of states that the store shows: the best score of those that cover i words, and the best of them.
use Rattle.std.specs.Prelude.{cond, List, [], ◌∷◌, ℕ, ◌<◌, ◌≡◌, eqb, ℤ, pos, get_or, Option, Some, None}
use Rattle.std.proofs.Math.Option.{Option as MathOption, none, some}
use Rattle.laws.specs.Lists.{keep, larger}
use Rattle.search_theory.specs.Search.{wins}
use Rattle.search_theory.specs.Loops.{closing}
use Rattle.meaning.specs.State.{Key, Hyp, words_covered, is_better}
use Rattle.store.specs.Store.{place_at}
use Rattle.ways.specs.Back.{nobody}

-- the states that cover i words: `set_of` of the search, which depends on no book
abbrev pub sized : ℕ → List Hyp → List Hyp
sized i l = keep (λ s. eqb (words_covered s.key) i) l

-- ---- the best score so far, if there is one
-- with another score
abbrev pub higher : Option ℤ → ℤ → ℤ
higher None score = score
higher (Some best) score = larger best score

-- with one state more
unfoldable pub raised : ℕ → Option ℤ → ℕ → ℤ → Option ℤ
raised i t size score = cond (eqb size i) (Some (higher t score)) t

-- with all states of a list
unfoldable pub top_from : ℕ → Option ℤ → List Hyp → Option ℤ
top_from i t [] = t
top_from i t (q ∷ qs) = top_from i (raised i t (words_covered q.key) q.score) qs

-- ---- what a state gains at the end

-- nothing
abbrev pub no_close : Key → ℤ
no_close k = pos 0

-- ---- the best state so far, by its place; n is the number of words

-- the place is one of the first k, and its state covers n words
abbrev pub Below : ℕ → List ℤ → ℕ → Option ℕ → Type 0
Below n st k None = Unit
Below n st k (Some j) = (j < k) × ((place_at st j).size ≡ n)

abbrev pub picked : List Hyp → Option ℕ → MathOption Hyp
picked l None = none
picked l (Some j) = some (get_or l j nobody)

-- with one place more: it is of another size, the first, or the better of two
abbrev pub with_place : ℕ → List ℤ → List Hyp → Option ℕ → ℕ → MathOption Hyp
with_place n st l b k = cond (eqb (place_at st k).size n) (wins is_better (picked l b) (closing no_close (get_or l k nobody))) (picked l b)
