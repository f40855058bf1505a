-- The search: the procedure of the notes (crate search_theory, specs/Search) for a book, a direction and a width.
use Rattle.std.specs.Prelude.{ℕ, ◌+◌, ◌-◌, Bool, ◌||◌, List, [], ◌∷◌, map, ℤ, pos, negsuc, ◌-ℤ◌, length}
use Rattle.std.proofs.Math.Option.{Option}
use Rattle.std.specs.Int.Signed.{le_z}
use Rattle.laws.specs.Integers.{eqℤ}
use Rattle.laws.specs.Lists.{keep, concat, one_to, max_from}
use Rattle.search_theory.specs.Search.{Problem, set_of, run, best}
use Rattle.meaning.specs.Book.{Book}
use Rattle.meaning.specs.Direction.{word_count}
use Rattle.meaning.specs.Derivation.{entry_at, fits}
use Rattle.meaning.specs.State.{Key, Hyp, start, words_covered, is_equal, may_extend, next_key, gain, is_better}
use Rattle.meaning.specs.declared.Step.{Step}

-- ════ "every step that fits"

-- the entry at this first position: it takes as many positions as it has source words
abbrev pub step_at : Book → ℕ → ℕ → Step
step_at book first entry = record { first = first; last = first + length (entry_at book entry).source - 1; entry = entry }

-- every step that fits, by first position and then by entry (this order can be seen in no reply)
unfoldable pub fitting_steps : Book → List ℕ → List Step
fitting_steps book direction =
    concat (map
    (λ first. keep (fits book direction) (map (step_at book first) (one_to (length book.entries))))
    (one_to (word_count direction)))

-- ════ the beam

-- "−1 (pruning off)"
abbrev pub is_off : ℤ → Bool
is_off width = eqℤ width (negsuc 0)

-- "the set's best"; an empty set has none, and nothing to extend
abbrev pub best_score : List Hyp → ℤ
best_score [] = pos 0
best_score (q ∷ qs) = max_from q.score (map (λ s. s.score) qs)

-- "With pruning off every state is extended; with width β, those whose score is at least the set's best minus β."
unfoldable pub is_within : ℤ → List Hyp → Hyp → Bool
is_within width set q = is_off width || le_z (best_score set -ℤ width) q.score

-- ════ the search and its answer

-- "Set i holds states with i words covered. In turn, for i from 0 to n − 1, each state of set i within the width is extended
-- by every step that fits, overlaps nothing and jumps at most d."
abbrev pub search : Book → List ℕ → ℤ → Problem
search book direction width = record {
  Key = Key;
  Step = Step;
  same = is_equal;
  start = start (word_count direction);
  options = fitting_steps book direction;
  may = may_extend book direction;
  next = next_key book;
  gain = gain book;
  size = words_covered;
  n = word_count direction;
  close = λ k. pos 0;
  better = is_better;
  in_beam = is_within width;
}

-- the states entered in all sets, the start included
unfoldable pub entered : Book → List ℕ → ℤ → List Hyp
entered book direction width = run (search book direction width)

-- "set n": the states that cover every word
unfoldable pub last_set : Book → List ℕ → ℤ → List Hyp
last_set book direction width = set_of (search book direction width) (word_count direction) (entered book direction width)

-- "a highest score in set n", and "Among derivations of equal score the first in order wins": a state of set n that none of them is better than
unfoldable pub answer : Book → List ℕ → ℤ → Option Hyp
answer book direction width = best (search book direction width)
