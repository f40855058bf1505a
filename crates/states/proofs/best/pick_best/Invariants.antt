-- What is left of the list takes the best place so far to the answer of the whole list.
use mathlib.Core.Path.{◌≡◌}
use mathlib.Core.List.{List}
use mathlib.Core.Option.{none}
use lib.ListN.{drop}
use Rattle.search_theory.specs.Loops.{pick}
use Rattle.meaning.specs.State.{Hyp, words_covered, is_better}
use Rattle.ways.specs.Ties.{Walked}
use Rattle.states.specs.Shows.{Lists}
use Rattle.states.specs.Answer.{Below, no_close, picked}
use Rattle.states.proofs.best.pick_best.Given as goal

abbrev pub invariant-loop-k : goal.invariant-loop-k
invariant-loop-k l = Below l.n l.store l.k l.best × ((hs : List Hyp) → Walked l.store hs → Lists l.n l.store l.count hs
    → pick words_covered l.n no_close is_better (picked hs l.best) (drop l.k hs) ≡ pick words_covered l.n no_close is_better none hs)
