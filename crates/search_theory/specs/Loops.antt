-- The search of Search.antt once more, as loops do it: one state and one step at a time, over the whole list, with a test of the set for each state.
-- It is the same search: `level_sweep` and `best_pick` of proofs/Loops.antt.
use Rattle.std.specs.Prelude.{ℕ, Bool, cond, List, [], ◌∷◌, eqb, ℤ, ◌+ℤ◌}
use Rattle.std.proofs.Math.Option.{Option}
use Rattle.search_theory.specs.Search.{Hypothesis, Problem, wins, St, extend, add}

module _ (P : Problem) where
  open P use {Step, options, may, size, in_beam}

  -- q is extended by each of the steps that may
  unfoldable pub grow : St P → List Step → List (St P) → List (St P)
  grow q [] l = l
  grow q (p ∷ ps) l = grow q ps (cond (may q.key p) (add P (extend P q p) l) l)

  -- q is extended if it is of set i and in the beam; `set` is set i as the level began
  unfoldable pub visit : ℕ → List (St P) → St P → List (St P) → List (St P)
  visit i set q l = cond (eqb (size q.key) i) (cond (in_beam set q) (grow q options l) l) l

  -- the states that are still to be seen, in turn
  unfoldable pub sweep : ℕ → List (St P) → List (St P) → List (St P) → List (St P)
  sweep i set [] l = l
  sweep i set (q ∷ qs) l = sweep i set qs (visit i set q l)

module _ {Key Step : Type 0} (close : Key → ℤ) where
  -- a state with what it gains at the end
  abbrev pub closing : Hypothesis Key Step → Hypothesis Key Step
  closing s = record { key = s.key; score = s.score +ℤ close s.key; steps = s.steps }

-- for code that only reads a list of states: it does not depend on the whole problem
module _ {Key Step : Type 0} (size : Key → ℕ) (n : ℕ) (close : Key → ℤ) (better : Hypothesis Key Step → Hypothesis Key Step → Bool) where
  -- the best of b and the list's states of set n, with what they gain at the end
  unfoldable pub pick : Option (Hypothesis Key Step) → List (Hypothesis Key Step) → Option (Hypothesis Key Step)
  pick b [] = b
  pick b (s ∷ l) = pick (cond (eqb (size s.key) n) (wins better b (closing close s)) b) l
