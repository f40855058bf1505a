-- Steps as plain numbers, three to a step, and the steps that they stand for.
use Rattle.std.specs.Prelude.{ℕ, zero, suc, ◌+◌, ◌*◌, ◌<◌, ◌≤◌, ◌≡◌, Bool, true, false, List, [], ◌∷◌, ◌++◌, leb, get_or, set, take, replicate}
use Rattle.meaning.specs.declared.Step.{Step}
use Rattle.records.specs.declared.Plain.{Plain}

-- step i, counted from 0: numbers 3i, 3i + 1 and 3i + 2
abbrev pub step_in : Plain → ℕ → Step
step_in p i = record { first = get_or p.numbers (i * 3) 0; last = get_or p.numbers (i * 3 + 1) 0; entry = get_or p.numbers (i * 3 + 2) 0 }

-- the first k steps, in order
abbrev pub steps_to : Plain → ℕ → List Step
steps_to p zero = []
steps_to p (suc k) = steps_to p k ++ (step_in p k ∷ [])

-- the steps, in order
abbrev pub steps_of : Plain → List Step
steps_of p = steps_to p p.count

abbrev pub no_steps : Plain
no_steps = record { count = 0; numbers = replicate 99 0 }

-- the numbers with step k's three
abbrev pub with_numbers : List ℕ → ℕ → Step → List ℕ
with_numbers numbers k step = set (set (set numbers (k * 3) step.first) (k * 3 + 1) step.last) (k * 3 + 2) step.entry

abbrev pub unless_full : Bool → Plain → Step → Plain
unless_full true p step = p
unless_full false p step = record { count = p.count + 1; numbers = with_numbers p.numbers p.count step }

-- with one step more; as it is where 33 stand already
abbrev pub with_step : Plain → Step → Plain
with_step p step = unless_full (leb 33 p.count) p step

-- r is p with one step more: where there is a place for it, it stands after the others
pub record Added (p : Plain) (step : Step) (r : Plain) : Type 0 where
  pub is : r ≡ with_step p step
  pub steps : p.count < 33 → steps_of r ≡ steps_of p ++ (step ∷ [])

-- the first 33 records of a list, or all where there are fewer, as plain numbers
abbrev pub Gathered : Plain → List Step → Type 0
Gathered p steps = (steps_of p ≡ take 33 steps) × (p.count ≤ 33)
