-- The dynamic-programming search of Collins' notes on phrase-based decoding (Figures 3 to 5), over any keys and steps.
-- The sets of the notes stand in ONE list, in the order in which their states were entered; set i is a part of it.
use Rattle.std.specs.Prelude.{ℕ, zero, suc, Bool, cond, List, [], ◌∷◌, ◌++◌, map, eqb, ℤ, pos, ◌+ℤ◌}
use Rattle.std.proofs.Math.Option.{Option, none, some}
use Rattle.laws.specs.Lists.{keep, concat}

-- a state of the search: its key (all that two equal states agree in), its score, and the steps that led to it
pub record Hypothesis (Key Step : Type 0) : Type 0 where
  pub key : Key
  pub score : ℤ
  pub steps : List Step

-- what is searched, and how
pub record Problem : Type 1 where
  pub Key : Type 0
  pub Step : Type 0
  -- eq: two states are equal
  pub same : Key → Key → Bool
  -- the start state's key
  pub start : Key
  -- every step that is tried, in this order
  pub options : List Step
  -- ph(q): the step may extend a state with this key
  pub may : Key → Step → Bool
  -- next(q, p): the key that the step leads to, and what it adds to the score
  pub next : Key → Step → Key
  pub gain : Key → Step → ℤ
  -- the number of the set that a state with this key belongs to, and the number of the last set
  pub size : Key → ℕ
  pub n : ℕ
  -- what a state of the last set gains at the end, when the answer is chosen
  pub close : Key → ℤ
  -- `better new old`: of two equal states the new one stays
  pub better : Hypothesis Key Step → Hypothesis Key Step → Bool
  -- beam(Q): a state of the set is among those that are extended
  pub in_beam : List (Hypothesis Key Step) → Hypothesis Key Step → Bool

module _ {Key Step : Type 0} (better : Hypothesis Key Step → Hypothesis Key Step → Bool) where
  -- the better of two, the first where neither is
  abbrev pub wins : Option (Hypothesis Key Step) → Hypothesis Key Step → Option (Hypothesis Key Step)
  wins none s = some s
  wins (some t) s = cond (better s t) (some s) (some t)

  -- the best of b and the list, the first of several
  unfoldable pub highest : Option (Hypothesis Key Step) → List (Hypothesis Key Step) → Option (Hypothesis Key Step)
  highest b [] = b
  highest b (s ∷ l) = highest (wins b s) l

module _ (P : Problem) where
  open P use {Key, Step, same, start, options, may, next, gain, size, n, close, better, in_beam}

  abbrev pub St : Type 0
  St = Hypothesis Key Step

  -- the start state
  unfoldable pub first : St
  first = record { key = start; score = pos 0; steps = [] }

  -- next(q, p)
  unfoldable pub extend : St → Step → St
  extend q p = record { key = next q.key p; score = q.score +ℤ gain q.key p; steps = q.steps ++ (p ∷ []) }

  -- Add: of equal states the better stays; a state with no equal is entered behind the others
  unfoldable pub add : St → List St → List St
  add s [] = s ∷ []
  add s (t ∷ l) = cond (same t.key s.key) (cond (better s t) s t ∷ l) (t ∷ add s l)

  unfoldable pub add_all : List St → List St → List St
  add_all [] l = l
  add_all (s ∷ ss) l = add_all ss (add s l)

  -- the set Q_i
  unfoldable pub set_of : ℕ → List St → List St
  set_of i l = keep (λ s. eqb (size s.key) i) l

  -- the states of a set that are extended
  unfoldable pub beam : List St → List St
  beam set = keep (in_beam set) set

  -- the states that the steps lead to which may extend q
  unfoldable pub extensions : St → List St
  extensions q = map (extend q) (keep (may q.key) options)

  -- the states entered once set i was extended
  unfoldable pub level : ℕ → List St → List St
  level i l = add_all (concat (map extensions (beam (set_of i l)))) l

  -- the states entered once the sets below i were extended, in turn
  unfoldable pub upto : ℕ → List St
  upto zero = first ∷ []
  upto (suc i) = level i (upto i)

  -- the states entered
  unfoldable pub run : List St
  run = upto n

  -- a state of the last set with what it gains at the end
  unfoldable pub closed : St → St
  closed s = record { key = s.key; score = s.score +ℤ close s.key; steps = s.steps }

  -- the answer: the best state of the last set, with what it gains at the end
  unfoldable pub best : Option St
  best = highest better none (map closed (set_of n run))
