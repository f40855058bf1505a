-- The words in which the theorems on the search are stated: sequences of steps, the laws that are asked of a problem, a store of limited room, and what code keeps from turn to turn.
use Rattle.std.specs.Prelude.{ℕ, zero, suc, ◌<◌, ◌≤◌, ◌≡◌, Bool, true, false, cond, ◌⊎◌, eqb, leb, ltb, ℤ, pos, ◌+ℤ◌, length, get_or, drop}
use mathlib.Core.List.{List, [], ◌∷◌, ◌++◌, map, Memᴰ}
use Rattle.std.proofs.Math.Option.{Option, none, some, bind}
use Rattle.laws.specs.Lists.{keep}
use Rattle.search_theory.specs.Search.{Problem, St, first, extend, add, set_of, upto, closed}
use Rattle.search_theory.specs.Loops.{grow, sweep}

module _ (P : Problem) where
  open P use {Key, Step, same, start, options, may, next, gain, size, n, close, better, in_beam}

  -- ---- sequences of steps

  -- the key that a sequence leads to from k
  unfoldable pub after : Key → List Step → Key
  after k [] = k
  after k (p ∷ ps) = after (next k p) ps

  -- what a sequence gains from k on
  unfoldable pub total : Key → List Step → ℤ
  total k [] = pos 0
  total k (p ∷ ps) = gain k p +ℤ total (next k p) ps

  -- each step is an option, and may be taken where it stands
  abbrev pub Allowed : Key → List Step → Type 0
  Allowed k [] = Unit
  Allowed k (p ∷ ps) = Memᴰ p options × (may k p ≡ true) × Allowed (next k p) ps

  -- the state that a sequence leads to from the start
  unfoldable pub of : List Step → St P
  of ys = record { key = after start ys; score = total start ys; steps = ys }

  -- a state's steps are allowed from the start, and its key and its score are theirs
  pub record Legal (s : St P) : Type 0 where
    pub allowed : Allowed start s.steps
    pub key_is : s.key ≡ after start s.steps
    pub score_is : s.score ≡ total start s.steps

  -- some allowed sequence leads to the key
  abbrev pub Reachable : Key → Type 0
  Reachable k = (ys : List Step) × Allowed start ys × (after start ys ≡ k)

  -- ---- lists of states

  -- the keys of a list's states
  abbrev pub keys : List (St P) → List Key
  keys l = map (λ s. s.key) l

  -- the states of the sets 0 to i, in the list's order
  abbrev pub small : ℕ → List (St P) → List (St P)
  small i l = keep (λ s. leb (size s.key) i) l

  -- a state of the list has the same key as s and is not worse
  pub record Covered (l : List (St P)) (s : St P) : Type 0 where
    pub by : St P
    pub member : Memᴰ by l
    pub its_key : by.key ≡ s.key
    pub not_worse : better s by ≡ false

  -- ---- the laws

  -- of keys and sizes: `same` is equality, and a step of a legal state leads to a later set, the last at most
  pub record Steady : Type 0 where
    pub same_eq : (a b : Key) → same a b ≡ true → a ≡ b
    pub same_refl : (a : Key) → same a a ≡ true
    pub grows : (q : St P) → Legal q → (p : Step) → Memᴰ p options → may q.key p ≡ true → size q.key < size (next q.key p)
    pub bound : (q : St P) → Legal q → (p : Step) → Memᴰ p options → may q.key p ≡ true → size (next q.key p) ≤ n

  -- of `better`: a strict weak order, and of two legal states with one key the one that is not better stays so after a step, and at the end
  pub record Ranked : Type 0 where
    pub asym : (a b : St P) → better a b ≡ true → better b a ≡ false
    pub ntrans : (a b c : St P) → better a b ≡ false → better b c ≡ false → better a c ≡ false
    pub mono : (a b : St P) → Legal a → Legal b → a.key ≡ b.key → (p : Step) → Memᴰ p options → may a.key p ≡ true → better a b ≡ false → better (extend P a p) (extend P b p) ≡ false
    pub mono_close : (a b : St P) → Legal a → Legal b → a.key ≡ b.key → better a b ≡ false → better (closed P a) (closed P b) ≡ false

  -- of the beam: it dropped no state of this search
  unfoldable pub Unpruned : Type 0
  Unpruned = (i : ℕ) → i < n → (q : St P) → Memᴰ q (set_of P i (upto P i)) → in_beam (set_of P i (upto P i)) q ≡ true

  -- the same problem with another beam
  abbrev pub with_beam : (List (St P) → St P → Bool) → Problem
  with_beam b = record { Key = Key; Step = Step; same = same; start = start; options = options; may = may; next = next; gain = gain; size = size; n = n; close = close; better = better; in_beam = b }

  -- ---- the search with a store of `cap` places: `none` as soon as a new key finds it full

  -- some state of the list has the key
  unfoldable pub known : Key → List (St P) → Bool
  known k [] = false
  known k (t ∷ l) = cond (same t.key k) true (known k l)

  -- Add, where a new key needs a free place
  unfoldable pub put : ℕ → St P → List (St P) → Option (List (St P))
  put cap s l = cond (known s.key l) (some (add P s l)) (cond (ltb (length l) cap) (some (add P s l)) none)

  -- `grow` of Loops.antt with it
  unfoldable pub grow_in : ℕ → St P → List Step → List (St P) → Option (List (St P))
  grow_in cap q [] l = some l
  grow_in cap q (p ∷ ps) l = bind (cond (may q.key p) (put cap (extend P q p) l) (some l)) (grow_in cap q ps)

  -- `visit` with it
  unfoldable pub visit_in : ℕ → ℕ → List (St P) → St P → List (St P) → Option (List (St P))
  visit_in cap i set q l = cond (eqb (size q.key) i) (cond (in_beam set q) (grow_in cap q options l) (some l)) (some l)

  -- `sweep` with it
  unfoldable pub sweep_in : ℕ → ℕ → List (St P) → List (St P) → List (St P) → Option (List (St P))
  sweep_in cap i set [] l = some l
  sweep_in cap i set (q ∷ qs) l = bind (visit_in cap i set q l) (sweep_in cap i set qs)

  -- the states once the sets below i were extended, if they fit all the time
  unfoldable pub upto_in : ℕ → ℕ → Option (List (St P))
  upto_in cap zero = some (first P ∷ [])
  upto_in cap (suc i) = bind (upto_in cap i) (λ l. sweep_in cap i (set_of P i l) l l)

  -- ---- what code keeps from turn to turn; `d` is what `get_or` gives past the end

  -- l has at the places of `base` the same keys, and the same states where the size is at most i
  abbrev pub Kept : ℕ → List (St P) → List (St P) → Type 0
  Kept i [] l = Unit
  Kept i (b ∷ base) [] = ⊥
  Kept i (b ∷ base) (t ∷ l) = (t.key ≡ b.key) × (size b.key ≤ i → t ≡ b) × Kept i base l

  -- at place j of level i: what is left to do makes the next level's list, and the list still has what the level began with
  pub record InLevel (i j : ℕ) (l : List (St P)) : Type 0 where
    pub rest : sweep P i (set_of P i (upto P i)) (drop j (upto P i)) l ≡ upto P (suc i)
    pub kept : Kept i (upto P i) l

  -- the same at option o of the state q at place j
  pub record InGrow (i j : ℕ) (q : St P) (o : ℕ) (l : List (St P)) : Type 0 where
    pub rest : sweep P i (set_of P i (upto P i)) (drop (suc j) (upto P i)) (grow P q (drop o options) l) ≡ upto P (suc i)
    pub kept : Kept i (upto P i) l

  -- the state at place j is the one at place b with the step p after it; the one at b is of the sets 0 to i
  pub record Link (i : ℕ) (l : List (St P)) (b : ℕ) (p : Step) (j : ℕ) (d : St P) : Type 0 where
    pub inside : b < length l
    pub early : size (get_or l b d).key ≤ i
    pub smaller : size (get_or l b d).key < size (get_or l j d).key
    pub steps_are : (get_or l j d).steps ≡ (get_or l b d).steps ++ (p ∷ [])

  -- back pointers: each place but the first is linked to its parent's place `par` by the step `via`
  pub record Traced (i : ℕ) (l : List (St P)) (par : ℕ → ℕ) (via : ℕ → Step) (d : St P) : Type 0 where
    pub root : get_or l 0 d ≡ first P
    pub links : (j : ℕ) → j < length l → (j ≡ 0) ⊎ Link i l (par j) (via j) j d

-- the walk back from place j along the pointers, f steps at most, in front of acc
unfoldable pub walk : {Step : Type 0} → (ℕ → ℕ) → (ℕ → Step) → ℕ → ℕ → List Step → List Step
walk par via zero j acc = acc
walk par via (suc f) j acc = cond (eqb j 0) acc (walk par via f (par j) (via j ∷ acc))

-- an array of a fixed length holds the list l in its first places; `ok` says how an entry holds a state
pub record Agree {A B : Type 0} (ok : A → B → Type 0) (r : A) (d : B) (arr : List A) (l : List B) : Type 0 where
  pub room : length l ≤ length arr
  pub each : (j : ℕ) → j < length l → ok (get_or arr j r) (get_or l j d)
