-- The theorems on the search, stated once more in one place. Their proofs are in the other modules.
use Prim.Native.Nat.{ℕ, suc, ◌<◌, ◌≤◌}
use mathlib.Core.Path.{◌≡◌}
use mathlib.Core.Bool.{Bool, true, false}
use mathlib.Core.Logic.{◌↔◌, ◌⊎◌}
use mathlib.Core.List.{List, [], Memᴰ}
use mathlib.Core.Option.{none, some}
use lib.IntN.{◌+ℤ◌}
use lib.ListN.{length}
use lib.Signed.{◌≤ℤ◌}
use Rattle.laws.specs.Lists.{Distinct}
use Rattle.laws.proofs.Orders.{Weak}
use Rattle.search_theory.specs.Search.{Problem, St, extend, set_of, upto, run, closed, best}
use Rattle.search_theory.specs.Loops.{grow, sweep}
use Rattle.search_theory.specs.Orders.{before, ahead}
use Rattle.search_theory.specs.Statements.{after, total, Allowed, of, Legal, Reachable, keys, small, Covered, Steady, Ranked, Unpruned, with_beam, upto_in}
use Rattle.search_theory.proofs.Sound as Sound
use Rattle.search_theory.proofs.Longer as Longer
use Rattle.search_theory.proofs.Sets as Sets
use Rattle.search_theory.proofs.Optimal as Optimal
use Rattle.search_theory.proofs.Count as Count
use Rattle.search_theory.proofs.Store as Store
use Rattle.search_theory.proofs.Beams as Beams
use Rattle.search_theory.proofs.Lexical as Lexical

-- ---- 1. Soundness: any beam, no law
module _ (P : Problem) where
  open P use {n}

  -- each state of the search has steps that are options, each taken where it may be, and their key and their score
  pub sound : (s : St P) → Memᴰ s (run P) → Legal P s
  sound = Sound.sound P

  -- the answer is such a state, of the last set, with what it gains at the end
  pub answer_sound : (t : St P) → best P ≡ some t → (s : St P) × Memᴰ s (set_of P n (run P)) × Legal P s × (t ≡ closed P s)
  answer_sound = Sound.best_sound P

  -- there is no answer exactly if the last set is empty
  pub no_answer : (best P ≡ none) ↔ (set_of P n (run P) ≡ [])
  no_answer = Sound.best_none P

-- ---- 2. The sets: any beam
module _ (P : Problem) (S : Steady P) where
  open P use {n}

  -- no two states have the same key
  pub distinct : Distinct (keys P (run P))
  distinct = Sets.distinct P S

  -- when the search comes to set i, the set is what it is at the end, in the same order
  pub set_settled : (i : ℕ) → i ≤ n → set_of P i (run P) ≡ set_of P i (upto P i)
  set_settled = Sets.set_settled P S

  -- and so are the sets 0 to i together, when the search comes to set i and when it leaves it
  pub small_settled : (i : ℕ) → i < n → (small P i (run P) ≡ small P i (upto P i)) × (small P i (run P) ≡ small P i (upto P (suc i)))
  small_settled = Sets.small_settled P S

-- ---- 3. The answer
module _ (P : Problem) (S : Steady P) (R : Ranked P) where
  open P use {Key, Step, start, options, may, size, n, better, in_beam}

  -- any beam: the answer is a state of the last set, with what it gains at the end, and none of that set is better at the end
  pub answered : (t : St P) → best P ≡ some t
      → (s : St P) × Memᴰ s (set_of P n (run P)) × (t ≡ closed P s) × ((u : St P) → Memᴰ u (set_of P n (run P)) → better (closed P u) t ≡ false)
  answered = Optimal.answered P S R

  -- of equal states the better stays: no extension of a state in the beam is better than the state with its key
  pub stays : (t : St P) → Memᴰ t (run P) → in_beam (set_of P (size t.key) (upto P (size t.key))) t ≡ true
      → (p : Step) → Memᴰ p options → may t.key p ≡ true → Covered P (run P) (extend P t p)
  stays = Optimal.stays P S R

  -- a beam that drops nothing
  module _ (U : Unpruned P) where
    -- each allowed sequence has a state with its key that is not worse
    pub complete : (ys : List Step) → Allowed P start ys → Covered P (run P) (of P ys)
    complete = Optimal.complete P S R U

    -- no allowed sequence is better than the state with its key
    pub each_best : (t : St P) → Memᴰ t (run P) → (ys : List Step) → Allowed P start ys → after P start ys ≡ t.key → better (of P ys) t ≡ false
    each_best = Optimal.each_best P S R U

    -- no allowed sequence that ends in the last set is better than the answer
    pub optimal : (t : St P) → best P ≡ some t → (ys : List Step) → Allowed P start ys → size (after P start ys) ≡ n → better (closed P (of P ys)) t ≡ false
    optimal = Optimal.optimal P S R U

    -- if there is no answer, no allowed sequence ends in the last set
    pub hopeless : best P ≡ none → (ys : List Step) → Allowed P start ys → size (after P start ys) ≡ n → ⊥
    hopeless = Optimal.hopeless P S R U

    -- ---- 4. Counting

    -- the keys of the states are those that an allowed sequence leads to
    pub reached : (k : Key) → Memᴰ k (keys P (run P)) ↔ Reachable P k
    reached = Count.reached P S R U

    -- there are as many states as such keys
    pub counted : (ks : List Key) → Distinct ks → ((k : Key) → Memᴰ k ks ↔ Reachable P k) → length (run P) ≡ length ks
    counted = Count.counted P S R U

-- a store of `cap` places: any beam, no law
module _ (P : Problem) where
  open P use {Step, n}

  -- no list on the way is longer than the last
  pub no_longer : (i : ℕ) → i < n → (qs : List (St P)) (q : St P) (ps : List Step) (l : List (St P))
      → sweep P i (set_of P i (upto P i)) qs (grow P q ps l) ≡ upto P (suc i) → length l ≤ length (run P)
  no_longer = Longer.no_longer P

  -- the store is never full when a new key comes, if it holds the states of the search
  pub roomy : (cap : ℕ) → 1 ≤ cap → length (run P) ≤ cap → upto_in P cap n ≡ some (run P)
  roomy = Store.roomy P

  -- and it is full when some new key comes, if it does not
  pub full : (cap : ℕ) → 1 ≤ cap → cap < length (run P) → upto_in P cap n ≡ none
  full = Store.full P

-- ---- 5. Another beam that drops nothing either makes no difference
module _ (P : Problem) (b : List (St P) → St P → Bool) (U : Unpruned P) (U' : Unpruned (with_beam P b)) where
  -- to the states
  pub same_run : run P ≡ run (with_beam P b)
  same_run = Beams.same_run P b U U'

  -- to the answer
  pub same_best : best P ≡ best (with_beam P b)
  same_best = Beams.same_best P b U U'

-- ---- 6. A greater score is better, and among equal scores the steps that come first
module _ (P : Problem) (S : Steady P) (less : P.Step → P.Step → Bool) (W : Weak less)
    (tot : (x y : P.Step) → less x y ≡ false → less y x ≡ false → x ≡ y)
    (is : (a b : St P) → P.better a b ≡ ahead less a b) (U : Unpruned P) where
  open P use {Step, start, size, n, close}

  -- no allowed sequence that ends in the last set has a higher score than the answer, with what it gains at the end ..
  pub highest_score : (t : St P) → best P ≡ some t → (ys : List Step) → Allowed P start ys → size (after P start ys) ≡ n
      → (total P start ys +ℤ close (after P start ys)) ≤ℤ t.score
  highest_score = Lexical.highest_score P S less W tot is U

  -- .. and none of its score comes before it
  pub none_earlier : (t : St P) → best P ≡ some t → (ys : List Step) → Allowed P start ys → size (after P start ys) ≡ n
      → total P start ys +ℤ close (after P start ys) ≡ t.score → before less ys t.steps ≡ false
  none_earlier = Lexical.none_earlier P S less W tot is U

  -- there is one best sequence, and it is the answer's: any other that ends in the last set has a lower score, or the same and comes later
  pub unique : (t : St P) → best P ≡ some t → (ys : List Step) → Allowed P start ys → size (after P start ys) ≡ n
      → (t.steps ≡ ys) ⊎ (ahead less t (closed P (of P ys)) ≡ true)
  unique = Lexical.unique P S less W tot is U
