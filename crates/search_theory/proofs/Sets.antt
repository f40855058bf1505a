-- With the laws of keys and sizes, for any beam: no two states have the same key, and a set is settled when the search comes to it.
use Prim.Native.Nat.{ℕ, zero, suc, ◌+◌, ◌<◌, ◌≤◌, suc-le-suc}
use mathlib.Core.Path.{◌≡◌, refl, sym, ◌∙◌, ap, subst}
use mathlib.Core.Bool.{Bool, false}
use mathlib.Core.Logic.{◌⊎◌, inl, inr}
use mathlib.Core.List.Memᴰ
use mathlib.Core.List.{List, [], ◌∷◌, Memᴰ}
use native.Mathlib.Nat.{le_trans, le_of_eq, le-suc, lt_irrefl}
use native.Mathlib.Omega.{arith}
use borrow.Author.Tests.{le-leb, lt-leb, ne_eqb}
use lib.Dec.{eqb, leb}
use lib.ListN.{length}
use Rattle.laws.specs.Lists.{keep, Distinct}
use Rattle.laws.proofs.Tests.{climb}
use Rattle.search_theory.specs.Search.{Problem, St, extend, set_of, upto, run}
use Rattle.search_theory.specs.Statements.{after, Allowed, Legal, Steady, keys, small}
use Rattle.laws.proofs.Lists.{mem_keep, keep_mem}
use Rattle.search_theory.proofs.Add.{distinct_add, keep_add}
use Rattle.search_theory.proofs.Loops.{level_ind}
use Rattle.search_theory.proofs.Sound.{legal_extend, upto_legal}

module _ (P : Problem) (S : Steady P) where
  open P use {Step, size, n}
  open S use {grows}

  -- the size grows along a sequence, by one for each step at least
  pub longer : (ys : List Step) (u : St P) → Legal P u → Allowed P u.key ys → length ys + size u.key ≤ size (after P u.key ys)
  unfolding after extend
  longer [] u g a = omega arith
  longer (p ∷ ys) u g a = omega (arith, grows u g p a.0 a.1, longer ys (extend P u p) (legal_extend P u g p a.0 a.1) a.2)

  -- ---- the keys are different

  -- at each level
  pub upto_distinct : (i : ℕ) → Distinct (keys P (upto P i))
  unfolding upto
  upto_distinct zero = (λ m. Memᴰ.not-nil m, tt)
  upto_distinct (suc i) = level_ind P (λ l. Distinct (keys P l)) i (upto P i) (λ q _ _ p _ _ l d. distinct_add P S _ l d) (upto_distinct i)

  -- and at the end
  pub distinct : Distinct (keys P (run P))
  unfolding run
  distinct = upto_distinct _

  -- so two states of one list with one key are one
  pub one_key : (l : List (St P)) → Distinct (keys P l) → (t u : St P) → Memᴰ t l → Memᴰ u l → t.key ≡ u.key → t ≡ u
  one_key [] d t u m m' e = absurd (Memᴰ.not-nil m)
  one_key (x ∷ l) d t u m m' e = go (Memᴰ.cases_cons m) (Memᴰ.cases_cons m') (one_key l d.1 t u)
    where
      go : (t ≡ x) ⊎ Memᴰ t l → (u ≡ x) ⊎ Memᴰ u l → (Memᴰ t l → Memᴰ u l → t.key ≡ u.key → t ≡ u) → t ≡ u
      go (inl p) (inl q) r = p ∙ sym q
      go (inl p) (inr q) r = absurd (d.0 (Memᴰ.cast (ap (λ (z : St P). z.key) (sym p) ∙ e) (Memᴰ.map (λ (s : St P). s.key) q)))
      go (inr p) (inl q) r = absurd (d.0 (Memᴰ.cast (ap (λ (z : St P). z.key) (sym q) ∙ sym e) (Memᴰ.map (λ (s : St P). s.key) p)))
      go (inr p) (inr q) r = r p q e

  -- ---- the states of the sets 0 to i are settled when level i begins, in their order

  upto_keep : (f : ℕ → Bool) (i : ℕ) → ((m : ℕ) → i < m → f m ≡ false) → (j : ℕ) → i ≤ j → keep (λ s. f (size s.key)) (upto P j) ≡ keep (λ s. f (size s.key)) (upto P i)
  unfolding upto extend
  upto_keep f i no-f =
      climb (λ j. keep (λ s. f (size s.key)) (upto P j) ≡ keep (λ s. f (size s.key)) (upto P i)) refl
      (λ j h e. level_ind P (λ l. keep (λ s. f (size s.key)) l ≡ keep (λ s. f (size s.key)) (upto P i)) j (upto P j)
      (λ q m z p o y l k. keep_add P S f (extend P q p) (no-f _ (le_trans (suc-le-suc (le_trans h (le_of_eq (sym z)))) (grows q (upto_legal P j q m) p o y))) l ∙ k) e)

  -- the sets 0 to i together
  pub upto_small : (i j : ℕ) → i ≤ j → small P i (upto P j) ≡ small P i (upto P i)
  upto_small i = upto_keep (λ m. leb m i) i (λ m h. lt-leb m i h)

  -- set i alone
  pub upto_set : (i j : ℕ) → i ≤ j → set_of P i (upto P j) ≡ set_of P i (upto P i)
  unfolding set_of
  upto_set i = upto_keep (λ m. eqb m i) i (λ m h. ne_eqb m i (λ e. lt_irrefl i (subst (λ (x : ℕ). i < x) e h)))

  -- as the search comes to set i, it is what it is at the end
  pub set_settled : (i : ℕ) → i ≤ n → set_of P i (run P) ≡ set_of P i (upto P i)
  unfolding run
  set_settled i h = upto_set i n h

  -- and so are the sets 0 to i, as it comes to set i and as it leaves it
  pub small_settled : (i : ℕ) → i < n → (small P i (run P) ≡ small P i (upto P i)) × (small P i (run P) ≡ small P i (upto P (suc i)))
  unfolding run
  small_settled i h = (upto_small i n (omega arith), upto_small i n (omega arith) ∙ sym (upto_small i (suc i) (le-suc i)))

  -- a state of the sets 0 to i was there when level i began
  pub settled : (i j : ℕ) → i ≤ j → (t : St P) → size t.key ≤ i → Memᴰ t (upto P j) → Memᴰ t (upto P i)
  settled i j h t k m =
      let f : St P → Bool = λ s. leb (size s.key) i in
      (keep_mem f (upto P i) (subst (Memᴰ t) (upto_small i j h) (mem_keep f (upto P j) m (le-leb _ i k)))).0
