-- The states that the transitions can reach, by `may_extend` and `next_key` alone: with any width each state entered is one of them, since it was
-- entered by such steps; with pruning off the search follows every sequence of such steps, so it enters them all. Question 13 by them.
use Prim.Native.Nat.{ℕ, ◌/◌, ◌≤◌, ◌<◌}
use native.Mathlib.Nat.{le_trans, le_of_eq, le_antisymm}
use mathlib.Core.Path.{◌≡◌, refl, sym, ◌∙◌, ap, subst}
use mathlib.Core.List.Memᴰ
use mathlib.Core.List.{List, [], ◌∷◌, ◌++◌, map, Memᴰ}
use lib.IntN.{ℤ, negsuc}
use lib.ListN.{length, length-map}
use Rattle.laws.specs.Lists.{Distinct}
use Rattle.laws.proofs.Lists.{pigeon}
use Rattle.search_theory.specs.Search.{Problem}
use Rattle.search_theory.specs.Statements.{after, Allowed, Reachable}
use Rattle.search_theory.proofs.Sound.{after_append, allowed_append}
use Rattle.search_theory.proofs.Theorems as Theory
use Rattle.meaning.specs.Book.{Book, book_of}
use Rattle.meaning.specs.Direction.{word_count}
use Rattle.meaning.specs.State.{Key, Hyp, start, may_extend, next_key, Reaches, at_start, by_step, AreReachable}
use Rattle.meaning.specs.Search.{search, entered}
use Rattle.meaning.specs.Reply.{refused, Lent, before_search, decode}
use Rattle.meaning.specs.declared.Step.{Step}
use Rattle.meaning.proofs.Steps.{fits_listed}
use Rattle.meaning.proofs.Instance.{may_fits, steady, ranked, off_unpruned}
use Rattle.meaning.proofs.Answers.{legal, entered_different}
use Rattle.meaning.proofs.Demands.{decode_full, never_full}

-- the keys of the states entered
abbrev pub keys_entered : Book → List ℕ → ℤ → List Key
keys_entered book direction width = map (λ (q : Hyp). q.key) (entered book direction width)

module _ (book : Book) (direction : List ℕ) (width : ℤ) where
  abbrev P : Problem
  P = search book direction width

  -- ════ what can be reached is what a sequence of steps leads to that the search may follow

  followed : (k : Key) (ys : List Step) → Reaches book direction k → Allowed P k ys → Reaches book direction (after P k ys)
  unfolding after
  followed k [] r a = r
  followed k (s ∷ ss) r a = followed (next_key book k s) ss (by_step k s r a.1) a.2

  sequence : (k : Key) → Reaches book direction k → Reachable P k
  unfolding after
  sequence k at_start = ([], tt, refl)
  sequence k (by_step k' step r y) =
      let t = sequence k' r in
      let z : Key = start (word_count direction) in (
        t.0 ++ (step ∷ []),
        allowed_append P z t.0 (step ∷ []) t.1 (fits_listed book direction step (may_fits book direction k' step y), ap (λ (j : Key). may_extend book direction j step) t.2 ∙ y, tt),
        after_append P z t.0 (step ∷ []) ∙ ap (λ (j : Key). next_key book j step) t.2,
      )

  -- ════ the states entered, with any width

  -- each can be reached
  pub entered_reached : (k : Key) → Memᴰ k (keys_entered book direction width) → Reaches book direction k
  entered_reached k m =
      let o = Memᴰ.of_map (λ (q : Hyp). q.key) (entered book direction width) m in
      let g = legal book direction width o.0 o.1 in
      subst (Reaches book direction) (sym g.key_is ∙ o.2) (followed (start (word_count direction)) o.0.steps at_start g.allowed)

  -- so they are no more than those that can be reached
  pub entered_few : (ks : List Key) → ((k : Key) → Reaches book direction k → Memᴰ k ks) → length (entered book direction width) ≤ length ks
  entered_few ks f =
      le_trans (le_of_eq (sym (length-map (entered book direction width) (λ (q : Hyp). q.key))))
      (pigeon (keys_entered book direction width) ks (entered_different book direction width) (λ k m. f k (entered_reached k m)))

-- ════ the states entered, with pruning off

module _ (book : Book) (direction : List ℕ) where
  -- "With pruning off these are the states entered."
  pub entered_all : AreReachable book direction (keys_entered book direction (negsuc 0))
  unfolding entered
  entered_all =
      record {
        different = entered_different book direction (negsuc 0);
        are_reached = entered_reached book direction (negsuc 0);
        all_listed = λ k r. (Theory.reached (search book direction (negsuc 0)) (steady book direction (negsuc 0)) (ranked book direction (negsuc 0)) (off_unpruned book direction) k).1 (sequence book direction (negsuc 0) k r);
      }

  -- different states that can be reached are no more than the states entered
  pub entered_many : (ks : List Key) → Distinct ks → ((k : Key) → Memᴰ k ks → Reaches book direction k) → length ks ≤ length (entered book direction (negsuc 0))
  entered_many ks d f =
      le_trans (pigeon ks (keys_entered book direction (negsuc 0)) d (λ k m. entered_all.all_listed k (f k m)))
      (le_of_eq (length-map (entered book direction (negsuc 0)) (λ (q : Hyp). q.key)))

  -- "equal ones counted once"
  pub entered_counted : (ks : List Key) → AreReachable book direction ks → length (entered book direction (negsuc 0)) ≡ length ks
  entered_counted ks r = le_antisymm (entered_few book direction (negsuc 0) ks r.all_listed) (entered_many ks r.different r.are_reached)

-- ════ question 13

module _ (loaded : List ℤ) (direction : List ℕ) where
  -- with any width: a store with a place for each state that can be reached never gives 13
  pub never_13 : (width : ℤ) (lent : Lent) (ks : List Key) → ((k : Key) → Reaches (book_of loaded) direction k → Memᴰ k ks) → length ks ≤ lent.store / 8
      → decode loaded direction width lent ≡ refused 13 → ⊥
  never_13 width lent ks f h = never_full loaded direction width lent (le_trans (entered_few (book_of loaded) direction width ks f) h)

  -- with pruning off: a store with fewer places than states that can be reached gives 13, once the questions before it pass
  pub always_13 : (lent : Lent) (ks : List Key) → Distinct ks → ((k : Key) → Memᴰ k ks → Reaches (book_of loaded) direction k) → lent.store / 8 < length ks
      → before_search loaded direction (negsuc 0) lent ≡ 0 → decode loaded direction (negsuc 0) lent ≡ refused 13
  always_13 lent ks d f h b = (decode_full loaded direction (negsuc 0) lent b).1 (le_trans h (entered_many (book_of loaded) direction ks d f))
