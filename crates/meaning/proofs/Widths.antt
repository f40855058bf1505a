-- A width of twice the score bound, 1,620,480,000, or more prunes nothing.
use Prim.Native.Nat.{ℕ, ◌≤◌}
use native.Mathlib.Omega.{arith}
use mathlib.Core.Path.{◌≡◌, refl, sym, ap, subst}
use mathlib.Core.List.Memᴰ
use mathlib.Core.List.{List, [], ◌∷◌, map, Memᴰ}
use lib.IntN.{ℤ, pos, negsuc}
use lib.ListN.{length}
use Rattle.laws.specs.Integers.{Within}
use Rattle.laws.proofs.Bounds.{within_mono}
use Rattle.laws.proofs.Linear.{signed, dif}
use Rattle.laws.proofs.Lists.{get_d_mem, count_le}
use Rattle.laws.proofs.Sums.{max_within}
use Rattle.search_theory.specs.Search.{set_of, upto}
use Rattle.search_theory.specs.Statements.{Legal, Unpruned}
use Rattle.search_theory.proofs.Sound.{set_mem, upto_legal}
use Rattle.search_theory.proofs.Theorems as Theory
use Rattle.meaning.specs.Book.{Book}
use Rattle.meaning.specs.Direction.{word_count}
use Rattle.meaning.specs.State.{Hyp, words_covered, score_bound, spread_bound}
use Rattle.meaning.specs.Search.{best_score, is_within, search, entered, last_set, answer}
use Rattle.meaning.proofs.Ranges.{Ranged}
use Rattle.meaning.proofs.Instance.{legal_length, score_within, off_unpruned}

-- the best score of a set is within the bound of its scores
best_within : (B : ℕ) (set : List Hyp) → ((q : Hyp) → Memᴰ q set → Within B q.score) → Within B (best_score set)
best_within B [] each = omega arith
best_within B (q ∷ qs) each =
    max_within B q.score (map (λ (s : Hyp). s.score) qs) (each q (Memᴰ.head refl))
    (record {
      at = λ i l.
          let o = Memᴰ.of_map (λ (s : Hyp). s.score) qs (get_d_mem (map (λ (s : Hyp). s.score) qs) i (pos 0) l) in
          subst (Within B) o.2 (each o.0 (Memᴰ.tail o.1));
    })

module _ (book : Book) (direction : List ℕ) (R : Ranged book) (n32 : word_count direction ≤ 32) where
  -- no score of a legal state passes the bound
  legal_bound : (width : ℤ) (q : Hyp) → Legal (search book direction width) q → Within score_bound q.score
  unfolding words_covered
  legal_bound width q g =
      let n : length q.key.covered ≡ word_count direction = legal_length book direction width q g in
      let c = count_le (λ bit. bit) q.key.covered in
      within_mono (omega arith) (score_within book direction width R q g)

  module _ (β : ℕ) (wide : spread_bound ≤ β) where
    wide_unpruned : Unpruned (search book direction (pos β))
    unfolding Unpruned is_within
    wide_unpruned = λ i h q m.
        let set = set_of (search book direction (pos β)) i (upto (search book direction (pos β)) i) in
        let each : (s : Hyp) → Memᴰ s (set_of (search book direction (pos β)) i (upto (search book direction (pos β)) i)) → Within score_bound s.score =
        (λ s k. legal_bound (pos β) s (upto_legal (search book direction (pos β)) i s (set_mem (search book direction (pos β)) i _ k).0)) in
        let b : Within score_bound (best_score (set_of (search book direction (pos β)) i (upto (search book direction (pos β)) i))) = best_within score_bound _ each in
        let s : Within score_bound q.score = each q m in
        omega (arith, signed, dif (best_score (set_of (search book direction (pos β)) i (upto (search book direction (pos β)) i))) (pos β))

    -- so the states entered, the last set and the answer are those with pruning off
    pub wide_entered : entered book direction (pos β) ≡ entered book direction (negsuc 0)
    unfolding entered
    wide_entered = sym (Theory.same_run (search book direction (negsuc 0)) (is_within (pos β)) (off_unpruned book direction) wide_unpruned)

    pub wide_answer : answer book direction (pos β) ≡ answer book direction (negsuc 0)
    unfolding answer
    wide_answer = sym (Theory.same_best (search book direction (negsuc 0)) (is_within (pos β)) (off_unpruned book direction) wide_unpruned)

    pub wide_last : last_set book direction (pos β) ≡ last_set book direction (negsuc 0)
    unfolding last_set set_of
    wide_last = ap (λ (l : List Hyp). set_of (search book direction (negsuc 0)) (word_count direction) l) wide_entered
