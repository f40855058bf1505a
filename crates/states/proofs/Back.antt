-- The ways of the store that the search keeps.
use mathlib.Core.Path.{◌≡◌, sym, ◌∙◌, ap, subst}
use mathlib.Core.Logic.{⊎_elim}
use mathlib.Core.List.{List}
use Prim.Native.Nat.{ℕ, ◌<◌, ◌≤◌}
use native.Mathlib.Omega.{arith}
use lib.IntN.{ℤ}
use lib.ListN.{length, get_or}
use Rattle.laws.proofs.Lists.{get_d_mem}
use Rattle.search_theory.specs.Search.{first, upto}
use Rattle.search_theory.specs.Statements.{Legal, after}
use Rattle.search_theory.proofs.Sets.{longer}
use Rattle.search_theory.proofs.Sound.{legal_first, upto_legal}
use Rattle.meaning.specs.Book.{Book}
use Rattle.meaning.specs.Direction.{word_count}
use Rattle.meaning.specs.State.{Hyp, start, words_covered}
use Rattle.meaning.specs.Search.{search}
use Rattle.meaning.proofs.Cover.{none_covered}
use Rattle.meaning.proofs.Instance.{steady}
use Rattle.store.specs.Store.{place_at}
use Rattle.ways.specs.Back.{nobody, Chains}
use Rattle.ways.specs.Ties.{Walked}
use Rattle.states.specs.Ghost.{Held, Starting}
use Rattle.states.proofs.Showing.{size_small}

module _ (book : Book) (direction : List ℕ) (width : ℤ) where
  pub held_chains : {i : ℕ} {st : List ℤ} {l : List Hyp} → Held book direction width i st l → Chains st l
  unfolding first
  held_chains H =
      record {
        room = H.room;
        root = ap (λ (s : Hyp). s.steps) H.traced.root;
        links = λ j p h. ⊎_elim (λ (z : j ≡ 0). absurd (omega arith))
            (λ v. record { inside = v.inside; step_in = H.steps_in j p h; steps_are = v.steps_are }) (H.traced.links j h);
      }

  -- the words that a place covers are those of its state
  pub held_size : {i : ℕ} {st : List ℤ} {l : List Hyp} → Held book direction width i st l → (c : ℕ) → c < length l → (place_at st c).size ≡ words_covered (get_or l c nobody).key
  held_size H c h = (H.each c h).size_is ∙ ap words_covered (H.each c h).key_is

  -- the same steps lead to the same key
  pub held_key : {i : ℕ} {st : List ℤ} {l : List Hyp} → Held book direction width i st l → (c : ℕ) → c < length l → (s : Hyp) → Legal (search book direction width) s → (get_or l c nobody).steps ≡ s.steps
      → (get_or l c nobody).key ≡ s.key
  held_key H c h s g e = (H.legal c h).key_is ∙ ap (after (search book direction width) (start (word_count direction))) e ∙ sym g.key_is

  pub held_walked : {i : ℕ} {st : List ℤ} {l : List Hyp} → Held book direction width i st l → 0 < length l → Walked st l
  unfolding first words_covered start
  held_walked {i} {st} {l} H some =
      record {
        chains = held_chains H;
        none_covered = held_size H 0 some ∙ ap (λ (s : Hyp). words_covered s.key) H.traced.root ∙ none_covered (word_count direction);
        smaller = λ c p h. ⊎_elim (λ (z : c ≡ 0). absurd (omega arith))
            (λ v.
            let s : words_covered (get_or l (place_at st c).parent nobody).key < words_covered (get_or l c nobody).key = v.smaller in
            omega (arith, held_size H c h, held_size H (place_at st c).parent v.inside))
            (H.traced.links c h);
        apart = λ c d hc hd e. H.apart c d hc hd (held_key H c hc (get_or l d nobody) (H.legal d hd) e);
      }

  pub start_chains : {i : ℕ} {st : List ℤ} {count : ℕ} → Starting book direction width i st count → Chains st (upto (search book direction width) i)
  start_chains B = held_chains B.held

  -- a derivation has at most as many steps as words
  pub start_short : {i : ℕ} {st : List ℤ} {count : ℕ} → Starting book direction width i st count → (k : ℕ) → k < count
      → length (get_or (upto (search book direction width) i) k nobody).steps ≤ word_count direction
  unfolding first start
  start_short {i} {st} B k h =
      let hk : k < length (upto (search book direction width) i) = omega (arith, B.long) in
      let g = upto_legal (search book direction width) i (get_or (upto (search book direction width) i) k nobody) (get_d_mem (upto (search book direction width) i) k nobody hk) in
      let w = B.held.each k hk in
      let a = longer (search book direction width) (steady book direction width) (get_or (upto (search book direction width) i) k nobody).steps (first (search book direction width)) (legal_first (search book direction width)) g.allowed in
      let b : words_covered (get_or (upto (search book direction width) i) k nobody).key ≤ word_count direction = subst (λ (z : ℕ). z ≤ word_count direction) (ap words_covered w.key_is) (size_small (word_count direction) (place_at st k).state) in
      omega (arith, a, ap words_covered g.key_is)
