-- What the search's loops do, record by record: each turn takes one record of specs/Ghost to the next. All that is said of lists is here, so that the code's proofs
-- speak of records only.
use mathlib.Core.Path.{◌≡◌, refl, sym, ◌∙◌, ap, ap₂, subst, subst₂}
use mathlib.Core.Bool.{Bool, true, false, cond, true≢false}
use mathlib.Core.List.{List, [], ◌∷◌, ◌++◌, map, Memᴰ}
use mathlib.Core.Option.{none}
use Prim.Native.Nat.{ℕ, suc, ◌+◌, ◌*◌, ◌/◌, ◌^◌, ◌<◌, ◌≤◌}
use native.Mathlib.Nat.{le_of_eq}
use native.Mathlib.Numerals.{add-one}
use native.Mathlib.Decide.{ℕ_discrete}
use native.Mathlib.Omega.{arith}
use lib.Dec.{eqb}
use lib.IntN.{ℤ, ◌+ℤ◌}
use lib.Pow.{pow_pos}
use lib.Signed.{lt_z}
use lib.ListN.{length, get_or, set, length-append, length-set, get_or-append}
use lib.Seq.{get_or-set_same, get_or-set_other, get_or-append_seam}
use Rattle.std.specs.Prelude.{Option, Result, Ok, Err}
use Rattle.laws.specs.Integers.{Within}
use Rattle.laws.specs.Lists.{larger, max_from}
use Rattle.laws.proofs.Bounds.{within_mono}
use Rattle.laws.proofs.Lists.{get_d_mem, count_le, keep_mem}
use Rattle.laws.proofs.Tests.{if_ind, is_false}
use Rattle.search_theory.specs.Search.{Problem, first, extend, add, set_of, upto, run, best}
use Rattle.search_theory.specs.Loops.{pick}
use Rattle.search_theory.specs.Statements.{Legal, Steady, InGrow, Traced}
use Rattle.search_theory.proofs.Array.{add_hit, add_miss, kept_at, kept_long, level_begin, level_end, level_skip, visit_other, visit_drop, grow_begin, grow_done, option_skip, option_take, option_rest, overflow}
use Rattle.search_theory.proofs.Longer.{upto_longer}
use Rattle.search_theory.proofs.Loops.{best_pick}
use Rattle.search_theory.proofs.Sound.{legal_first, legal_extend, upto_legal}
use Rattle.search_theory.proofs.Trace.{traced_begin, traced_on, traced_set, traced_append}
use Rattle.meaning.specs.Book.{Book}
use Rattle.meaning.specs.Direction.{word_count}
use Rattle.meaning.specs.State.{Key, Hyp, words_covered, is_equal, may_extend, next_key, gain, is_better, gain_bound, score_bound, start, key_of, IsStart}
use Rattle.meaning.specs.Search.{fitting_steps, best_score, is_within, search}
use Rattle.meaning.proofs.Cover.{none_covered}
use Rattle.meaning.proofs.Instance.{legal_length, steady, score_within}
use Rattle.meaning.proofs.Ranges.{Ranged}
use Rattle.store.specs.Store.{place_at, is_same, Unseen, Put, Indexed, Storable}
use Rattle.states.specs.Adding.{Met, AddedOf, IndexedAfter}
use Rattle.meaning.specs.Derivation.{no_step}
use Rattle.meaning.specs.declared.Step.{Step}
use Rattle.ways.specs.Back.{nobody}
use Rattle.ways.specs.Codes.{step_of, codes}
use Rattle.ways.specs.Ties.{Walked, Beside}
use Rattle.states.specs.Order.{Walks, Leading}
use Rattle.states.specs.Shows.{Shows, Lists}
use Rattle.states.specs.Ghost.{in_width, option_at, Held, Starting, Levelling, Growing, Chosen, top_of, After, NextPlace}
use Rattle.states.specs.Answer.{sized, no_close, picked}
use Rattle.store.specs.declared.Place.{Place}
use Rattle.states.specs.declared.Added.{Added}
use Rattle.states.specs.declared.Added.TheVariants.{Replaced, Kept, Appended}
use Rattle.states.specs.declared.Full.{Full}
use Rattle.states.proofs.Showing.{same_place, storable, start_covered}
use Rattle.states.proofs.Back.{held_size, held_key, held_walked}
use Rattle.states.proofs.Testing.{tested_is, leading_beside}

-- the best score is one of the scores, or 0
max_small : {B : ℕ} (t : ℤ) (l : List Hyp) → Within B t → ((s : Hyp) → Memᴰ s l → Within B s.score) → Within B (max_from t (map (λ s. s.score) l))
max_small t [] h f = h
max_small {B} t (q ∷ qs) h f =
    max_small (larger t q.score) qs
    (if_ind (lt_z t q.score) (Within B) (λ _. f q (Memᴰ.head refl)) (λ _. h))
    (λ s m. f s (Memᴰ.tail m))

best_small : {B : ℕ} (l : List Hyp) → ((s : Hyp) → Memᴰ s l → Within B s.score) → Within B (best_score l)
best_small [] f = omega arith
best_small (q ∷ qs) f = max_small q.score qs (f q (Memᴰ.head refl)) (λ s m. f s (Memᴰ.tail m))

module _ (book : Book) (direction : List ℕ) (width : ℤ) where
  abbrev P : Problem
  P = search book direction width

  abbrev n : ℕ
  n = word_count direction

  S : Steady P
  S = steady book direction width

  -- ════ one state more, or another in an equal one's place: y is to show s
  module _ (i : ℕ) (st st' : List ℤ) (l : List Hyp) (H : Held book direction width i st l) (y : Place) (s : Hyp) (W : Shows n y s) (g : Legal P s) where
    -- the code's test of a place is the search's
    pub same_at : (k : ℕ) → k < length l → is_same (place_at st k).state y.state ≡ is_equal (get_or l k nobody).key s.key
    same_at k h =
        same_place n (place_at st k).state y.state (H.each k h).fine W.fine
        ∙ ap (λ (x : Key). is_equal x (key_of n y.state)) (H.each k h).key_is
        ∙ ap (is_equal (get_or l k nobody).key) W.key_is

    pub held_set : (m : ℕ) → m < length l → (get_or l m nobody).key ≡ s.key → Put st st' m y → y.step < codes
        → Traced P i (set l m s) (λ k. (place_at st' k).parent) (λ k. step_of (place_at st' k).step) nobody → Held book direction width i st' (set l m s)
    held_set m h e u o T =
        let a : length (set l m s) ≡ length l = length-set l m s in
        record {
          room = omega (arith, u.long, H.room);
          each = λ k z. at k (omega arith) (ℕ_discrete k m);
          apart = λ j k hj hk q. H.apart j k (omega arith) (omega arith) (sym (key_at j (ℕ_discrete j m)) ∙ q ∙ key_at k (ℕ_discrete k m));
          steps_in = λ k z w. in_range k z (omega arith) (ℕ_discrete k m);
          legal = λ k z. legal_at k (omega arith) (ℕ_discrete k m);
          traced = T;
        }
      where
        at : (k : ℕ) → k < length l → Dec (k ≡ m) → Shows n (place_at st' k) (get_or (set l m s) k nobody)
        at k z (yes q) =
            subst (λ (x : ℕ). Shows n (place_at st' x) (get_or (set l m s) x nobody)) (sym q)
            (subst₂ (Shows n) (sym u.at) (sym (get_or-set_same l m s nobody h)) W)
        at k z (no q) = subst₂ (Shows n) (sym (u.other k q)) (sym (get_or-set_other l m k s nobody q)) (H.each k z)

        legal_at : (k : ℕ) → k < length l → Dec (k ≡ m) → Legal P (get_or (set l m s) k nobody)
        legal_at k z (yes q) = subst (Legal P) (sym (ap (λ (x : ℕ). get_or (set l m s) x nobody) q ∙ get_or-set_same l m s nobody h)) g
        legal_at k z (no q) = subst (Legal P) (sym (get_or-set_other l m k s nobody q)) (H.legal k z)

        in_range : (k : ℕ) → 0 < k → k < length l → Dec (k ≡ m) → (place_at st' k).step < codes
        in_range k z w (yes q) = subst (λ (x : Place). x.step < codes) (sym (ap (place_at st') q ∙ u.at)) o
        in_range k z w (no q) = subst (λ (x : Place). x.step < codes) (sym (u.other k q)) (H.steps_in k z w)

        key_at : (k : ℕ) → Dec (k ≡ m) → (get_or (set l m s) k nobody).key ≡ (get_or l k nobody).key
        key_at k (yes q) =
            subst (λ (x : ℕ). (get_or (set l m s) x nobody).key ≡ (get_or l x nobody).key) (sym q)
            (ap (λ (z : Hyp). z.key) (get_or-set_same l m s nobody h) ∙ sym e)
        key_at k (no q) = ap (λ (z : Hyp). z.key) (get_or-set_other l m k s nobody q)

    pub held_append : ((k : ℕ) → k < length l → is_equal (get_or l k nobody).key s.key ≡ false) → 8 * length l + 8 ≤ length st → Put st st' (length l) y
        → y.step < codes
        → Traced P i (l ++ (s ∷ [])) (λ k. (place_at st' k).parent) (λ k. step_of (place_at st' k).step) nobody → Held book direction width i st' (l ++ (s ∷ []))
    held_append f r u o T =
        let a : length (l ++ (s ∷ [])) ≡ length l + 1 = length-append l (s ∷ []) in
        record {
          room = omega (arith, u.long);
          each = λ k z. at k (omega arith) (ℕ_discrete k (length l));
          apart = λ j k hj hk q. two j k (omega arith) (omega arith) (ℕ_discrete j (length l)) (ℕ_discrete k (length l)) q;
          steps_in = λ k z w. in_range k z (omega arith) (ℕ_discrete k (length l));
          legal = λ k z. legal_at k (omega arith) (ℕ_discrete k (length l));
          traced = T;
        }
      where
        old : (k : ℕ) → k < length l → get_or (l ++ (s ∷ [])) k nobody ≡ get_or l k nobody
        old k z = get_or-append l (s ∷ []) nobody k z

        new : get_or (l ++ (s ∷ [])) (length l) nobody ≡ s
        new = get_or-append_seam l s [] nobody

        at : (k : ℕ) → k < length l + 1 → Dec (k ≡ length l) → Shows n (place_at st' k) (get_or (l ++ (s ∷ [])) k nobody)
        at k z (yes q) = subst (λ (x : ℕ). Shows n (place_at st' x) (get_or (l ++ (s ∷ [])) x nobody)) (sym q) (subst₂ (Shows n) (sym u.at) (sym new) W)
        at k z (no q) = let lt : k < length l = omega arith in subst₂ (Shows n) (sym (u.other k q)) (sym (old k lt)) (H.each k lt)

        legal_at : (k : ℕ) → k < length l + 1 → Dec (k ≡ length l) → Legal P (get_or (l ++ (s ∷ [])) k nobody)
        legal_at k z (yes q) = subst (Legal P) (sym (ap (λ (x : ℕ). get_or (l ++ (s ∷ [])) x nobody) q ∙ new)) g
        legal_at k z (no q) = let lt : k < length l = omega arith in subst (Legal P) (sym (old k lt)) (H.legal k lt)

        in_range : (k : ℕ) → 0 < k → k < length l + 1 → Dec (k ≡ length l) → (place_at st' k).step < codes
        in_range k z w (yes q) = subst (λ (x : Place). x.step < codes) (sym (ap (place_at st') q ∙ u.at)) o
        in_range k z w (no q) = subst (λ (x : Place). x.step < codes) (sym (u.other k q)) (H.steps_in k z (omega arith))

        clash : (k : ℕ) → k < length l → (get_or l k nobody).key ≡ s.key → ⊥
        clash k z q = true≢false (sym (subst (λ (x : Key). is_equal (get_or l k nobody).key x ≡ true) q (S.same_refl (get_or l k nobody).key)) ∙ f k z)

        two : (j k : ℕ) → j < length l + 1 → k < length l + 1 → Dec (j ≡ length l) → Dec (k ≡ length l)
            → (get_or (l ++ (s ∷ [])) j nobody).key ≡ (get_or (l ++ (s ∷ [])) k nobody).key → j ≡ k
        two j k hj hk (yes a) (yes b) q = a ∙ sym b
        two j k hj hk (yes a) (no b) q =
            let lt : k < length l = omega arith in
            absurd (clash k lt (ap (λ (z : Hyp). z.key) (sym (old k lt)) ∙ sym q ∙ ap (λ (x : ℕ). (get_or (l ++ (s ∷ [])) x nobody).key) a ∙ ap (λ (z : Hyp). z.key) new))
        two j k hj hk (no a) (yes b) q =
            let lt : j < length l = omega arith in
            absurd (clash j lt (ap (λ (z : Hyp). z.key) (sym (old j lt)) ∙ q ∙ ap (λ (x : ℕ). (get_or (l ++ (s ∷ [])) x nobody).key) b ∙ ap (λ (z : Hyp). z.key) new))
        two j k hj hk (no a) (no b) q =
            let lj : j < length l = omega arith in
            let lk : k < length l = omega arith in
            H.apart j k lj lk (ap (λ (z : Hyp). z.key) (sym (old j lj)) ∙ q ∙ ap (λ (z : Hyp). z.key) (old k lk))

    -- what the search for an equal state found is what `add` does
    pub add_at : s.steps ≡ (get_or l y.parent nobody).steps ++ (step_of y.step ∷ []) → (k : ℕ) → k < length l → {b : Bool} → Met st (length l) y k b → Beside st l y.parent y.step k
        → (add P s l ≡ cond b (set l k s) l) × ((get_or l k nobody).key ≡ s.key)
    add_at ss k h {b} M B =
        let hit : is_equal (get_or l k nobody).key s.key ≡ true = sym (same_at k h) ∙ M.same in
        let eq : (get_or l k nobody).key ≡ s.key = S.same_eq _ _ hit in
        let none : (m : ℕ) → m < k → is_equal (get_or l m nobody).key s.key ≡ false =
        λ m lt. is_false (λ q. let r : m ≡ k = H.apart m k (omega arith) h (S.same_eq _ _ q ∙ sym eq) in omega arith) in
        let sc : is_better s (get_or l k nobody) ≡ b =
        tested_is y (place_at st k).state k B M.test s (get_or l k nobody) W.score_is (H.each k h).score_is ss refl in
        (add_hit P s nobody l k h none hit ∙ ap (λ (c : Bool). cond c (set l k s) l) sc, eq)

    pub add_new : Unseen st (length l) y.state → ((k : ℕ) → k < length l → is_equal (get_or l k nobody).key s.key ≡ false) × (add P s l ≡ l ++ (s ∷ []))
    add_new f =
        let g : (k : ℕ) → k < length l → is_equal (get_or l k nobody).key s.key ≡ false = λ k h. sym (same_at k h) ∙ f k h in
        (g, add_miss P s nobody l g)

  -- ════ one option of a place
  module _ {i j : ℕ} {x : Place} (A : Chosen book direction width i j x) {o : ℕ} (ho : o < length (fitting_steps book direction)) {st : List ℤ} {count : ℕ} (G : Growing book direction width i j o st count) where
    abbrev q : Hyp
    q = get_or (upto P i) j nobody

    legal : Legal P q
    legal = upto_legal P i q (get_d_mem (upto P i) j nobody A.inside)

    size_q : words_covered q.key ≡ i
    size_q = ap words_covered (sym A.shown.key_is) ∙ sym A.shown.size_is ∙ A.sized

    -- the store still has it
    now_q : get_or G.list j nobody ≡ q
    now_q = (kept_at P i (upto P i) G.list G.grow.kept j nobody A.inside).1 (le_of_eq size_q)

    may_q : {b : Bool} → may_extend book direction (key_of n x.state) (option_at book direction o) ≡ b → may_extend book direction q.key (option_at book direction o) ≡ b
    may_q e = ap (λ (k : Key). may_extend book direction k (option_at book direction o)) (sym A.shown.key_is) ∙ e

    -- the option may not extend it
    pub skipped : may_extend book direction (key_of n x.state) (option_at book direction o) ≡ false → Growing book direction width i j (o + 1) st count
    skipped e =
        record {
          list = G.list;
          long = G.long;
          index = G.index;
          held = G.held;
          grow = rw add-one (option_skip P i j q o no_step G.list ho (may_q e) G.grow);
        }

    -- it may, and y is the new state
    module _ (e : may_extend book direction (key_of n x.state) (option_at book direction o) ≡ true) {y : Place} (N : NextPlace book direction x j o y) where
      abbrev s : Hyp
      s = extend P q (option_at book direction o)

      shown_y : Shows n y s
      unfolding extend
      shown_y =
          record {
            key_is = N.key_is ∙ ap (λ (k : Key). next_key book k (option_at book direction o)) A.shown.key_is;
            score_is =
                N.score_is
                ∙ ap (λ (z : ℤ). z +ℤ gain book (key_of n x.state) (option_at book direction o)) A.shown.score_is
                ∙ ap (λ (k : Key). q.score +ℤ gain book k (option_at book direction o)) A.shown.key_is;
            size_is = N.size_is;
            fine = N.fine;
          }

      legal_s : Legal P s
      legal_s = legal_extend P q legal (option_at book direction o) (get_d_mem (fitting_steps book direction) o no_step ho) (may_q e)

      taken : InGrow P i j q (o + 1) (add P s G.list)
      taken = rw add-one (option_take P S i j q legal size_q o no_step G.list ho (may_q e) G.grow)

      step_in : y.step < codes
      step_in = N.step_in

      j_in : j < length G.list
      j_in = omega (arith, kept_long P i (upto P i) G.list G.grow.kept, A.inside)

      parent_in : y.parent < length G.list
      parent_in = subst (λ (z : ℕ). z < length G.list) (sym N.parent_is) j_in

      -- its steps, by what the store holds
      steps_y : s.steps ≡ (get_or G.list y.parent nobody).steps ++ (step_of y.step ∷ [])
      unfolding extend
      steps_y =
          ap (λ (z : Hyp). z.steps ++ (option_at book direction o ∷ [])) (sym now_q)
          ∙ ap₂ (λ (a : ℕ) (b : Step). (get_or G.list a nobody).steps ++ (b ∷ [])) (sym N.parent_is) (sym N.step_is)

      size_j : words_covered (get_or G.list j nobody).key ≡ i
      size_j = ap (λ (z : Hyp). words_covered z.key) now_q ∙ size_q

      may_j : may_extend book direction (get_or G.list j nobody).key (option_at book direction o) ≡ true
      may_j = ap (λ (z : Hyp). may_extend book direction z.key (option_at book direction o)) now_q ∙ may_q e

      size_y : y.size ≡ words_covered s.key
      size_y = N.size_is ∙ ap words_covered shown_y.key_is

      -- what add_place asks
      pub leads : Leading st count y
      unfolding extend
      leads =
          let c = G.long in
          let p = parent_in in
          record {
            walks = record { list = G.list; long = G.long; walked = held_walked book direction width G.held (omega arith) };
            parent_in = omega arith;
            parent_below = (let h = held_size book direction width G.held y.parent parent_in in
                let z : words_covered (get_or G.list y.parent nobody).key ≡ i = ap (λ (m : ℕ). words_covered (get_or G.list m nobody).key) N.parent_is ∙ size_j in
                let g = S.grows q legal (option_at book direction o) (get_d_mem (fitting_steps book direction) o no_step ho) (may_q e) in
                omega (arith, size_q, size_y));
            same_steps = λ k h u. held_size book direction width G.held k (omega arith) ∙ ap words_covered (held_key book direction width G.held k (omega arith) s legal_s (u ∙ sym steps_y)) ∙ sym size_y;
            same_state = λ k h u.
                held_size book direction width G.held k (omega arith)
                ∙ ap words_covered (S.same_eq _ _ (sym (same_at i st st G.list G.held y s shown_y legal_s k (omega arith)) ∙ u)) ∙ sym size_y;
          }

      -- y is added
      module _ (st' : List ℤ) where
        -- the back pointers, in either case
        module _ (m : ℕ) (u : Put st st' m y) where
          via_m : step_of (place_at st' m).step ≡ option_at book direction o
          via_m = ap (λ (z : Place). step_of z.step) u.at ∙ N.step_is

          T-set : m < length G.list → (get_or G.list m nobody).key ≡ s.key → Traced P i (set G.list m s) (λ k. (place_at st' k).parent) (λ k. step_of (place_at st' k).step) nobody
          T-set h k =
              subst (λ (z : Hyp). Traced P i (set G.list m (extend P z (option_at book direction o))) (λ k. (place_at st' k).parent) (λ k. step_of (place_at st' k).step) nobody) now_q
              (traced_set P S i G.list (λ k. (place_at st k).parent) (λ k. (place_at st' k).parent) (λ k. step_of (place_at st k).step) (λ k. step_of (place_at st' k).step) nobody G.held.traced
              j (option_at book direction o) m j_in size_j (ap (λ (z : Place). z.parent) u.at ∙ N.parent_is) via_m
              (λ k n. ap (λ (z : Place). z.parent) (u.other k n)) (λ k n. ap (λ (z : Place). step_of z.step) (u.other k n))
              (subst (Legal P) (sym now_q) legal) (get_d_mem (fitting_steps book direction) o no_step ho) may_j
              h (k ∙ ap (λ (z : Hyp). (extend P z (option_at book direction o)).key) (sym now_q)))

          T-append : m ≡ length G.list → Traced P i (G.list ++ (s ∷ [])) (λ k. (place_at st' k).parent) (λ k. step_of (place_at st' k).step) nobody
          T-append h =
              subst (λ (z : Hyp). Traced P i (G.list ++ (extend P z (option_at book direction o) ∷ [])) (λ k. (place_at st' k).parent) (λ k. step_of (place_at st' k).step) nobody) now_q
              (traced_append P S i G.list (λ k. (place_at st k).parent) (λ k. (place_at st' k).parent) (λ k. step_of (place_at st k).step) (λ k. step_of (place_at st' k).step) nobody G.held.traced
              j (option_at book direction o) m j_in size_j (ap (λ (z : Place). z.parent) u.at ∙ N.parent_is) via_m
              (λ k n. ap (λ (z : Place). z.parent) (u.other k n)) (λ k n. ap (λ (z : Place). step_of z.step) (u.other k n))
              (subst (Legal P) (sym now_q) legal) (get_d_mem (fitting_steps book direction) o no_step ho) may_j h)

        -- each answer of add_place
        pub went : (r : Result Added Full) → AddedOf st st' count y r → IndexedAfter st' count r → After book direction width i j (o + 1) st' count r
        unfolding leads
        went (Ok Replaced) (k, M, u) J =
            let h : k < length G.list = omega (arith, M.inside, G.long) in
            let M' : Met st (length G.list) y k true = subst (λ (z : ℕ). Met st z y k true) (sym G.long) M in
            let a = add_at i st st' G.list G.held y s shown_y legal_s steps_y k h M' (leading_beside leads M.inside M.same) in
            record {
              list = set G.list k s;
              long = length-set G.list k s ∙ G.long;
              index = J;
              held = held_set i st st' G.list G.held y s shown_y legal_s k h a.1 u step_in (T-set k u h a.1);
              grow = subst (InGrow P i j q (o + 1)) a.0 taken;
            }
        went (Ok Kept) (k, M, u) J =
            let h : k < length G.list = omega (arith, M.inside, G.long) in
            let M' : Met st (length G.list) y k false = subst (λ (z : ℕ). Met st z y k false) (sym G.long) M in
            let a = add_at i st st' G.list G.held y s shown_y legal_s steps_y k h M' (leading_beside leads M.inside M.same) in
            record {
              list = G.list;
              long = G.long;
              index = J;
              held = subst (λ (z : List ℤ). Held book direction width i z G.list) (sym u) G.held;
              grow = subst (InGrow P i j q (o + 1)) a.0 taken;
            }
        went (Ok Appended) (f, r, u) J =
            let a = add_new i st st' G.list G.held y s shown_y legal_s (subst (λ (z : ℕ). Unseen st z y.state) (sym G.long) f) in
            let u' : Put st st' (length G.list) y = subst (λ (z : ℕ). Put st st' z y) (sym G.long) u in
            record {
              list = G.list ++ (s ∷ []);
              long = length-append G.list (s ∷ []) ∙ ap (λ (z : ℕ). z + 1) G.long;
              index = J;
              held = held_append i st st' G.list G.held y s shown_y legal_s a.0 (omega (arith, G.long)) u' step_in (T-append (length G.list) u' refl);
              grow = subst (InGrow P i j q (o + 1)) a.1 taken;
            }
        went (Err full) (f, r, u) J =
            let a = add_new i st st' G.list G.held y s shown_y legal_s (subst (λ (z : ℕ). Unseen st z y.state) (sym G.long) f) in
            subst (λ (z : List ℤ). length z / 8 < length (run P)) (sym u)
            (overflow P i j q s nobody (suc o) G.list (length st / 8) A.low
            (option_rest P i j q o no_step G.list ho (may_q e) G.grow)
            a.0 (omega (arith, G.long)))

  -- the score of the state that is extended
  pub chosen_score : Ranged book → {i j : ℕ} {x : Place} → Chosen book direction width i j x → Within (gain_bound * i) x.state.score
  chosen_score R {i} {j} {x} A =
      let s : Hyp = get_or (upto P i) j nobody in
      let z : words_covered s.key ≡ i = ap words_covered (sym A.shown.key_is) ∙ sym A.shown.size_is ∙ A.sized in
      subst₂ Within (ap (λ (m : ℕ). gain_bound * m) z) (sym A.shown.score_is)
      (score_within book direction width R s (upto_legal P i s (get_d_mem (upto P i) j nobody A.inside)))

  -- y can be stored
  pub next_storable : {x y : Place} {j o : ℕ} → NextPlace book direction x j o y → j < 2 ^ 63 → Storable y
  next_storable {y} N hj = storable n y N.size_is N.fine (subst (λ (z : ℕ). z < 2 ^ 63) (sym N.parent_is) hj) (let h = N.step_in in omega arith)

  -- ════ one place of a level
  module _ {i j : ℕ} {st : List ℤ} {count : ℕ} (L : Levelling book direction width i j st count) (inside : j < length (upto P i)) where
    in_list : j < length L.list
    in_list = omega (arith, kept_long P i (upto P i) L.list L.level.kept)

    pub here_inside : 8 * j + 8 ≤ length st
    here_inside = omega (arith, in_list, L.held.room)

    abbrev here : Hyp
    here = get_or L.list j nobody

    shown_here : Shows n (place_at st j) here
    shown_here = L.held.each j in_list

    size_here : (place_at st j).size ≡ words_covered here.key
    size_here = shown_here.size_is ∙ ap words_covered shown_here.key_is

    -- a state of another set
    pub passed : eqb (place_at st j).size i ≡ false → Levelling book direction width i (j + 1) st count
    passed e =
        record {
          list = L.list;
          long = L.long;
          index = L.index;
          held = L.held;
          level = rw add-one (level_skip P i j L.list nobody inside (visit_other P i (set_of P i (upto P i)) here L.list (ap (λ (z : ℕ). eqb z i) (sym size_here) ∙ e)) L.level);
        }

    within_here : is_within width (set_of P i (upto P i)) here ≡ in_width width (top_of book direction width i) (place_at st j).state.score
    unfolding is_within
    within_here = ap (in_width width (top_of book direction width i)) (sym shown_here.score_is)

    -- a state that the beam drops
    pub dropped : in_width width (top_of book direction width i) (place_at st j).state.score ≡ false → Levelling book direction width i (j + 1) st count
    dropped e =
        record {
          list = L.list;
          long = L.long;
          index = L.index;
          held = L.held;
          level = rw add-one (level_skip P i j L.list nobody inside (visit_drop P i (set_of P i (upto P i)) here L.list (within_here ∙ e)) L.level);
        }

    module _ (z : (place_at st j).size ≡ i) where
      same_here : here ≡ get_or (upto P i) j nobody
      same_here =
          let k = kept_at P i (upto P i) L.list L.level.kept j nobody inside in
          k.1 (le_of_eq (ap words_covered (sym k.0) ∙ sym size_here ∙ z))

      pub chosen : i < n → Chosen book direction width i j (place_at st j)
      chosen h = record { low = h; inside = inside; sized = z; shown = subst (Shows n (place_at st j)) same_here shown_here }

      pub begun : in_width width (top_of book direction width i) (place_at st j).state.score ≡ true → Growing book direction width i j 0 st count
      begun e =
          record {
            list = L.list;
            long = L.long;
            index = L.index;
            held = L.held;
            grow = subst (λ (q : Hyp). InGrow P i j q 0 L.list) same_here (grow_begin P i j L.list nobody inside (sym size_here ∙ z) (within_here ∙ e) L.level);
          }

    -- its score, for the beam's test
    pub here_score : Ranged book → n ≤ 32 → i < n → {x : Place} → x ≡ place_at st j → x.size ≡ i → Within score_bound x.state.score
    here_score R few h {x} e z =
        subst (λ (y : Place). Within score_bound y.state.score) (sym e)
        (within_mono (omega arith) (chosen_score R (chosen (ap (λ (y : Place). y.size) (sym e) ∙ z) h)))

    -- a state that is to be extended, as it was read
    pub ready : {x : Place} → x ≡ place_at st j → x.size ≡ i → in_width width (top_of book direction width i) x.state.score ≡ true → i < n
        → Chosen book direction width i j x × Growing book direction width i j 0 st count
    ready {x} e z k h =
        let z' : (place_at st j).size ≡ i = ap (λ (y : Place). y.size) (sym e) ∙ z in
        let k' : in_width width (top_of book direction width i) (place_at st j).state.score ≡ true = ap (λ (y : Place). in_width width (top_of book direction width i) y.state.score) (sym e) ∙ k in
        (subst (Chosen book direction width i j) (sym e) (chosen z' h), begun z' k')

  -- every option is done
  pub ended : {i j o : ℕ} {st : List ℤ} {count : ℕ} → length (fitting_steps book direction) ≤ o → Growing book direction width i j o st count → Levelling book direction width i (j + 1) st count
  ended {i} {j} {o} h G =
      record {
        list = G.list;
        long = G.long;
        index = G.index;
        held = G.held;
        level = rw add-one (grow_done P i j (get_or (upto P i) j nobody) o G.list h G.grow);
      }

  -- ════ one level
  pub level_starts : {i : ℕ} {st : List ℤ} {count : ℕ} → Starting book direction width i st count → Levelling book direction width i 0 st count
  level_starts {i} B = record { list = upto P i; long = B.long; index = B.index; held = B.held; level = level_begin P i }

  held_on : {i : ℕ} {st : List ℤ} {l : List Hyp} → Held book direction width i st l → Held book direction width (i + 1) st l
  held_on H = record { room = H.room; each = H.each; apart = H.apart; steps_in = H.steps_in; legal = H.legal; traced = traced_on P (omega arith) H.traced }

  pub level_ends : {i j : ℕ} {st : List ℤ} {count : ℕ} → length (upto P i) ≤ j → Levelling book direction width i j st count → Starting book direction width (i + 1) st count
  level_ends {i} {j} {st} h L =
      let e : L.list ≡ upto P (i + 1) = rw add-one (level_end P i j L.list h L.level) in
      record { long = ap length (sym e) ∙ L.long; index = L.index; held = subst (Held book direction width (i + 1) st) e (held_on L.held) }

  -- a level's start, for code that only reads
  pub start_lists : {i : ℕ} {st : List ℤ} {count : ℕ} → Starting book direction width i st count → Lists n st count (upto P i)
  start_lists B = record { long = B.long; each = λ k h. B.held.each k (omega (arith, B.long)) }

  -- ---- the best score of the set, as top_score reads it
  set_sized : (i : ℕ) (l : List Hyp) → set_of P i l ≡ sized i l
  unfolding set_of
  set_sized i l = refl

  pub top_read : {i : ℕ} {st : List ℤ} {count : ℕ} → Starting book direction width i st count → {r : ℤ}
      → ((m : ℕ) (l : List Hyp) → Lists m st count l → r ≡ best_score (sized i l)) → r ≡ top_of book direction width i
  top_read {i} B f = f n (upto P i) (start_lists B) ∙ ap best_score (sym (set_sized i (upto P i)))

  -- no score is too large, nor is the best of them
  hyp_small : Ranged book → n ≤ 32 → (i : ℕ) (s : Hyp) → Memᴰ s (upto P i) → Within score_bound s.score
  unfolding words_covered
  hyp_small R few i s m =
      let g = upto_legal P i s m in
      within_mono (omega (arith, count_le (λ bit. bit) s.key.covered, legal_length book direction width s g)) (score_within book direction width R s g)

  pub top_small : Ranged book → n ≤ 32 → (i : ℕ) → Within score_bound (top_of book direction width i)
  top_small R few i = best_small (set_of P i (upto P i)) (λ s m. hyp_small R few i s (keep_mem (λ q. eqb (words_covered q.key) i) (upto P i) (subst (λ (l : List Hyp). Memᴰ s l) (set_sized i (upto P i)) m)).0)

  -- ════ the whole search
  pub some_state : 1 ≤ length (run P)
  unfolding run upto
  some_state = upto_longer P 0 n (omega arith)

  -- the start state
  pub first_shown : {x : Place} → IsStart x.state → x.size ≡ 0 → n ≤ 32 → Shows n x (first P)
  unfolding first words_covered start key_of
  first_shown {x} b z few =
      let c : x.state.covered ≡ 0 = start_covered x.state b in
      let r : x.state.r ≡ 0 = ap (λ (k : Key). k.r) (b.key_is n) in
      record {
        key_is = b.key_is n;
        score_is = b.score_is;
        size_is = z ∙ sym (ap words_covered (b.key_is n) ∙ none_covered n);
        fine = record { few = few; covered_in = omega (arith, pow_pos n); r_in = omega arith };
      }

  pub search_starts : {st : List ℤ} → Indexed st 1 → Shows n (place_at st 0) (first P) → Starting book direction width 0 st 1
  unfolding upto
  search_starts {st} J W =
      record {
        long = refl;
        index = J;
        held = record {
          room = J.few;
          each = λ k l. let z : k ≡ 0 = omega arith in subst (λ (m : ℕ). Shows n (place_at st m) (get_or (first P ∷ []) m nobody)) (sym z) W;
          apart = λ j k hj hk _. omega arith;
          steps_in = λ k z h. absurd (omega arith);
          legal = λ k l. let z : k ≡ 0 = omega arith in subst (λ (m : ℕ). Legal P (get_or (first P ∷ []) m nobody)) (sym z) (legal_first P);
          traced = traced_begin P (λ k. (place_at st k).parent) (λ k. step_of (place_at st k).step) nobody;
        };
      }

  -- ════ the end
  -- the number of states, and the answer, as pick_best reads it
  pub search_ends : {st : List ℤ} {count : ℕ} → Starting book direction width n st count → (length (run P) ≡ count) × (length (run P) ≤ length st / 8)
  unfolding run
  search_ends B = (B.long, omega (arith, B.held.room))

  start_walked : {i : ℕ} {st : List ℤ} {count : ℕ} → Starting book direction width i st count → Walked st (upto P i)
  unfolding upto
  start_walked {i} B = held_walked book direction width B.held (upto_longer P 0 i (omega arith))

  pub start_walks : {i : ℕ} {st : List ℤ} {count : ℕ} → Starting book direction width i st count → Walks st count
  start_walks {i} B = record { list = upto P i; long = B.long; walked = start_walked B }

  pub best_read : {st : List ℤ} {count : ℕ} → Starting book direction width n st count → (r : Option ℕ)
      → ((l : List Hyp) → Walked st l → Lists n st count l → pick words_covered n no_close is_better none l ≡ picked l r) → best P ≡ picked (run P) r
  unfolding run
  best_read B r f = best_pick P ∙ f (upto P n) (start_walked B) (start_lists B)
