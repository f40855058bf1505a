-- Ticket 7, a round's directions together. The questions of the whole round (`round_book`, `round_26`, `round_12`, `round_passes`, `round_refused`) and its directions
-- (`round_words`, `round_together`); each direction is answered as if it were decoded alone (`round_alone`, `round_found`), on places of its own (`round_behind`); the
-- store is left as one decode leaves it (`round_store`, `round_kept`); and the order shows in nothing but the places (`round_order`, `round_order_found`, `round_order_store`).
use Rattle.std.specs.declared.result.Result.{Result}
use Rattle.meaning.specs.declared.Refusal.{Refusal}
use Prim.Native.Nat.{ℕ, zero, suc, ◌+◌, ◌-◌, ◌*◌, ◌≤◌, ◌<◌}
use native.Mathlib.Omega.{arith}
use mathlib.Core.Path.{◌≡◌, refl, sym, ap, ◌∙◌, subst}
use mathlib.Core.Bool.{Bool, true, false, ◌&&◌, cond}
use mathlib.Core.Logic.{◌⊎◌, ⊎_elim}
use mathlib.Core.List.{List, [], ◌∷◌, ◌++◌, Memᴰ}
use borrow.Author.Tests.{leb-true, le-leb, ltb-true, lt-ltb, eqb-true, eq-eqb, ne_eqb}
use lib.Dec.{leb, ltb, eqb}
use lib.IntN.{ℤ, pos}
use lib.ListN.{length, get_or, take, drop, replicate, length-replicate, length-drop}
use lib.Seq.{length-take-le, take-append_seam, take-add, drop-drop}
use Rattle.laws.specs.Lists.{all, any, concat}
use Rattle.laws.proofs.Lists.{all_at, at_all, any_mem, mem_any}
use Rattle.laws.proofs.Tests.{both, both_of, between, by_test, is_false, same_test}
use Rattle.meaning.specs.Questions.{◌unless◌, within}
use Rattle.meaning.specs.Book.{book_refusal, book_of}
use Rattle.meaning.specs.Derivation.{target_words}
use Rattle.meaning.specs.Search.{answer}
use Rattle.meaning.specs.Reply.{done, Lent, cleared_if, before_search, decode_refusal, answer_steps, search_answer, decode, reply_of, decoded_steps, decoded_words, decoded_store, Decodes}
use Rattle.meaning.specs.Round.{are_rising, are_ends, directions_from, directions_of, round_refusal, alone, answer_numbers, as_records, by_parts, store_after, kept_if_refused, RoundLists}
use Rattle.meaning.specs.declared.Answer.{Answer}
use Rattle.meaning.specs.declared.Step.{Step}
use Rattle.meaning.proofs.Chains.{rest_passes, test_passes, done_passes, written_done}
use Rattle.meaning.proofs.Demands.{decode_counts}
use Rattle.meaning.proofs.Lengths.{steps_keep, words_keep, answer_nine}
use Rattle.meaning.proofs.Parts.{part_of, part_long, parts_long, parts_at, parts_behind, end_before, begins, directions_count, direction_at, rising_at, store_long}

-- ════ the questions of a round

at_rising : (before : ℕ) (ends : List ℕ) → ((k : ℕ) → k < length ends → end_before before ends k < get_or ends k 0) → are_rising before ends ≡ true
at_rising before [] h = refl
at_rising before (end ∷ ends) h =
    both_of (lt-ltb before end (h 0 (omega arith)))
    (at_rising end ends (λ k l. subst (λ (n : ℕ). n < get_or ends k 0) (sym (begins before end ends k)) (h (suc k) (omega arith))))

-- three lists, each with room
three : (a b c x y z : ℕ) → leb a x && leb b y && leb c z ≡ true → (a ≤ x) × (b ≤ y) × (c ≤ z)
three a b c x y z t =
    let u = both (leb a x && leb b y) (leb c z) t in let v = both (leb a x) (leb b y) u.0 in
    (leb-true a x v.0, leb-true b y v.1, leb-true c z u.1)

module _ (directions ends : List ℕ) where
  -- there are "1 to 64", each end is above "the one before (0 for the first)", and none "lies past the list"
  pub record Ends : Type 0 where
    pub one : 1 ≤ length ends
    pub few : length ends ≤ 64
    pub rising : (k : ℕ) → k < length ends → end_before 0 ends k < get_or ends k 0
    pub inside : (k : ℕ) → k < length ends → get_or ends k 0 ≤ length directions

  -- 26 passes exactly then ..
  pub ends_right : are_ends directions ends ≡ true → Ends
  unfolding are_ends
  ends_right t =
      let a = both (within 1 64 (length ends) && are_rising 0 ends) (all (λ end. leb end (length directions)) ends) t in
      let b = both (within 1 64 (length ends)) (are_rising 0 ends) a.0 in
      let c = between 1 64 (length ends) b.0 in
      record {
        one = c.0;
        few = c.1;
        rising = λ k l. rising_at 0 ends k b.1 l;
        inside = λ k l. leb-true (get_or ends k 0) (length directions) (all_at (λ end. leb end (length directions)) ends 0 a.1 k l);
      }

  pub right_ends : Ends → are_ends directions ends ≡ true
  unfolding are_ends
  right_ends e =
      both_of (both_of (both_of (le-leb 1 (length ends) e.one) (le-leb (length ends) 64 e.few)) (at_rising 0 ends e.rising))
      (at_all (λ end. leb end (length directions)) ends 0 (λ k l. le-leb (get_or ends k 0) (length directions) (e.inside k l)))

  -- .. so it refuses "when there are not 1 to 64, an end is not above the one before (0 for the first), or an end lies past the list"
  pub ends_none : length ends ≡ 0 → are_ends directions ends ≡ false
  ends_none z = is_false (λ t. let e = (ends_right t).one in absurd (omega arith))

  pub ends_many : 64 < length ends → are_ends directions ends ≡ false
  ends_many l = is_false (λ t. let e = (ends_right t).few in absurd (omega arith))

  pub ends_fall : (k : ℕ) → k < length ends → get_or ends k 0 ≤ end_before 0 ends k → are_ends directions ends ≡ false
  ends_fall k l h = is_false (λ t. let e = (ends_right t).rising k l in absurd (omega arith))

  pub ends_past : (k : ℕ) → k < length ends → length directions < get_or ends k 0 → are_ends directions ends ≡ false
  ends_past k l h = is_false (λ t. let e = (ends_right t).inside k l in absurd (omega arith))

  module _ (loaded : List ℤ) (lent : Lent) (answers : ℕ) where
    -- "26, after the book checks ..
    pub round_book : (k : ℕ) → book_refusal loaded ≡ suc k → round_refusal loaded directions ends lent answers ≡ suc k
    unfolding round_refusal
    round_book k b = rw b refl

    -- .. and before that 12": however long the lists are
    pub round_26 : book_refusal loaded ≡ 0 → are_ends directions ends ≡ false → round_refusal loaded directions ends lent answers ≡ 26
    unfolding round_refusal
    round_26 b e = rw (b, e) refl

    -- "lists of steps, words or answers too short for all directions answer 12 for the whole round"
    pub round_12 : book_refusal loaded ≡ 0 → are_ends directions ends ≡ true → (lent.steps < 32 * length ends) ⊎ (lent.words < 256 * length ends) ⊎ (answers < 9 * length ends)
        → round_refusal loaded directions ends lent answers ≡ 12
    unfolding round_refusal
    round_12 b e short =
        let f : leb (32 * length ends) lent.steps && leb (256 * length ends) lent.words && leb (9 * length ends) answers ≡ false = is_false (λ t.
        let h = three (32 * length ends) (256 * length ends) (9 * length ends) lent.steps lent.words answers t in
        let x = h.0 in let y = h.1 in let z = h.2 in
        ⊎_elim (λ l. absurd (omega arith)) (⊎_elim (λ l. absurd (omega arith)) (λ l. absurd (omega arith))) short) in
        rw (b, e, f) refl

    -- no other question is asked of the whole
    pub round_passes : book_refusal loaded ≡ 0 → are_ends directions ends ≡ true → 32 * length ends ≤ lent.steps → 256 * length ends ≤ lent.words → 9 * length ends ≤ answers
        → round_refusal loaded directions ends lent answers ≡ 0
    unfolding round_refusal
    round_passes b e x y z = rw (b, e, le-leb (32 * length ends) lent.steps x, le-leb (256 * length ends) lent.words y, le-leb (9 * length ends) answers z) refl

    passed : round_refusal loaded directions ends lent answers ≡ 0 → (32 * length ends ≤ lent.steps) × (256 * length ends ≤ lent.words) × (9 * length ends ≤ answers)
    unfolding round_refusal
    passed e =
        three (32 * length ends) (256 * length ends) (9 * length ends) lent.steps lent.words answers
        (test_passes 11 _ (rest_passes (26 unless are_ends directions ends) _ (rest_passes (book_refusal loaded) _ e)))

-- ════ the directions of a round

-- where 26 passes none is empty
pub round_words : (directions ends : List ℕ) → are_ends directions ends ≡ true → (k : ℕ) → k < length ends → 1 ≤ length (get_or (directions_of directions ends) k [])
unfolding directions_of
round_words directions ends t k l =
    let e = ends_right directions ends t in let a = e.rising k l in let b = e.inside k l in
    let from = end_before 0 ends k in let d = length-drop from directions in
    let n = length-take-le (get_or ends k 0 - from) (drop from directions) (omega arith) in
    omega (arith, a, n, ap length (direction_at 0 directions ends k l))

-- two parts side by side
two_parts : {A : Type 0} (a b c : ℕ) (xs : List A) → a ≤ b → b ≤ c → take (b - a) (drop a xs) ++ take (c - b) (drop b xs) ≡ take (c - a) (drop a xs)
two_parts {A} a b c xs l m =
    let e : a + (b - a) ≡ b = omega arith in let f : (b - a) + (c - b) ≡ c - a = omega arith in
    ap (λ (ys : List A). take (b - a) (drop a xs) ++ take (c - b) ys) (ap (λ (n : ℕ). drop n xs) (sym e) ∙ sym (drop-drop (b - a) a xs))
    ∙ sym (take-add (b - a) (c - b) (drop a xs)) ∙ ap (λ (n : ℕ). take n (drop a xs)) f

rising_last : (before : ℕ) (ends : List ℕ) → are_rising before ends ≡ true → before ≤ end_before before ends (length ends)
rising_last before [] r = omega arith
rising_last before (end ∷ ends) r =
    let b = both (ltb before end) (are_rising end ends) r in
    omega (arith, ltb-true before end b.0, rising_last end ends b.1, begins before end ends (length ends))

together : (before : ℕ) (directions ends : List ℕ) → are_rising before ends ≡ true
    → concat (directions_from before directions ends) ≡ take (end_before before ends (length ends) - before) (drop before directions)
together before directions [] r = let z : before - before ≡ 0 = omega arith in rw z refl
together before directions (end ∷ ends) r =
    let b = both (ltb before end) (are_rising end ends) r in let l = ltb-true before end b.0 in
    ap (λ (ws : List ℕ). take (end - before) (drop before directions) ++ ws) (together end directions ends b.1)
    ∙ two_parts before end (end_before end ends (length ends)) directions (omega arith) (rising_last end ends b.1)
    ∙ ap (λ (n : ℕ). take (n - before) (drop before directions)) (begins before end ends (length ends))

-- "Take them as one list with their ends": put one after the other they are the list up to the last end
pub round_together : (directions ends : List ℕ) → are_ends directions ends ≡ true → concat (directions_of directions ends) ≡ take (end_before 0 ends (length ends)) directions
unfolding directions_of
round_together directions ends t =
    let z : end_before 0 ends (length ends) - 0 ≡ end_before 0 ends (length ends) = omega arith in
    together 0 directions ends (at_rising 0 ends (ends_right directions ends t).rising) ∙ ap (λ (n : ℕ). take n directions) z

-- ════ a round

-- of a book and a width: its directions, and each lent list before (₀) and after (₁)
pub record Round (loaded : List ℤ) (width : ℤ) : Type 0 where
  pub directions : List ℕ
  pub ends : List ℕ
  pub steps₀ : List Step
  pub steps₁ : List Step
  pub words₀ : List ℕ
  pub words₁ : List ℕ
  pub store₀ : List ℤ
  pub store₁ : List ℤ
  pub answers₀ : List ℤ
  pub answers₁ : List ℤ
  pub lists : RoundLists as_records (round_refusal loaded directions ends (record { steps = length steps₀; words = length words₀; store = length store₀ }) (length answers₀))
      loaded (directions_of directions ends) width steps₀ steps₁ words₀ words₁ store₀ store₁ answers₀ answers₁

kept_new : {A : Type 0} (k : ℕ) (old new : List A) → k ≡ 0 → kept_if_refused k old new ≡ new
kept_new zero old new e = refl
kept_new (suc k) old new e = absurd (omega arith)

kept_old : {A : Type 0} (k : ℕ) (old new : List A) → 1 ≤ k → kept_if_refused k old new ≡ old
kept_old zero old new l = absurd (omega arith)
kept_old (suc k) old new l = refl

module _ {loaded : List ℤ} {width : ℤ} (r : Round loaded width) where
  abbrev pub lent_to : Lent
  lent_to = record { steps = length r.steps₀; words = length r.words₀; store = length r.store₀ }

  abbrev pub refusal_of : ℕ
  refusal_of = round_refusal loaded r.directions r.ends lent_to (length r.answers₀)

  -- its directions one after the other, how many they are, and direction k, counted from 0
  abbrev pub directions_in : List (List ℕ)
  directions_in = directions_of r.directions r.ends

  abbrev pub count_of : ℕ
  count_of = length r.ends

  abbrev pub direction : ℕ → List ℕ
  direction k = get_or directions_in k []

  pub count_is : length directions_in ≡ count_of
  unfolding directions_of
  count_is = directions_count 0 r.directions r.ends

  -- a round that is refused changes no list
  pub round_refused : 1 ≤ refusal_of → (r.steps₁ ≡ r.steps₀) × (r.words₁ ≡ r.words₀) × (r.store₁ ≡ r.store₀) × (r.answers₁ ≡ r.answers₀)
  round_refused l = (
    r.lists.steps_are ∙ kept_old refusal_of r.steps₀ _ l,
    r.lists.words_are ∙ kept_old refusal_of r.words₀ _ l,
    r.lists.store_is ∙ kept_old refusal_of r.store₀ _ l,
    r.lists.answers_are ∙ kept_old refusal_of r.answers₀ _ l,
  )

  -- what stands on the places of direction k: "the 32 step places and 256 word places that follow those of direction k − 1", and 9 numbers
  pub record AsAlone (k : ℕ) : Type 0 where
    pub its_steps : part_of 32 k r.steps₁ ≡ decoded_steps loaded (direction k) width (alone r.store₀) (part_of 32 k r.steps₀)
    pub its_words : part_of 256 k r.words₁ ≡ decoded_words loaded (direction k) width (alone r.store₀) (part_of 256 k r.words₀)
    pub its_answer : part_of 9 k r.answers₁ ≡ answer_numbers (decode loaded (direction k) width (alone r.store₀))

  -- the places behind those of the last direction as before, and the lists as long
  pub record Behind : Type 0 where
    pub steps_behind : drop (32 * count_of) r.steps₁ ≡ drop (32 * count_of) r.steps₀
    pub words_behind : drop (256 * count_of) r.words₁ ≡ drop (256 * count_of) r.words₀
    pub answers_behind : drop (9 * count_of) r.answers₁ ≡ drop (9 * count_of) r.answers₀
    pub steps_long : length r.steps₁ ≡ length r.steps₀
    pub words_long : length r.words₁ ≡ length r.words₀
    pub store_long : length r.store₁ ≡ length r.store₀
    pub answers_long : length r.answers₁ ≡ length r.answers₀

-- ════ each direction alone

module _ {loaded : List ℤ} {width : ℤ} (r : Round loaded width) (passes : refusal_of r ≡ 0) where
  -- the lists after a round that is not refused, and their room
  abbrev ds : List (List ℕ)
  ds = directions_in r

  abbrev store : List ℤ
  store = r.store₀

  abbrev steps_by : List ℕ → List Step → List Step
  steps_by d = decoded_steps loaded d width (alone store)

  abbrev words_by : List ℕ → List ℕ → List ℕ
  words_by d = decoded_words loaded d width (alone store)

  abbrev answer_by : List ℕ → List ℤ → List ℤ
  answer_by d old = answer_numbers (decode loaded d width (alone store))

  new_steps : r.steps₁ ≡ by_parts 32 steps_by ds r.steps₀
  new_steps = r.lists.steps_are ∙ kept_new (refusal_of r) r.steps₀ _ passes

  new_words : r.words₁ ≡ by_parts 256 words_by ds r.words₀
  new_words = r.lists.words_are ∙ kept_new (refusal_of r) r.words₀ _ passes

  new_store : r.store₁ ≡ store_after loaded width ds store
  new_store = r.lists.store_is ∙ kept_new (refusal_of r) store _ passes

  new_answers : r.answers₁ ≡ by_parts 9 answer_by ds r.answers₀
  new_answers = r.lists.answers_are ∙ kept_new (refusal_of r) r.answers₀ _ passes

  nine : (d : List ℕ) (old : List ℤ) → length old ≡ 9 → length (answer_by d old) ≡ 9
  nine d old e = answer_nine (decode loaded d width (alone store))

  room : (32 * length ds ≤ length r.steps₀) × (256 * length ds ≤ length r.words₀) × (9 * length ds ≤ length r.answers₀)
  room = rw (count_is r) (passed r.directions r.ends loaded (lent_to r) (length r.answers₀) passes)

  pub round_at : (k : ℕ) → k < count_of r → AsAlone r k
  round_at k l =
      let n = count_is r in
      record {
        its_steps = ap (part_of 32 k) new_steps ∙ parts_at 32 steps_by (steps_keep loaded width store) ds r.steps₀ k [] (omega arith) room.0;
        its_words = ap (part_of 256 k) new_words ∙ parts_at 256 words_by (words_keep loaded width store) ds r.words₀ k [] (omega arith) room.1;
        its_answer = ap (part_of 9 k) new_answers ∙ parts_at 9 answer_by nine ds r.answers₀ k [] (omega arith) room.2;
      }

  -- "Each answer, with its steps and words, equals that of its direction decoded alone with the same store and width, a refused direction included.": whatever a
  -- decode of direction k on these places answers and writes, with a store as long
  pub round_alone : (k : ℕ) → k < count_of r → (steps' : List Step) (words' : List ℕ) (store'' store' : List ℤ) (result : Result Answer Refusal) → length store'' ≡ length r.store₀
      → Decodes loaded (direction r k) width (part_of 32 k r.steps₀) steps' (part_of 256 k r.words₀) words' store'' store' result
      → (part_of 32 k r.steps₁ ≡ steps') × (part_of 256 k r.words₁ ≡ words') × (part_of 9 k r.answers₁ ≡ answer_numbers (reply_of result))
  round_alone k l steps' words' store'' store' result e D =
      let a = round_at k l in let n = count_is r in
      let same : ◌≡◌ {A = Lent} (record { steps = length (part_of 32 k r.steps₀); words = length (part_of 256 k r.words₀); store = length store'' }) (alone store) =
      rw (part_long 32 k (length ds) r.steps₀ (omega arith) room.0, part_long 256 k (length ds) r.words₀ (omega arith) room.1, e) refl in (
        a.its_steps ∙ sym (D.steps_are ∙ ap (λ (p : Lent). decoded_steps loaded (direction r k) width p (part_of 32 k r.steps₀)) same),
        a.its_words ∙ sym (D.words_are ∙ ap (λ (p : Lent). decoded_words loaded (direction r k) width p (part_of 256 k r.words₀)) same),
        a.its_answer ∙ sym (ap answer_numbers (D.reply_is ∙ ap (decode loaded (direction r k) width) same)),
      )

  -- so where it has an answer, as many steps and words as are reported stand there, whatever stood there before
  pub round_found : (k : ℕ) → k < count_of r → (a : Answer) → decode loaded (direction r k) width (alone r.store₀) ≡ done a
      → (take a.steps (part_of 32 k r.steps₁) ≡ answer_steps (answer (book_of loaded) (direction r k) width))
      × (take a.words (part_of 256 k r.words₁) ≡ target_words (book_of loaded) (answer_steps (answer (book_of loaded) (direction r k) width)))
  unfolding decode decoded_steps decoded_words
  round_found k l a e =
      let found = answer_steps (answer (book_of loaded) (direction r k) width) in let words = target_words (book_of loaded) found in
      let at = round_at k l in let n = decode_counts loaded (direction r k) width (alone store) a e in
      let refusal = decode_refusal loaded (direction r k) width (alone store) in
      let p : refusal ≡ 0 = done_passes refusal (search_answer (book_of loaded) (direction r k) width) a e in (
        rw (at.its_steps, written_done refusal found (part_of 32 k r.steps₀) p, n.0) (take-append_seam found _),
        rw (at.its_words, written_done refusal words (part_of 256 k r.words₀) p, n.1) (take-append_seam words _),
      )

  -- as many directions as ends
  by_count : {A : Type 0} (size : ℕ) (xs ys : List A) → drop (size * length ds) xs ≡ drop (size * length ds) ys → drop (size * count_of r) xs ≡ drop (size * count_of r) ys
  by_count size xs ys e = subst (λ (n : ℕ). drop (size * n) xs ≡ drop (size * n) ys) (count_is r) e

  pub round_behind : Behind r
  round_behind =
      let s = steps_keep loaded width store in let w = words_keep loaded width store in
      record {
        steps_behind = by_count 32 r.steps₁ r.steps₀ (ap (drop (32 * length ds)) new_steps ∙ parts_behind 32 steps_by s ds r.steps₀ room.0);
        words_behind = by_count 256 r.words₁ r.words₀ (ap (drop (256 * length ds)) new_words ∙ parts_behind 256 words_by w ds r.words₀ room.1);
        answers_behind = by_count 9 r.answers₁ r.answers₀ (ap (drop (9 * length ds)) new_answers ∙ parts_behind 9 answer_by nine ds r.answers₀ room.2);
        steps_long = ap length new_steps ∙ parts_long 32 steps_by s ds r.steps₀ room.0;
        words_long = ap length new_words ∙ parts_long 256 words_by w ds r.words₀ room.1;
        store_long = ap length new_store ∙ store_long loaded width ds store;
        answers_long = ap length new_answers ∙ parts_long 9 answer_by nine ds r.answers₀ room.2;
      }

-- ════ the store

-- a direction that begins its search: its questions up to 12 pass
abbrev is_searched : List ℤ → ℤ → List ℤ → List ℕ → Bool
is_searched loaded width store d = eqb (before_search loaded d width (alone store)) 0

module _ (loaded : List ℤ) (width : ℤ) where
  -- one decode clears the store, or keeps it
  decoded_is : (d : List ℕ) (store : List ℤ) → decoded_store loaded d width (alone store) store ≡ cond (is_searched loaded width store d) (replicate (length store) (pos 0)) store
  unfolding decoded_store
  decoded_is d store = by (before_search loaded d width (alone store))
    where
      by : (k : ℕ) → cleared_if k store ≡ cond (eqb k 0) (replicate (length store) (pos 0)) store
      by zero = refl
      by (suc k) = rw (ne_eqb (suc k) 0 (omega arith))

  -- a store that is all zero stays so
  zero_stays : (n : ℕ) (ds : List (List ℕ)) → store_after loaded width ds (replicate n (pos 0)) ≡ replicate n (pos 0)
  zero_stays n [] = refl
  zero_stays n (d ∷ ds) =
      let zeros = replicate n (pos 0) in
      let e = either (is_searched loaded width zeros d) _ zeros (ap (λ (m : ℕ). replicate m (pos 0)) (length-replicate n (pos 0))) in
      ap (store_after loaded width ds) (decoded_is d zeros ∙ e) ∙ zero_stays n ds
    where
      either : (t : Bool) (xs ys : List ℤ) → xs ≡ ys → cond t xs ys ≡ ys
      either true xs ys e = e
      either false xs ys e = refl

  store_by : (ds : List (List ℕ)) (store : List ℤ) → store_after loaded width ds store ≡ cond (any (is_searched loaded width store) ds) (replicate (length store) (pos 0)) store
  store_by [] store = refl
  store_by (d ∷ ds) store =
      by_test (is_searched loaded width store d)
      (λ t. ap (store_after loaded width ds) (decoded_is d store ∙ rw t refl) ∙ zero_stays (length store) ds ∙ rw t refl)
      (λ f. ap (store_after loaded width ds) (decoded_is d store ∙ rw f refl) ∙ store_by ds store ∙ rw f refl)

module _ {loaded : List ℤ} {width : ℤ} (r : Round loaded width) (passes : refusal_of r ≡ 0) where
  abbrev searched : List ℕ → Bool
  searched = is_searched loaded width r.store₀

  stored : r.store₁ ≡ cond (any searched (directions_in r)) (replicate (length r.store₀) (pos 0)) r.store₀
  stored = new_store r passes ∙ store_by loaded width (directions_in r) r.store₀

  -- afterwards it is all zero if some direction began its search ..
  pub round_store : (d : List ℕ) → Memᴰ d (directions_in r) → before_search loaded d width (alone r.store₀) ≡ 0 → r.store₁ ≡ replicate (length r.store₀) (pos 0)
  round_store d m e = stored ∙ rw (mem_any searched (directions_in r) d m (eq-eqb _ 0 e)) refl

  -- .. and as before if none did
  pub round_kept : ((d : List ℕ) → Memᴰ d (directions_in r) → 1 ≤ before_search loaded d width (alone r.store₀)) → r.store₁ ≡ r.store₀
  round_kept none =
      let f : any searched (directions_in r) ≡ false = is_false (λ t.
      let a = any_mem searched (directions_in r) t in let n = none a.0 a.1 in
      let z = eqb-true (before_search loaded a.0 width (alone r.store₀)) 0 a.2 in absurd (omega arith)) in
      stored ∙ rw f refl

-- ════ the order of the directions

-- so it shows in nothing but the places: two rounds of the same book and width
module _ {loaded : List ℤ} {width : ℤ} (r s : Round loaded width) (passes : refusal_of r ≡ 0) (passes' : refusal_of s ≡ 0) where
  -- with "the same store", or one as long: where direction i of the one is direction j of the other, its answer is the same, and what is written over the same steps
  -- and words ..
  pub round_order : length r.store₀ ≡ length s.store₀ → (i j : ℕ) → i < count_of r → j < count_of s → direction r i ≡ direction s j
      → (part_of 9 i r.answers₁ ≡ part_of 9 j s.answers₁)
      × (part_of 32 i r.steps₀ ≡ part_of 32 j s.steps₀ → part_of 32 i r.steps₁ ≡ part_of 32 j s.steps₁)
      × (part_of 256 i r.words₀ ≡ part_of 256 j s.words₀ → part_of 256 i r.words₁ ≡ part_of 256 j s.words₁)
  round_order n i j l m e =
      let a = round_at r passes i l in let b = round_at s passes' j m in
      (a.its_answer ∙ rw (e, n) refl ∙ sym b.its_answer, λ o. a.its_steps ∙ rw (e, n, o) refl ∙ sym b.its_steps, λ o. a.its_words ∙ rw (e, n, o) refl ∙ sym b.its_words)

  -- .. so are the steps and words that were written, whatever stood there before
  pub round_order_found : length r.store₀ ≡ length s.store₀ → (i j : ℕ) → i < count_of r → j < count_of s → direction r i ≡ direction s j
      → (a : Answer) → decode loaded (direction r i) width (alone r.store₀) ≡ done a
      → (take a.steps (part_of 32 i r.steps₁) ≡ take a.steps (part_of 32 j s.steps₁))
      × (take a.words (part_of 256 i r.words₁) ≡ take a.words (part_of 256 j s.words₁))
  round_order_found n i j l m e a d =
      let x = round_found r passes i l a d in let y = round_found s passes' j m a (rw (sym e, sym n) d) in
      (x.0 ∙ rw e refl ∙ sym y.0, x.1 ∙ rw e refl ∙ sym y.1)

  -- and the store is the same where it was and the directions are the same, in whatever order
  pub round_order_store : r.store₀ ≡ s.store₀ → ((d : List ℕ) → Memᴰ d (directions_in r) → Memᴰ d (directions_in s))
      → ((d : List ℕ) → Memᴰ d (directions_in s) → Memᴰ d (directions_in r)) → r.store₁ ≡ s.store₁
  round_order_store e to from =
      let test = is_searched loaded width r.store₀ in
      let t : any test (directions_in r) ≡ any test (directions_in s) = same_test
      (λ h. let a = any_mem test (directions_in r) h in mem_any test (directions_in s) a.0 (to a.0 a.1) a.2)
      (λ h. let a = any_mem test (directions_in s) h in mem_any test (directions_in r) a.0 (from a.0 a.1) a.2) in
      stored r passes ∙ ap (λ (x : Bool). cond x (replicate (length r.store₀) (pos 0)) r.store₀) t
      ∙ ap (λ (x : List ℤ). cond (any (is_searched loaded width x) (directions_in s)) (replicate (length x) (pos 0)) x) e ∙ sym (stored s passes')
