-- The demands on the replies, in the words of document 01: what scoring and decoding report, and what each refusal says.
use Prim.Native.Nat.{ℕ, zero, suc, ◌*◌, ◌/◌, ◌≤◌, ◌<◌}
use native.Mathlib.Omega.{arith}
use mathlib.Core.Path.{◌≡◌, refl, sym, ◌∙◌, ap, subst}
use mathlib.Core.Logic.{◌↔◌, ◌⊎◌, inl, inr, ⊎_elim}
use mathlib.Core.Bool.{Bool, true, false, not, cond, ◌&&◌, ◌||◌, true≢false, false≢true}
use mathlib.Core.List.{List, [], ◌∷◌, map, Memᴰ}
use mathlib.Core.Option.{Option, none, some}
use borrow.Author.Tests.{leb-true, leb-false, le-leb, lt-leb, not-true}
use lib.Dec.{leb}
use lib.IntN.{ℤ, pos, negsuc}
use lib.Signed.{le_z, ◌≤ℤ◌}
use lib.ListN.{length, length-map}
use Rattle.laws.specs.Integers.{Within}
use Rattle.laws.specs.Lists.{all, is_empty}
use Rattle.laws.proofs.Tests.{by_test, both, is_false, clash}
use Rattle.laws.proofs.Bounds.{within_mono}
use Rattle.meaning.specs.Questions.{◌unless◌, ◌orelse◌, within, is_of_search, is_of_steps}
use Rattle.meaning.specs.Book.{Form, in_list, Book, book_of, book_refusal, lines_refusal, loaded_lines, is_whole, is_one_bFirst, is_in_range, is_not_too_long, is_counted, is_no_triple_twice, is_no_shorter_twice}
use Rattle.meaning.specs.Direction.{word_count, is_direction_word, direction_refusal, numbers_refusal}
use Rattle.meaning.specs.Derivation.{IsDerivation, fits, jump, is_valid, target_words, score_of, supplied_of, in_all, comes_before}
use Rattle.meaning.specs.State.{Key, Hyp, start, is_free, next_key, score_bound, spread_bound}
use Rattle.meaning.specs.Search.{is_off, entered, last_set, answer}
use Rattle.meaning.specs.Reply.{refused, done, reply, written_if, Lent, steps_refusal, proposal_refusal, totals_of, score_proposal, before_search, after_search, decode_refusal, answer_score, answer_steps, search_answer, decode, decoded_steps, decoded_words}
use Rattle.meaning.specs.declared.Step.{Step}
use Rattle.meaning.specs.declared.Totals.{Totals}
use Rattle.meaning.specs.declared.Answer.{Answer}
use Rattle.meaning.proofs.Chains.{first_passes, rest_passes, test_passes, skip, chain_ind, test_ind, done_passes, done_is, refused_is, reply_refused}
use Rattle.meaning.proofs.Judging.{supplied_all}
use Rattle.meaning.proofs.Valid.{proposal_valid}
use Rattle.meaning.proofs.Ranges.{loaded_ranged}
use Rattle.meaning.proofs.Answers.{covered_to, entered_bound, answer_last, answer_derives, answer_none, answer_best, answer_first, answer_only, none_valid, last_valid, valid_bound}
use Rattle.meaning.proofs.Widths.{wide_entered, wide_answer, wide_last}

-- ════ the questions that come before

-- no question of a book, of a direction or of what is lent has the number of one that a search or a proposed step is asked
record IsEarly (k : ℕ) : Type 0 where
  not_of_search : is_of_search k ≡ false
  not_of_steps : is_of_steps k ≡ false

early : (k : ℕ) (test : Bool) → is_of_search k ≡ false → is_of_steps k ≡ false → IsEarly (k unless test)
early k test a b = test_ind IsEarly k test (record { not_of_search = refl; not_of_steps = refl }) (record { not_of_search = a; not_of_steps = b })

lines_early : (form : Form) (lines : List (List ℤ)) → IsEarly (lines_refusal form lines)
unfolding lines_refusal
lines_early form lines =
    chain_ind IsEarly _ _ (early 2 (all (is_whole form) lines) refl refl)
    (chain_ind IsEarly _ _ (early 3 (is_one_bFirst lines) refl refl)
    (chain_ind IsEarly _ _ (early 4 (all is_in_range lines) refl refl)
    (chain_ind IsEarly _ _ (early 5 (is_not_too_long lines) refl refl)
    (chain_ind IsEarly _ _ (early 21 (is_counted form lines) refl refl)
    (chain_ind IsEarly _ _ (early 6 (is_no_triple_twice lines) refl refl) (early 20 (is_no_shorter_twice lines) refl refl))))))

numbers_early : (numbers : List ℤ) → IsEarly (numbers_refusal numbers)
unfolding numbers_refusal
numbers_early numbers = chain_ind IsEarly _ _ (early 9 (within 1 32 (length numbers)) refl refl) (early 10 (all is_direction_word numbers) refl refl)

-- those of proposed steps have a number of their own
steps_from : (book : Book) (direction : List ℕ) (k : Key) (steps : List Step) → (steps_refusal book direction k steps ≡ 0) ⊎ (is_of_steps (steps_refusal book direction k steps) ≡ true)
unfolding steps_refusal
steps_from book direction k [] = asks (all (λ bit. bit) k.covered)
  where
    asks : (t : Bool) → (19 unless t ≡ 0) ⊎ (is_of_steps (19 unless t) ≡ true)
    asks true = inl refl
    asks false = inr refl
steps_from book direction k (s ∷ ss) =
    asks (fits book direction s) (is_free s 1 k.covered) (leb (jump k.r s) book.limit) (steps_refusal book direction (next_key book k s) ss) (steps_from book direction (next_key book k s) ss)
  where
    asks : (f g j : Bool) (m : ℕ) → (m ≡ 0) ⊎ (is_of_steps m ≡ true) → ((16 unless f orelse 17 unless g orelse 18 unless j orelse m) ≡ 0) ⊎ (is_of_steps (16 unless f orelse 17 unless g orelse 18 unless j orelse m) ≡ true)
    asks true true true m r = r
    asks true true false m r = inr refl
    asks true false j m r = inr refl
    asks false g j m r = inr refl

-- no question before the search has the number of one that a search answers
before_early : (loaded : List ℤ) (direction : List ℕ) (width : ℤ) (lent : Lent) → IsEarly (before_search loaded direction width lent)
unfolding before_search book_refusal direction_refusal
before_early loaded direction width lent =
    chain_ind IsEarly _ _ (lines_early in_list (loaded_lines loaded))
    (chain_ind IsEarly _ _ (numbers_early (map pos direction))
    (chain_ind IsEarly _ _ (early 11 (le_z (negsuc 0) width) refl refl)
    (early 12 (leb (word_count direction) lent.steps && leb (8 * word_count direction) lent.words) refl refl)))

-- so a refusal that a search gives is not theirs
before_not : (loaded : List ℤ) (direction : List ℕ) (width : ℤ) (lent : Lent) (k : ℕ) → is_of_search k ≡ true → before_search loaded direction width lent ≡ k → ⊥
before_not loaded direction width lent k t e = clash t (subst (λ (j : ℕ). is_of_search j ≡ false) e (before_early loaded direction width lent).not_of_search)

-- there are at most 32 numbers where 9 passes
pub numbers_to : (numbers : List ℤ) → numbers_refusal numbers ≡ 0 → length numbers ≤ 32
unfolding numbers_refusal
numbers_to numbers e =
    let t = test_passes 8 (within 1 32 (length numbers)) (first_passes (9 unless within 1 32 (length numbers)) _ e) in
    leb-true _ _ (both (leb 1 (length numbers)) _ t).1

-- a direction that 9 passes has at most 32 words
pub direction_to : (direction : List ℕ) → direction_refusal direction ≡ 0 → word_count direction ≤ 32
unfolding direction_refusal word_count
direction_to direction e = omega (arith, numbers_to (map pos direction) e, length-map direction pos)

-- 13, 14 and 15 by what is asked: pruning is off, the store holds the states, the last set is empty
abbrev after : Bool → Bool → Bool → ℕ
after off fits empty = 13 unless fits orelse 14 unless (not off || not empty) orelse 15 unless not empty

-- these are none or 13 to 15
after_from : (off fits empty : Bool) → is_of_search (after off fits empty) ≡ false → after off fits empty ≡ 0
after_from off false empty h = absurd (true≢false h)
after_from true true true h = absurd (true≢false h)
after_from true true false h = refl
after_from false true true h = absurd (true≢false h)
after_from false true false h = refl

-- two searches that enter the same states and have the same answer differ at most in 15 for 14
wide_by : (before : ℕ) (fits₁ fits₂ empty₁ empty₂ : Bool) (o₁ o₂ : Answer) → (before ≡ 0 → (fits₁ ≡ fits₂) × (empty₁ ≡ empty₂) × (o₁ ≡ o₂))
    → (reply (before orelse after false fits₁ empty₁) o₁ ≡ reply (before orelse after true fits₂ empty₂) o₂)
    ⊎ ((reply (before orelse after false fits₁ empty₁) o₁ ≡ refused 15) × (reply (before orelse after true fits₂ empty₂) o₂ ≡ refused 14))
wide_by (suc k) fits₁ fits₂ empty₁ empty₂ o₁ o₂ same = inl refl
wide_by zero fits₁ fits₂ empty₁ empty₂ o₁ o₂ same = let e = same refl in rw (e.0, e.1, e.2) (compare fits₂ empty₂ o₂)
  where
    compare : (s m : Bool) (o : Answer) → (reply (after false s m) o ≡ reply (after true s m) o) ⊎ ((reply (after false s m) o ≡ refused 15) × (reply (after true s m) o ≡ refused 14))
    compare true true o = inr (refl, refl)
    compare true false o = inl refl
    compare false m o = inl refl

-- and write the same over a list
wide_written : {A : Type 0} (before : ℕ) (fits₁ fits₂ empty₁ empty₂ : Bool) (new₁ new₂ old : List A) → (before ≡ 0 → (fits₁ ≡ fits₂) × (empty₁ ≡ empty₂) × (new₁ ≡ new₂))
    → written_if (before orelse after false fits₁ empty₁) new₁ old ≡ written_if (before orelse after true fits₂ empty₂) new₂ old
wide_written (suc k) fits₁ fits₂ empty₁ empty₂ new₁ new₂ old same = refl
wide_written zero fits₁ fits₂ empty₁ empty₂ new₁ new₂ old same = let e = same refl in rw (e.0, e.1, e.2) (compare fits₂ empty₂)
  where
    compare : (s m : Bool) → written_if (after false s m) new₂ old ≡ written_if (after true s m) new₂ old
    compare true true = refl
    compare true false = refl
    compare false m = refl

module _ (loaded : List ℤ) (direction : List ℕ) where
  abbrev book : Book
  book = book_of loaded

  -- ════ scoring: "a proposed list is found valid exactly when the notes say so"

  -- what is reported are the totals of the steps
  pub scored_totals : (steps : List Step) (t : Totals) → score_proposal loaded direction steps ≡ done t → totals_of book steps ≡ t
  unfolding score_proposal
  scored_totals steps t e = done_is (proposal_refusal loaded direction steps) (totals_of book steps) t e

  -- what is scored is a valid derivation, and the score is its score
  pub scored_valid : (steps : List Step) (t : Totals) → score_proposal loaded direction steps ≡ done t → IsDerivation book direction t.score steps (target_words book steps)
  unfolding score_proposal proposal_refusal
  scored_valid steps t e =
      let p : proposal_refusal loaded direction steps ≡ 0 = done_passes (proposal_refusal loaded direction steps) (totals_of book steps) t e in
      record {
        steps_valid = (proposal_valid book direction steps).0 (rest_passes (direction_refusal direction) _ (rest_passes (book_refusal loaded) _ p));
        steps_score = ap (λ (x : Totals). x.score) (scored_totals steps t e);
        steps_words = refl;
      }

  -- and every valid derivation is scored, where the book and the direction pass
  pub valid_scored : book_refusal loaded ≡ 0 → direction_refusal direction ≡ 0 → (steps : List Step) → is_valid book direction steps ≡ true
      → score_proposal loaded direction steps ≡ done (totals_of book steps)
  unfolding score_proposal proposal_refusal
  valid_scored b d steps v = rw (b, d, (proposal_valid book direction steps).1 v)

  -- a refusal from 16 to 19 says that it is not valid: the book and the direction passed
  pub refused_invalid : (steps : List Step) (k : ℕ) → is_of_steps k ≡ true → score_proposal loaded direction steps ≡ refused k → is_valid book direction steps ≡ false
  unfolding score_proposal proposal_refusal book_refusal direction_refusal
  refused_invalid steps k h e =
      let p : proposal_refusal loaded direction steps ≡ k = refused_is (proposal_refusal loaded direction steps) k (totals_of book steps) e in
      let not-early : (j : ℕ) → IsEarly j → j ≡ k → ⊥ = (λ j n z. clash h (subst (λ (i : ℕ). is_of_steps i ≡ false) z n.not_of_steps)) in
      let s = skip (direction_refusal direction) _ k (not-early _ (numbers_early (map pos direction))) (skip (book_refusal loaded) _ k (not-early _ (lines_early in_list (loaded_lines loaded))) p) in
      is_false (λ v. clash h (ap is_of_steps (sym s ∙ (proposal_valid book direction steps).1 v)))

  -- and one that is not valid gets such a refusal, where the book and the direction pass
  pub invalid_refused : book_refusal loaded ≡ 0 → direction_refusal direction ≡ 0 → (steps : List Step) → is_valid book direction steps ≡ false
      → (k : ℕ) × (is_of_steps k ≡ true) × (score_proposal loaded direction steps ≡ refused k)
  unfolding score_proposal proposal_refusal
  invalid_refused b d steps v = rw (b, d) (by (steps_refusal book direction (start (word_count direction)) steps) (steps_from book direction (start (word_count direction)) steps) (λ z. clash ((proposal_valid book direction steps).0 z) v))
    where
      by : (j : ℕ) → (j ≡ 0) ⊎ (is_of_steps j ≡ true) → (j ≡ 0 → ⊥) → (k : ℕ) × (is_of_steps k ≡ true) × (reply j (totals_of book steps) ≡ refused k)
      by zero r n = absurd (n refl)
      by (suc j) (inl z) n = absurd (n z)
      by (suc j) (inr h) n = (suc j, h, refl)

  -- ════ "No score passes ..", "the bound becomes 810,240,000", on either side of 0: neither a state's nor a valid derivation's

  module _ (b : book_refusal loaded ≡ 0) (d : direction_refusal direction ≡ 0) (width : ℤ) where
    pub state_bound : (q : Hyp) → Memᴰ q (entered book direction width) → Within score_bound q.score
    state_bound q m =
        let n = direction_to direction d in
        let c = covered_to book direction width q m in
        within_mono (omega arith) (entered_bound book direction width (loaded_ranged loaded b) q m)

    pub derivation_bound : (steps : List Step) → is_valid book direction steps ≡ true → Within score_bound (score_of book steps)
    derivation_bound steps v =
        let n = direction_to direction d in
        within_mono (omega arith) (valid_bound book direction width (loaded_ranged loaded b) steps v)

  -- ════ decoding, with any width

  module _ (width : ℤ) (lent : Lent) where
    -- what holds where an answer is given
    pub record Answered (a : Answer) : Type 0 where
      pub before : before_search loaded direction width lent ≡ 0
      pub room : length (entered book direction width) ≤ lent.store / 8
      pub state : Hyp
      pub found : answer book direction width ≡ some state
      pub score_is : a.score ≡ state.score
      pub states_are : a.states ≡ length (entered book direction width)

    some_or_none : (o : Option Hyp) → (o ≡ none) ⊎ ((t : Hyp) × (o ≡ some t))
    some_or_none none = inl refl
    some_or_none (some t) = inr (t, refl)

    reached : after_search book direction width lent ≡ 0 → is_empty (last_set book direction width) ≡ false
    unfolding after_search
    reached e =
        not-true (is_empty (last_set book direction width))
        (test_passes 14 (not (is_empty (last_set book direction width)))
        (rest_passes (14 unless (not (is_off width) || not (is_empty (last_set book direction width)))) _
        (rest_passes (13 unless leb (length (entered book direction width)) (lent.store / 8)) _ e)))

    not_both : (l : List Hyp) → is_empty l ≡ false → l ≡ [] → ⊥
    not_both [] e z = true≢false e
    not_both (x ∷ l) e z = let y : is_empty (x ∷ l) ≡ true = ap is_empty z in false≢true y

    pub answered : (a : Answer) → decode loaded direction width lent ≡ done a → Answered a
    unfolding decode decode_refusal after_search
    answered a e =
        let k = decode_refusal loaded direction width lent in
        let p : decode_refusal loaded direction width lent ≡ 0 = done_passes k _ a e in
        let b = first_passes (before_search loaded direction width lent) _ p in
        let s = rest_passes (before_search loaded direction width lent) _ p in
        let is : search_answer book direction width ≡ a = done_is k _ a e in
        let r : length (entered book direction width) ≤ lent.store / 8 = leb-true _ _ (test_passes 12 _ (first_passes (13 unless leb (length (entered book direction width)) (lent.store / 8)) _ s)) in
        ⊎_elim
        (λ z. absurd (not_both (last_set book direction width) (reached s) ((answer_none book direction width).0 z)))
        (λ t. record {
          before = b;
          room = r;
          state = t.0;
          found = t.1;
          score_is = ap (λ (x : Answer). x.score) (sym is) ∙ ap answer_score t.1;
          states_are = ap (λ (x : Answer). x.states) (sym is);
        })
        (some_or_none (answer book direction width))

    -- "valid, exact": the answer's steps are a valid derivation of the score reported
    pub decode_derives : (a : Answer) → decode loaded direction width lent ≡ done a
        → IsDerivation book direction a.score (answer_steps (answer book direction width)) (target_words book (answer_steps (answer book direction width)))
    decode_derives a e =
        let r = answered a e in
        subst (λ (o : Option Hyp). IsDerivation book direction a.score (answer_steps o) (target_words book (answer_steps o))) (sym r.found)
        (subst (λ (z : ℤ). IsDerivation book direction z r.state.steps (target_words book r.state.steps)) (sym r.score_is) (answer_derives book direction width r.state r.found))

    -- their numbers are reported
    pub decode_counts : (a : Answer) → decode loaded direction width lent ≡ done a
        → (a.steps ≡ length (answer_steps (answer book direction width))) × (a.words ≡ length (target_words book (answer_steps (answer book direction width))))
    unfolding decode
    decode_counts a e =
        let is : search_answer book direction width ≡ a = done_is (decode_refusal loaded direction width lent) _ a e in
        (ap (λ (x : Answer). x.steps) (sym is), ap (λ (x : Answer). x.words) (sym is))

    -- ticket 3: who supplied the scores of their target words is reported
    pub decode_supplied : (a : Answer) → decode loaded direction width lent ≡ done a → a.supplied ≡ supplied_of book (answer_steps (answer book direction width))
    unfolding decode
    decode_supplied a e = ap (λ (x : Answer). x.supplied) (sym (done_is (decode_refusal loaded direction width lent) (search_answer book direction width) a e))

    -- "they add up to all target words"
    pub decode_in_all : (a : Answer) → decode loaded direction width lent ≡ done a → in_all a.supplied ≡ a.words
    decode_in_all a e = ap in_all (decode_supplied a e) ∙ supplied_all book (answer_steps (answer book direction width)) ∙ sym (decode_counts a e).1

    -- and scoring the answer's steps reports the same score and the same counts
    pub decode_scored : (a : Answer) → decode loaded direction width lent ≡ done a
        → score_proposal loaded direction (answer_steps (answer book direction width)) ≡ done (record { score = a.score; supplied = a.supplied })
    unfolding before_search
    decode_scored a e =
        let b = (answered a e).before in
        let d = decode_derives a e in
        valid_scored (first_passes (book_refusal loaded) _ b) (first_passes (direction_refusal direction) _ (rest_passes (book_refusal loaded) _ b)) _ d.steps_valid
        ∙ (λ i. done (record { score = d.steps_score i; supplied = sym (decode_supplied a e) i }))

    -- "and the best of the last set": no state of it has a higher score
    pub decode_last : (a : Answer) → decode loaded direction width lent ≡ done a → (q : Hyp) → Memᴰ q (last_set book direction width) → q.score ≤ℤ a.score
    decode_last a e q m =
        let r = answered a e in
        subst (λ (z : ℤ). q.score ≤ℤ z) (sym r.score_is) ((answer_last book direction width r.state r.found).none_higher q m)

    -- and none of that score comes before the answer's steps, with any width
    pub decode_last_first : (a : Answer) → decode loaded direction width lent ≡ done a → (q : Hyp) → Memᴰ q (last_set book direction width) → q.score ≡ a.score
        → comes_before q.steps (answer_steps (answer book direction width)) ≡ false
    decode_last_first a e q m s =
        let r = answered a e in
        ap (λ (o : Option Hyp). comes_before q.steps (answer_steps o)) r.found ∙ (answer_last book direction width r.state r.found).none_earlier q m (s ∙ r.score_is)

    -- the number of states is that of the states entered
    pub decode_states : (a : Answer) → decode loaded direction width lent ≡ done a → a.states ≡ length (entered book direction width)
    decode_states a e = (answered a e).states_are

    -- "the bound becomes 810,240,000"
    pub decode_bound : (a : Answer) → decode loaded direction width lent ≡ done a → Within score_bound a.score
    unfolding before_search
    decode_bound a e =
        let r = answered a e in
        let d = decode_derives a e in
        let b = first_passes (book_refusal loaded) _ r.before in
        let n = first_passes (direction_refusal direction) _ (rest_passes (book_refusal loaded) _ r.before) in
        subst (Within score_bound) d.steps_score (derivation_bound b n width _ d.steps_valid)

    -- "13 only when the store is too small for the states entered", and always then
    pub decode_full : before_search loaded direction width lent ≡ 0 → (decode loaded direction width lent ≡ refused 13) ↔ (lent.store / 8 < length (entered book direction width))
    unfolding decode decode_refusal after_search
    decode_full b = (
      λ e. by_test (leb (length (entered book direction width)) (lent.store / 8))
          (λ t. absurd (later t (refused_is (decode_refusal loaded direction width lent) 13 _ e)))
          (λ f. leb-false _ _ f),
      λ h. reply_refused (decode_refusal loaded direction width lent) 12 _ (rw (b, lt-leb _ _ h)),
    )
      where
        later : leb (length (entered book direction width)) (lent.store / 8) ≡ true → decode_refusal loaded direction width lent ≡ 13 → ⊥
        later t e = last_two (is_off width) (is_empty (last_set book direction width)) (rw (b, t) at e)
          where
            last_two : (o m : Bool) → 14 unless (not o || not m) orelse 15 unless not m ≡ 13 → ⊥
            last_two true true h = omega arith
            last_two true false h = omega arith
            last_two false true h = omega arith
            last_two false false h = omega arith

    -- a store that holds the states entered never gives 13
    pub never_full : length (entered book direction width) ≤ lent.store / 8 → decode loaded direction width lent ≡ refused 13 → ⊥
    unfolding decode decode_refusal
    never_full h e =
        let k = refused_is (decode_refusal loaded direction width lent) 13 _ e in
        by_zero (before_search loaded direction width lent) refl k
      where
        by_zero : (j : ℕ) → before_search loaded direction width lent ≡ j → j orelse after_search book direction width lent ≡ 13 → ⊥
        by_zero zero z k = let l = (decode_full z).0 e in omega arith
        by_zero (suc j) z k = before_not loaded direction width lent 13 refl (z ∙ k)

    -- a refusal other than 13 to 15 is that of a question before the search ..
    pub refused_early : (k : ℕ) → is_of_search k ≡ false → decode loaded direction width lent ≡ refused k → before_search loaded direction width lent ≡ k
    unfolding decode decode_refusal after_search
    refused_early k h e =
        by (before_search loaded direction width lent) _ (after_from (is_off width) (leb (length (entered book direction width)) (lent.store / 8)) (is_empty (last_set book direction width)))
        (refused_is (decode_refusal loaded direction width lent) k _ e)
      where
        by : (j m : ℕ) → (is_of_search m ≡ false → m ≡ 0) → j orelse m ≡ k → j ≡ k
        by zero m f p = sym (f (ap is_of_search p ∙ h)) ∙ p
        by (suc j) m f p = p

    -- .. and one of 13 to 15 comes after it
    pub refused_late : (k : ℕ) → is_of_search k ≡ true → decode loaded direction width lent ≡ refused k → before_search loaded direction width lent ≡ 0
    unfolding decode decode_refusal
    refused_late k h e = by (before_search loaded direction width lent) (before_not loaded direction width lent k h) (refused_is (decode_refusal loaded direction width lent) k _ e)
      where
        by : (j : ℕ) → (j ≡ k → ⊥) → j orelse after_search book direction width lent ≡ k → j ≡ 0
        by zero g p = refl
        by (suc j) g p = absurd (g p)

    -- where the store holds the states entered, there is an answer, or 14, or with a width 15
    pub answer_or_none : before_search loaded direction width lent ≡ 0 → length (entered book direction width) ≤ lent.store / 8
        → ((a : Answer) × (decode loaded direction width lent ≡ done a)) ⊎ (decode loaded direction width lent ≡ refused (cond (is_off width) 14 15))
    unfolding decode decode_refusal after_search
    answer_or_none b h = rw (b, le-leb _ _ h) (by (is_off width) (is_empty (last_set book direction width)) _)
      where
        by : (o m : Bool) (a : Answer) → ((a' : Answer) × (reply (14 unless (not o || not m) orelse 15 unless not m) a ≡ done a')) ⊎ (reply (14 unless (not o || not m) orelse 15 unless not m) a ≡ refused (cond o 14 15))
        by true true a = inr refl
        by false true a = inr refl
        by true false a = inl (a, refl)
        by false false a = inl (a, refl)

    -- "With a width, is set n not empty? No: 15."
    pub decode_emptied : decode loaded direction width lent ≡ refused 15 → last_set book direction width ≡ []
    unfolding decode decode_refusal after_search
    decode_emptied e =
        let k = skip (before_search loaded direction width lent) _ 15 (before_not loaded direction width lent 15 refl) (refused_is (decode_refusal loaded direction width lent) 15 _ e) in
        by (is_off width) (leb (length (entered book direction width)) (lent.store / 8)) (last_set book direction width) k
      where
        by : (o s : Bool) (l : List Hyp) → after o s (is_empty l) ≡ 15 → l ≡ []
        by o s [] p = refl
        by true true (q ∷ l) p = absurd (omega arith)
        by false true (q ∷ l) p = absurd (omega arith)
        by o false (q ∷ l) p = absurd (omega arith)

  -- ════ decoding with pruning off

  module _ (lent : Lent) where
    -- "no valid derivation scores higher", of however many steps
    pub decode_best : (a : Answer) → decode loaded direction (negsuc 0) lent ≡ done a → (steps : List Step) → is_valid book direction steps ≡ true → score_of book steps ≤ℤ a.score
    decode_best a e steps v =
        let r = answered (negsuc 0) lent a e in
        subst (λ (z : ℤ). score_of book steps ≤ℤ z) (sym r.score_is) (answer_best book direction r.state r.found steps v)

    -- "no valid derivation of that score comes earlier" than the answer's steps
    pub decode_first : (a : Answer) → decode loaded direction (negsuc 0) lent ≡ done a → (steps : List Step) → is_valid book direction steps ≡ true → score_of book steps ≡ a.score
        → comes_before steps (answer_steps (answer book direction (negsuc 0))) ≡ false
    decode_first a e steps v s =
        let r = answered (negsuc 0) lent a e in
        ap (λ (o : Option Hyp). comes_before steps (answer_steps o)) r.found ∙ answer_first book direction r.state r.found steps v (s ∙ r.score_is)

    -- and each other valid derivation of that score comes later
    pub decode_only : (a : Answer) → decode loaded direction (negsuc 0) lent ≡ done a → (steps : List Step) → is_valid book direction steps ≡ true → score_of book steps ≡ a.score
        → (answer_steps (answer book direction (negsuc 0)) ≡ steps) ⊎ (comes_before (answer_steps (answer book direction (negsuc 0))) steps ≡ true)
    decode_only a e steps v s =
        let r = answered (negsuc 0) lent a e in
        subst (λ (o : Option Hyp). (answer_steps o ≡ steps) ⊎ (comes_before (answer_steps o) steps ≡ true)) (sym r.found) (answer_only book direction r.state r.found steps v (s ∙ r.score_is))

    empty_is : (l : List Hyp) → is_empty l ≡ true → l ≡ []
    empty_is [] e = refl
    empty_is (x ∷ l) e = absurd (false≢true e)

    -- "14 means that no valid derivation exists"
    pub decode_none : decode loaded direction (negsuc 0) lent ≡ refused 14 → (steps : List Step) → is_valid book direction steps ≡ true → ⊥
    unfolding decode decode_refusal after_search
    decode_none e =
        let k = refused_is (decode_refusal loaded direction (negsuc 0) lent) 14 _ e in
        let a = skip (before_search loaded direction (negsuc 0) lent) _ 14 (before_not loaded direction (negsuc 0) lent 14 refl) k in
        let c = skip (13 unless leb (length (entered book direction (negsuc 0))) (lent.store / 8)) _ 14 (not_13 (leb (length (entered book direction (negsuc 0))) (lent.store / 8))) a in
        none_valid book direction ((answer_none book direction (negsuc 0)).1 (empty_is (last_set book direction (negsuc 0)) (was_empty (is_empty (last_set book direction (negsuc 0))) c)))
      where
        was_empty : (m : Bool) → 14 unless not m orelse 15 unless not m ≡ 14 → m ≡ true
        was_empty true h = refl
        was_empty false h = absurd (omega arith)

        not_13 : (test : Bool) → 13 unless test ≡ 14 → ⊥
        not_13 true h = omega arith
        not_13 false h = omega arith

    -- and where no valid derivation exists, 14 is given, once the questions before it pass
    pub none_decode : before_search loaded direction (negsuc 0) lent ≡ 0 → length (entered book direction (negsuc 0)) ≤ lent.store / 8
        → ((steps : List Step) → is_valid book direction steps ≡ true → ⊥) → decode loaded direction (negsuc 0) lent ≡ refused 14
    unfolding decode decode_refusal after_search
    none_decode b h none_is =
        reply_refused (decode_refusal loaded direction (negsuc 0) lent) 13 _ (rw (b, le-leb _ _ h, last_is_empty))
      where
        last_is_empty : is_empty (last_set book direction (negsuc 0)) ≡ true
        last_is_empty = go (last_set book direction (negsuc 0)) (λ q m. none_is q.steps (last_valid book direction (negsuc 0) q m))
          where
            go : (l : List Hyp) → ((q : Hyp) → Memᴰ q l → ⊥) → is_empty l ≡ true
            go [] f = refl
            go (q ∷ l) f = absurd (f q (Memᴰ.head refl))

  -- ════ decoding with a width

  -- "Giving 14 when pruning emptied the last set" is a trap: with a width 14 is never given
  pub width_never_14 : (β : ℕ) (lent : Lent) → decode loaded direction (pos β) lent ≡ refused 14 → ⊥
  unfolding decode decode_refusal after_search
  width_never_14 β lent e =
      let k = refused_is (decode_refusal loaded direction (pos β) lent) 14 _ e in
      let a = skip (before_search loaded direction (pos β) lent) _ 14 (before_not loaded direction (pos β) lent 14 refl) k in
      two (leb (length (entered book direction (pos β))) (lent.store / 8)) (is_empty (last_set book direction (pos β))) a
    where
      two : (s m : Bool) → 13 unless s orelse 15 unless not m ≡ 14 → ⊥
      two true true h = omega arith
      two true false h = omega arith
      two false m h = omega arith

  -- "the width that prunes nothing", 1,620,480,000, "which, but for 15 in place of 14, answers as −1 does": it, and every larger one
  module _ (β : ℕ) (lent : Lent) (wide : spread_bound ≤ β) where
    -- the search arrives at the same, once the questions before it pass
    wide_same : before_search loaded direction (negsuc 0) lent ≡ 0
        → (entered book direction (pos β) ≡ entered book direction (negsuc 0)) × (last_set book direction (pos β) ≡ last_set book direction (negsuc 0)) × (answer book direction (pos β) ≡ answer book direction (negsuc 0))
    unfolding before_search
    wide_same b =
        let R = loaded_ranged loaded (first_passes (book_refusal loaded) _ b) in
        let n = direction_to direction (first_passes (direction_refusal direction) _ (rest_passes (book_refusal loaded) _ b)) in
        (wide_entered book direction R n β wide, wide_last book direction R n β wide, wide_answer book direction R n β wide)

    abbrev fits_in : List Hyp → Bool
    fits_in states = leb (length states) (lent.store / 8)

    pub wide_width : (decode loaded direction (pos β) lent ≡ decode loaded direction (negsuc 0) lent)
        ⊎ ((decode loaded direction (pos β) lent ≡ refused 15) × (decode loaded direction (negsuc 0) lent ≡ refused 14))
    unfolding decode decode_refusal before_search after_search
    wide_width =
        wide_by (before_search loaded direction (negsuc 0) lent) (fits_in (entered book direction (pos β))) (fits_in (entered book direction (negsuc 0)))
        (is_empty (last_set book direction (pos β))) (is_empty (last_set book direction (negsuc 0)))
        (search_answer book direction (pos β)) (search_answer book direction (negsuc 0))
        (λ b.
        let same = wide_same b in (
          ap fits_in same.0,
          ap is_empty same.1,
          λ i. record {
            score = answer_score (same.2 i);
            steps = length (answer_steps (same.2 i));
            words = length (target_words book (answer_steps (same.2 i)));
            states = length (same.0 i);
            supplied = supplied_of book (answer_steps (same.2 i));
          },
        ))

    -- and what it writes is the same
    wide_lists : {A : Type 0} (f : Option Hyp → List A) (old : List A)
        → written_if (decode_refusal loaded direction (pos β) lent) (f (answer book direction (pos β))) old
        ≡ written_if (decode_refusal loaded direction (negsuc 0) lent) (f (answer book direction (negsuc 0))) old
    unfolding decode_refusal before_search after_search
    wide_lists f old =
        wide_written (before_search loaded direction (negsuc 0) lent) (fits_in (entered book direction (pos β))) (fits_in (entered book direction (negsuc 0)))
        (is_empty (last_set book direction (pos β))) (is_empty (last_set book direction (negsuc 0)))
        (f (answer book direction (pos β))) (f (answer book direction (negsuc 0))) old
        (λ b. let same = wide_same b in (ap fits_in same.0, ap is_empty same.1, ap f same.2))

    pub wide_steps : (steps : List Step) → decoded_steps loaded direction (pos β) lent steps ≡ decoded_steps loaded direction (negsuc 0) lent steps
    unfolding decoded_steps
    wide_steps steps = wide_lists answer_steps steps

    pub wide_words : (words : List ℕ) → decoded_words loaded direction (pos β) lent words ≡ decoded_words loaded direction (negsuc 0) lent words
    unfolding decoded_words
    wide_words words = wide_lists (λ o. target_words book (answer_steps o)) words
