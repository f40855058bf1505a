-- What the search of a book, a direction and a width arrives at: the theorems of search_theory, in the words of document 01.
use Prim.Native.Nat.{ℕ, ◌*◌, ◌≤◌}
use native.Mathlib.Omega.{arith}
use mathlib.Core.Path.{◌≡◌, refl, sym, ◌∙◌, ap}
use mathlib.Core.Logic.{◌↔◌, ◌⊎◌, inl, inr}
use mathlib.Core.Bool.{true, false}
use mathlib.Core.List.{List, [], map, Memᴰ}
use mathlib.Core.Option.{none, some}
use lib.IntN.{ℤ, pos, negsuc, +ℤ_idr}
use lib.Signed.{◌≤ℤ◌}
use Rattle.laws.specs.Integers.{Within}
use Rattle.laws.specs.Lists.{Distinct}
use Rattle.laws.proofs.Linear.{signed, sum}
use Rattle.laws.proofs.Lists.{count_le, distinct_by}
use Rattle.laws.proofs.Tests.{by_test}
use Rattle.search_theory.specs.Search.{Problem, extend, set_of, upto, closed}
use Rattle.search_theory.specs.Statements.{after, total, of, Legal, Covered}
use Rattle.search_theory.proofs.Sound.{set_mem, of_legal}
use Rattle.search_theory.proofs.Lexical as Lexical
use Rattle.search_theory.proofs.Theorems as Theory
use Rattle.meaning.specs.Book.{Book}
use Rattle.meaning.specs.Direction.{word_count}
use Rattle.meaning.specs.Derivation.{is_valid, target_words, score_of, IsDerivation, step_before, comes_before}
use Rattle.meaning.specs.State.{Hyp, start, words_covered, may_extend, is_better, gain_bound}
use Rattle.meaning.specs.Search.{fitting_steps, is_within, search, entered, last_set, answer}
use Rattle.meaning.specs.declared.Step.{Step}
use Rattle.meaning.proofs.Scores.{total_score}
use Rattle.meaning.proofs.Ranges.{Ranged}
use Rattle.meaning.proofs.Order.{step_weak, step_total, derivation_total}
use Rattle.meaning.proofs.Instance.{legal_length, steady, ranked, valid_allowed, allowed_valid, score_within, off_unpruned}

module _ (book : Book) (direction : List ℕ) (width : ℤ) where
  -- ════ the states entered, with any width

  abbrev P : Problem
  P = search book direction width

  -- each has steps that may extend the start state one after another, and their key and their score
  pub legal : (q : Hyp) → Memᴰ q (entered book direction width) → Legal P q
  unfolding entered
  legal = Theory.sound P

  -- its score is the score of its steps
  pub entered_score : (q : Hyp) → Memᴰ q (entered book direction width) → q.score ≡ score_of book q.steps
  entered_score q m = (legal q m).score_is ∙ total_score book direction width q.steps

  -- no two are equal
  pub entered_different : Distinct (map (λ (q : Hyp). q.key) (entered book direction width))
  unfolding entered
  entered_different = Theory.distinct P (steady book direction width)

  -- "Of equal states with equal score, the one whose steps come first stays, also under a width": no state that a state within
  -- the width is extended to is better than the equal one that was entered
  pub entered_stays : (q : Hyp) → Memᴰ q (entered book direction width) → is_within width (set_of P (words_covered q.key) (upto P (words_covered q.key))) q ≡ true
      → (step : Step) → Memᴰ step (fitting_steps book direction) → may_extend book direction q.key step ≡ true → Covered P (entered book direction width) (extend P q step)
  unfolding entered
  entered_stays = Theory.stays P (steady book direction width) (ranked book direction width)

  -- in other words: its score is no higher than that of the equal one, and where the scores are equal its steps do not come before
  pub entered_first : (q : Hyp) → Memᴰ q (entered book direction width) → is_within width (set_of P (words_covered q.key) (upto P (words_covered q.key))) q ≡ true
      → (step : Step) → Memᴰ step (fitting_steps book direction) → may_extend book direction q.key step ≡ true
      → (t : Hyp) → Memᴰ t (entered book direction width) → t.key ≡ (extend P q step).key
      → ((extend P q step).score ≤ℤ t.score) × ((extend P q step).score ≡ t.score → comes_before (extend P q step).steps t.steps ≡ false)
  unfolding is_better comes_before
  entered_first q m w step o y t mt k =
      let c = entered_stays q m w step o y in
      let same : c.by ≡ t = distinct_by (λ (h : Hyp). h.key) (entered book direction width) q entered_different c.member mt (c.its_key ∙ sym k) in
      let n : is_better (extend P q step) t ≡ false = ap (is_better (extend P q step)) (sym same) ∙ c.not_worse in
      (Lexical.no_higher step_before (extend P q step) t n, λ s. Lexical.no_earlier step_before (extend P q step) t s n)

  -- ════ the answer, with any width

  pub last_entered : (q : Hyp) → Memᴰ q (last_set book direction width) → Memᴰ q (entered book direction width) × (words_covered q.key ≡ word_count direction)
  unfolding last_set
  last_entered q m = set_mem P (word_count direction) (entered book direction width) m

  -- a state of the last set has a valid derivation for its steps
  pub last_valid : (q : Hyp) → Memᴰ q (last_set book direction width) → is_valid book direction q.steps ≡ true
  last_valid q m =
      let l = last_entered q m in
      let g = legal q l.0 in
      allowed_valid book direction width q.steps g.allowed (ap words_covered (sym g.key_is) ∙ l.1)

  -- the answer is a state of the last set (nothing is gained at the end), none of the last set has a higher score, and none of that score comes before it
  pub record FromLast (t : Hyp) : Type 0 where
    pub state : Hyp
    pub member : Memᴰ state (last_set book direction width)
    pub score_is : t.score ≡ state.score
    pub steps_are : t.steps ≡ state.steps
    pub none_higher : (q : Hyp) → Memᴰ q (last_set book direction width) → q.score ≤ℤ t.score
    pub none_earlier : (q : Hyp) → Memᴰ q (last_set book direction width) → q.score ≡ t.score → comes_before q.steps t.steps ≡ false

  pub answer_last : (t : Hyp) → answer book direction width ≡ some t → FromLast t
  unfolding answer last_set entered closed is_better comes_before
  answer_last t e =
      let r = Theory.answered P (steady book direction width) (ranked book direction width) t e in
      record {
        state = r.0;
        member = r.1;
        score_is = ap (λ (h : Hyp). h.score) r.2 ∙ +ℤ_idr r.0.score;
        steps_are = ap (λ (h : Hyp). h.steps) r.2;
        none_higher = λ q m. let z = Lexical.no_higher step_before (closed P q) t (r.3 q m) in omega (arith, signed, sum q.score (pos 0));
        none_earlier = λ q m e. Lexical.no_earlier step_before (closed P q) t (+ℤ_idr q.score ∙ e) (r.3 q m);
      }

  -- the answer's steps are a valid derivation of its score
  pub answer_derives : (t : Hyp) → answer book direction width ≡ some t → IsDerivation book direction t.score t.steps (target_words book t.steps)
  answer_derives t e =
      let f = answer_last t e in
      record {
        steps_valid = ap (is_valid book direction) f.steps_are ∙ last_valid f.state f.member;
        steps_score = ap (score_of book) f.steps_are ∙ sym (entered_score f.state (last_entered f.state f.member).0) ∙ sym f.score_is;
        steps_words = refl;
      }

  -- there is no answer exactly where the last set is empty
  pub answer_none : (answer book direction width ≡ none) ↔ (last_set book direction width ≡ [])
  unfolding answer last_set entered
  answer_none = Theory.no_answer P

  -- ════ the bound

  pub covered_to : (q : Hyp) → Memᴰ q (entered book direction width) → words_covered q.key ≤ word_count direction
  unfolding words_covered
  covered_to q m = let n = legal_length book direction width q (legal q m) in let c = count_le (λ bit. bit) q.key.covered in omega arith

  -- at most 25,320,000 for each covered word, on either side of 0
  pub entered_bound : Ranged book → (q : Hyp) → Memᴰ q (entered book direction width) → Within (gain_bound * words_covered q.key) q.score
  entered_bound R q m = score_within book direction width R q (legal q m)

  -- a valid derivation's score is that of a state that covers every word
  pub valid_bound : Ranged book → (steps : List Step) → is_valid book direction steps ≡ true → Within (gain_bound * word_count direction) (score_of book steps)
  unfolding of
  valid_bound R steps v =
      let a = valid_allowed book direction width steps v in
      let w : Within (gain_bound * words_covered (after P (start (word_count direction)) steps)) (total P (start (word_count direction)) steps) =
      score_within book direction width R (of P steps) (of_legal P steps a.0) in
      rw (total_score book direction width steps, a.1) at w

-- ════ with pruning off

module _ (book : Book) (direction : List ℕ) where
  abbrev Off : Problem
  Off = search book direction (negsuc 0)

  -- no valid derivation, of however many steps, scores higher than the answer
  pub answer_best : (t : Hyp) → answer book direction (negsuc 0) ≡ some t → (steps : List Step) → is_valid book direction steps ≡ true → score_of book steps ≤ℤ t.score
  unfolding answer is_better
  answer_best t e steps v =
      let a = valid_allowed book direction (negsuc 0) steps v in
      let h = Theory.highest_score Off (steady book direction (negsuc 0)) step_before step_weak step_total (λ _ _. refl) (off_unpruned book direction) t e steps a.0 a.1 in
      let s : total Off (start (word_count direction)) steps ≡ score_of book steps = total_score book direction (negsuc 0) steps in
      omega (arith, signed, sum (total Off (start (word_count direction)) steps) (pos 0))

  -- and none of the answer's score comes before its steps
  pub answer_first : (t : Hyp) → answer book direction (negsuc 0) ≡ some t → (steps : List Step) → is_valid book direction steps ≡ true → score_of book steps ≡ t.score
      → comes_before steps t.steps ≡ false
  unfolding answer is_better comes_before
  answer_first t e steps v s =
      let a = valid_allowed book direction (negsuc 0) steps v in
      Theory.none_earlier Off (steady book direction (negsuc 0)) step_before step_weak step_total (λ _ _. refl) (off_unpruned book direction) t e steps a.0 a.1
      (+ℤ_idr (total Off (start (word_count direction)) steps) ∙ total_score book direction (negsuc 0) steps ∙ s)

  -- so the answer's steps are one list: any other valid derivation scores lower, or comes after it
  pub answer_only : (t : Hyp) → answer book direction (negsuc 0) ≡ some t → (steps : List Step) → is_valid book direction steps ≡ true → score_of book steps ≡ t.score
      → (t.steps ≡ steps) ⊎ (comes_before t.steps steps ≡ true)
  answer_only t e steps v s =
      by_test (comes_before t.steps steps) inr
      (λ f. inl (derivation_total t.steps steps f (answer_first t e steps v s)))

  -- there is no answer exactly where there is no valid derivation
  pub none_valid : answer book direction (negsuc 0) ≡ none → (steps : List Step) → is_valid book direction steps ≡ true → ⊥
  unfolding answer
  none_valid e steps v =
      let a = valid_allowed book direction (negsuc 0) steps v in
      Theory.hopeless Off (steady book direction (negsuc 0)) (ranked book direction (negsuc 0)) (off_unpruned book direction) e steps a.0 a.1
