-- The demands of specs/Demands, from the contracts of `decode` and of `score` alone: whoever meets those contracts meets them.
use Rattle.std.specs.declared.result.Result.TheVariants.{Ok, Err}
use Rattle.std.specs.declared.result.Result.{Result}
use Prim.Native.Nat.{ℕ, zero, suc, ◌/◌, ◌≤◌, ◌<◌}
use native.Mathlib.Omega.{arith}
use native.Mathlib.Nat.{le_trans}
use mathlib.Core.Path.{◌≡◌, refl, sym, ◌∙◌, ap}
use mathlib.Core.Logic.{◌↔◌, ◌⊎◌, inl, inr, ⊎_elim}
use mathlib.Core.Bool.{cond}
use mathlib.Core.List.{List}
use borrow.Author.Tests.{leb-true, leb-false}
use lib.Dec.{leb}
use lib.IntN.{ℤ, pos, negsuc}
use lib.ListN.{length, take, drop, replicate}
use lib.Seq.{take_at, drop_at}
use Rattle.laws.proofs.Tests.{by_test, is_false, clash}
use Rattle.meaning.specs.Questions.{number, is_of_steps}
use Rattle.meaning.specs.Book.{Book, book_of}
use Rattle.meaning.specs.Derivation.{target_words, supplied_of, in_all}
use Rattle.meaning.specs.State.{Key, AreReachable}
use Rattle.meaning.specs.Search.{is_off, entered, answer}
use Rattle.meaning.specs.Reply.{Reply, refused, done, Lent, written_over, proposal_refusal, totals_of, score_proposal, reply_of, before_search, decode_refusal, answer_steps, decode, cleared_if, decoded_steps, decoded_words, decoded_store, Decodes, search_answer}
use Rattle.meaning.specs.declared.Answer.{Answer}
use Rattle.meaning.specs.declared.Totals.{Totals}
use Rattle.meaning.specs.declared.Refusal.{Refusal}
use Rattle.meaning.specs.declared.Refusal.TheVariants.{StoreTooSmall, NoDerivation, LastSetEmpty}
use Rattle.meaning.specs.declared.Step.{Step}
use Rattle.meaning.proofs.Chains.{done_passes, refused_is, reply_done, written_done, written_refused, done_is}
use Rattle.meaning.proofs.Judging.{supplied_all}
use Rattle.meaning.proofs.Demands as Notes
use Rattle.meaning.proofs.Reach.{keys_entered, entered_all, entered_few, entered_counted, never_13, always_13}
use Rattle.meaning.proofs.Numbered.{number_from, number_same, refused_reply}
use Rattle.phrase.specs.Demands.{DecodeDemands, SameAnswer, ScoreDemands}

-- ════ the result of a scoring by its reply

refused_scored : (result : Result Totals Refusal) (k : ℕ) → reply_of result ≡ refused k → (refusal : Refusal) × (result ≡ Err refusal) × (number refusal ≡ k)
refused_scored (Ok t) k e = let c : ◌≡◌ {A = ℕ} 0 1 = cc in absurd (omega arith)
refused_scored (Err r) k e = (r, refl, cc)

done_scored : (result : Result Totals Refusal) (t : Totals) → reply_of result ≡ done t → result ≡ Ok t
done_scored (Ok s) t e = let c : s ≡ t = cc in ap Ok c
done_scored (Err r) t e = let c : ◌≡◌ {A = ℕ} 0 1 = cc in absurd (omega arith)

-- ════ a decode

-- its result by its reply
refused_result : (result : Result Answer Refusal) (refusal : Refusal) → reply_of result ≡ refused (number refusal) → result ≡ Err refusal
refused_result (Ok a) refusal e = let z : ◌≡◌ {A = ℕ} 0 1 = cc in absurd (omega arith)
refused_result (Err r) refusal e = let z : number r ≡ number refusal = cc in ap Err (number_same r refusal z)

pub done_result : (result : Result Answer Refusal) (a : Answer) → reply_of result ≡ done a → result ≡ Ok a
done_result (Ok b) a e = let s : b ≡ a = cc in ap Ok s
done_result (Err r) a e = let z : ◌≡◌ {A = ℕ} 0 1 = cc in absurd (omega arith)

cleared : (k : ℕ) (store : List ℤ) → k ≡ 0 → cleared_if k store ≡ replicate (length store) (pos 0)
cleared zero store e = refl
cleared (suc k) store e = absurd (omega arith)

kept : (k : ℕ) (store : List ℤ) → 1 ≤ k → cleared_if k store ≡ store
kept zero store h = absurd (omega arith)
kept (suc k) store h = refl

-- a list written over: what stands at its beginning, and behind it
module _ {A : Type 0} where
  first_over : (new old : List A) {list : List A} (n : ℕ) → list ≡ written_over new old → n ≡ length new → take n list ≡ new
  first_over new old n w e = ap (take n) w ∙ take_at new (drop (length new) old) n (sym e)

  rest_over : (new old : List A) {list : List A} (n : ℕ) → list ≡ written_over new old → n ≡ length new → drop n list ≡ drop n old
  rest_over new old n w e = ap (drop n) w ∙ drop_at new (drop (length new) old) n (sym e) ∙ ap (λ (k : ℕ). drop k old) (sym e)

-- a store of so many places has room for the states that can be reached, or is too small for them: the states entered with pruning off are these
pub room_or_small : (book : Book) (direction : List ℕ) (places : ℕ)
    → ((keys : List Key) × AreReachable book direction keys × (length keys ≤ places)) ⊎ ((keys : List Key) × AreReachable book direction keys × (places < length keys))
room_or_small book direction places =
    let keys = keys_entered book direction (negsuc 0) in
    by_test (leb (length keys) places) (λ t. inl (keys, entered_all book direction, leb-true _ _ t)) (λ f. inr (keys, entered_all book direction, leb-false _ _ f))

module _ (loaded : List ℤ) (direction : List ℕ) (width : ℤ) (steps₀ steps₁ : List Step) (words₀ words₁ : List ℕ) (store₀ store₁ : List ℤ) (result : Result Answer Refusal)
    (D : Decodes loaded direction width steps₀ steps₁ words₀ words₁ store₀ store₁ result) where
  abbrev book : Book
  book = book_of loaded

  abbrev lent : Lent
  lent = record { steps = length steps₀; words = length words₀; store = length store₀ }

  decoded : (a : Answer) → result ≡ Ok a → decode loaded direction width lent ≡ done a
  decoded a e = sym D.reply_is ∙ ap reply_of e

  turned : (refusal : Refusal) → result ≡ Err refusal → decode loaded direction width lent ≡ refused (number refusal)
  turned refusal e = sym D.reply_is ∙ ap reply_of e

  -- the steps that the search arrives at
  abbrev found : List Step
  found = answer_steps (answer book direction width)

  refusal_is : (refusal : Refusal) → result ≡ Err refusal → decode_refusal loaded direction width lent ≡ number refusal
  unfolding decode
  refusal_is refusal e = refused_is (decode_refusal loaded direction width lent) (number refusal) _ (turned refusal e)

  passes : (a : Answer) → result ≡ Ok a → decode_refusal loaded direction width lent ≡ 0
  unfolding decode
  passes a e = done_passes (decode_refusal loaded direction width lent) _ a (decoded a e)

  -- the answer is what the search determines
  answer_is : (a : Answer) → result ≡ Ok a → search_answer book direction width ≡ a
  unfolding decode
  answer_is a e = done_is (decode_refusal loaded direction width lent) _ a (decoded a e)

  -- they and their words stand in the lists, or the lists are as before
  pub lists_written : (a : Answer) → result ≡ Ok a → (steps₁ ≡ written_over found steps₀) × (words₁ ≡ written_over (target_words book found) words₀)
  unfolding decoded_steps decoded_words
  lists_written a e = (D.steps_are ∙ written_done _ found steps₀ (passes a e), D.words_are ∙ written_done _ (target_words book found) words₀ (passes a e))

  lists_kept : (refusal : Refusal) → result ≡ Err refusal → (steps₁ ≡ steps₀) × (words₁ ≡ words₀)
  unfolding decoded_steps decoded_words
  lists_kept refusal e =
      let k : 1 ≤ decode_refusal loaded direction width lent = omega (arith, refusal_is refusal e, number_from refusal) in
      (D.steps_are ∙ written_refused _ found steps₀ k, D.words_are ∙ written_refused _ (target_words book found) words₀ k)

  -- where the lists have the steps and the words: at the beginning, so many as are reported
  steps_first : (a : Answer) → result ≡ Ok a → take a.steps steps₁ ≡ found
  steps_first a e = first_over found steps₀ a.steps (lists_written a e).0 (Notes.decode_counts loaded direction width lent a (decoded a e)).0

  words_first : (a : Answer) → result ≡ Ok a → take a.words words₁ ≡ target_words book found
  words_first a e = first_over (target_words book found) words₀ a.words (lists_written a e).1 (Notes.decode_counts loaded direction width lent a (decoded a e)).1

  lists_rest : (a : Answer) → result ≡ Ok a → (drop a.steps steps₁ ≡ drop a.steps steps₀) × (drop a.words words₁ ≡ drop a.words words₀)
  lists_rest a e =
      let n = Notes.decode_counts loaded direction width lent a (decoded a e) in
      (rest_over found steps₀ a.steps (lists_written a e).0 n.0, rest_over (target_words book found) words₀ a.words (lists_written a e).1 n.1)

  store_zero : before_search loaded direction width lent ≡ 0 → store₁ ≡ replicate (length store₀) (pos 0)
  unfolding decoded_store
  store_zero b = D.store_is ∙ cleared (before_search loaded direction width lent) store₀ b

  store_same : 1 ≤ before_search loaded direction width lent → store₁ ≡ store₀
  unfolding decoded_store
  store_same h = D.store_is ∙ kept (before_search loaded direction width lent) store₀ h

  -- where a refusal, or none, is the definitions', it is the result's
  says : (refusal : Refusal) → decode loaded direction width lent ≡ refused (number refusal) → result ≡ Err refusal
  says refusal e = refused_result result refusal (D.reply_is ∙ e)

  answers : (a : Answer) → decode loaded direction width lent ≡ done a → result ≡ Ok a
  answers a e = done_result result a (D.reply_is ∙ e)

  taken : (decode_refusal loaded direction width lent ≡ 0) ↔ ((a : Answer) × (result ≡ Ok a))
  unfolding decode
  taken = (λ z. (_, answers _ (reply_done (decode_refusal loaded direction width lent) _ z)), λ r. passes r.0 r.1)

  turned_down : (refusal : Refusal) → (decode_refusal loaded direction width lent ≡ number refusal) ↔ (result ≡ Err refusal)
  unfolding decode
  turned_down refusal = (
    λ z. says refusal (sym (refused_reply refusal (decode_refusal loaded direction width lent) _ z)),
    refusal_is refusal,
  )

  -- the same width by another name
  decode_at : (v : ℤ) → width ≡ v → decode loaded direction v lent ≡ decode loaded direction width lent
  decode_at v w = ap (λ (x : ℤ). decode loaded direction x lent) (sym w)

  before_at : (v : ℤ) → width ≡ v → before_search loaded direction width lent ≡ 0 → before_search loaded direction v lent ≡ 0
  before_at v w b = ap (λ (x : ℤ). before_search loaded direction x lent) (sym w) ∙ b

  -- with room for the states that can be reached there is room for those entered ..
  room : (v : ℤ) → (keys : List Key) × AreReachable book direction keys × (length keys ≤ length store₀ / 8) → length (entered book direction v) ≤ length store₀ / 8
  room v r = le_trans (entered_few book direction v r.0 r.1.all_listed) r.2

  -- .. and a store that is too small for those entered is too small for all of them
  small : result ≡ Err StoreTooSmall → length store₀ / 8 < length (keys_entered book direction (negsuc 0))
  small e =
      let t = turned StoreTooSmall e in
      let h = (Notes.decode_full loaded direction width lent (Notes.refused_late loaded direction width lent 13 refl t)).0 t in
      le_trans h (entered_few book direction width (keys_entered book direction (negsuc 0)) (entered_all book direction).all_listed)

  -- an answer, or the refusal for an empty last set, with the width v
  answer_or : (v : ℤ) → width ≡ v → (refusal : Refusal) → number refusal ≡ cond (is_off v) 14 15 → before_search loaded direction width lent ≡ 0
      → length (entered book direction v) ≤ length store₀ / 8 → ((a : Answer) × (result ≡ Ok a)) ⊎ (result ≡ Err refusal)
  answer_or v w refusal n b h =
      ⊎_elim
      (λ o. inl (o.0, answers o.0 (sym (decode_at v w) ∙ o.1)))
      (λ e. inr (says refusal (sym (decode_at v w) ∙ e ∙ ap {B = Reply Answer} refused (sym n))))
      (Notes.answer_or_none loaded direction v lent (before_at v w b) h)

  -- with pruning off
  first_off : width ≡ negsuc 0 → (a : Answer) → result ≡ Ok a → take a.steps steps₁ ≡ answer_steps (answer book direction (negsuc 0))
  first_off w a e = steps_first a e ∙ ap (λ (v : ℤ). answer_steps (answer book direction v)) w

  states_entered : (a : Answer) → result ≡ Ok a → a.states ≡ length (entered book direction width)
  states_entered a e = Notes.decode_states loaded direction width lent a (decoded a e)

  pub decode_demands : DecodeDemands loaded direction width steps₀ steps₁ words₀ words₁ store₀ store₁ result
  decode_demands =
      record {
        demand1 = record {
          taken = taken;
          turned_down = turned_down;
          steps_kept = λ refusal e. (lists_kept refusal e).0;
          words_kept = λ refusal e. (lists_kept refusal e).1;
          store_kept = λ refusal e h.
              let b = Notes.refused_early loaded direction width lent (number refusal) h (turned refusal e) in
              let n = number_from refusal in
              store_same (omega arith);
          store_cleared = λ refusal e h. store_zero (Notes.refused_late loaded direction width lent (number refusal) h (turned refusal e));
          answered_cleared = λ r. store_zero (Notes.answered loaded direction width lent r.0 (decoded r.0 r.1)).before;
        };
        demand2 = record {
          valid_and_exact = λ a e. rw (steps_first a e, words_first a e) (Notes.decode_derives loaded direction width lent a (decoded a e));
          rest_kept = lists_rest;
          steps_are = steps_first;
          supplied_are = λ a e. Notes.decode_supplied loaded direction width lent a (decoded a e) ∙ ap (supplied_of book) (sym (steps_first a e));
          supplied_in_all = λ a e. Notes.decode_in_all loaded direction width lent a (decoded a e);
          scored_again = λ a e s r. done_scored s _ (r ∙ ap (score_proposal loaded direction) (steps_first a e) ∙ Notes.decode_scored loaded direction width lent a (decoded a e));
          states_entered = states_entered;
          states_reachable = λ w a e keys r. states_entered a e ∙ ap (λ (v : ℤ). length (entered book direction v)) w ∙ entered_counted book direction keys r;
        };
        demand3 = record {
          none_valid = λ w e steps. is_false (λ v. Notes.decode_none loaded direction lent (decode_at (negsuc 0) w ∙ turned NoDerivation e) steps v);
          gives_14 = λ w b r f. says NoDerivation (sym (decode_at (negsuc 0) w) ∙ Notes.none_decode loaded direction lent (before_at (negsuc 0) w b) (room (negsuc 0) r) (λ steps v. clash v (f steps)));
          none_higher = λ w a e. Notes.decode_best loaded direction lent a (decode_at (negsuc 0) w ∙ decoded a e);
          none_earlier = λ w a e steps v s. rw (first_off w a e) (Notes.decode_first loaded direction lent a (decode_at (negsuc 0) w ∙ decoded a e) steps v s);
          others_later = λ w a e steps v s. rw (first_off w a e) (Notes.decode_only loaded direction lent a (decode_at (negsuc 0) w ∙ decoded a e) steps v s);
          only_13 = λ e. (keys_entered book direction (negsuc 0), entered_all book direction, small e);
          never_13 = λ r e. never_13 loaded direction width lent r.0 r.1.all_listed r.2 (turned StoreTooSmall e);
          gives_13 = λ w b r. says StoreTooSmall (sym (decode_at (negsuc 0) w) ∙ always_13 loaded direction lent r.0 r.1.different r.1.are_reached r.2 (before_at (negsuc 0) w b));
          best_of_last_set = λ a e. Notes.decode_last loaded direction width lent a (decoded a e);
          first_of_last_set = λ a e q m s. rw (steps_first a e) (Notes.decode_last_first loaded direction width lent a (decoded a e) q m s);
          only_15 = λ e. Notes.decode_emptied loaded direction width lent (turned LastSetEmpty e);
          answer_or_14 = λ w b r. answer_or (negsuc 0) w NoDerivation refl b (room (negsuc 0) r);
          answer_or_15 = λ β w b r. answer_or (pos β) w LastSetEmpty refl b (room (pos β) r);
          never_14 = λ β w e. Notes.width_never_14 loaded direction β lent (decode_at (pos β) w ∙ turned NoDerivation e);
        };
      }

-- ════ two decodes of one book, direction and width

pub same_answer : (loaded : List ℤ) (direction : List ℕ) (width : ℤ) (steps₀ steps₁ steps₀' steps₂ : List Step) (words₀ words₁ words₀' words₂ : List ℕ) (store₀ store₁ store₀' store₂ : List ℤ) (result₁ result₂ : Result Answer Refusal)
    → Decodes loaded direction width steps₀ steps₁ words₀ words₁ store₀ store₁ result₁ → Decodes loaded direction width steps₀' steps₂ words₀' words₂ store₀' store₂ result₂
    → SameAnswer steps₁ steps₂ words₁ words₂ result₁ result₂
same_answer loaded direction width steps₀ steps₁ steps₀' steps₂ words₀ words₁ words₀' words₂ store₀ store₁ store₀' store₂ result₁ result₂ D E =
    record {
      same = λ a b e f. sym (answer_is loaded direction width steps₀ steps₁ words₀ words₁ store₀ store₁ result₁ D a e) ∙ answer_is loaded direction width steps₀' steps₂ words₀' words₂ store₀' store₂ result₂ E b f;
      same_steps = λ a b e f. steps_first loaded direction width steps₀ steps₁ words₀ words₁ store₀ store₁ result₁ D a e ∙ sym (steps_first loaded direction width steps₀' steps₂ words₀' words₂ store₀' store₂ result₂ E b f);
      same_words = λ a b e f. words_first loaded direction width steps₀ steps₁ words₀ words₁ store₀ store₁ result₁ D a e ∙ sym (words_first loaded direction width steps₀' steps₂ words₀' words₂ store₀' store₂ result₂ E b f);
    }

-- ════ a scoring

module _ (loaded : List ℤ) (direction : List ℕ) (steps : List Step) (result : Result Totals Refusal) (E : reply_of result ≡ score_proposal loaded direction steps) where
  turned_down' : (refusal : Refusal) → (proposal_refusal loaded direction steps ≡ number refusal) ↔ (result ≡ Err refusal)
  unfolding score_proposal
  turned_down' refusal = (
    λ z.
        let r = refused_scored result (number refusal) (E ∙ sym (refused_reply refusal (proposal_refusal loaded direction steps) _ z)) in
        r.1 ∙ ap Err (number_same r.0 refusal r.2),
    λ e. refused_is (proposal_refusal loaded direction steps) (number refusal) _ (sym E ∙ ap reply_of e),
  )

  supplied_is : (t : Totals) → result ≡ Ok t → t.supplied ≡ supplied_of (book_of loaded) steps
  supplied_is t e = ap (λ (x : Totals). x.supplied) (sym (Notes.scored_totals loaded direction steps t (sym E ∙ ap reply_of e)))

  pub score_demands : ScoreDemands loaded direction steps result
  score_demands =
      record {
        turned_down = turned_down';
        scored_valid = λ t e. let d = Notes.scored_valid loaded direction steps t (sym E ∙ ap reply_of e) in (d.steps_valid, d.steps_score);
        supplied_are = supplied_is;
        supplied_in_all = λ t e. ap in_all (supplied_is t e) ∙ supplied_all (book_of loaded) steps;
        valid_scored = λ b d v. done_scored result (totals_of (book_of loaded) steps) (E ∙ Notes.valid_scored loaded direction b d steps v);
        refused_invalid = λ refusal e h. Notes.refused_invalid loaded direction steps (number refusal) h (sym E ∙ ap reply_of e);
        invalid_refused = λ b d v.
            let k = Notes.invalid_refused loaded direction b d steps v in
            let r = refused_scored result k.0 (E ∙ k.2) in
            (r.0, r.1, ap is_of_steps r.2 ∙ k.1);
      }
