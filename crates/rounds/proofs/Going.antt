-- How far a round has come: k directions are decoded, and each list is as it is after them.
use Prim.Native.Nat.{ℕ, zero, suc, ◌+◌, ◌-◌, ◌*◌, ◌≤◌, ◌<◌}
use native.Mathlib.Omega.{arith}
use mathlib.Core.Path.{◌≡◌, refl, sym, ap, ◌∙◌, subst}
use mathlib.Core.Bool.{Bool, true, false, ◌||◌}
use mathlib.Core.List.{List, [], ◌++◌}
use lib.IntN.{ℤ, pos}
use lib.ListN.{length, get_or, take, drop, replicate, length-replicate}
use Rattle.meaning.specs.Book.{book_of}
use Rattle.meaning.specs.Search.{answer}
use Rattle.meaning.specs.Reply.{Reply, refused, done, written_over, written_if, Lent, reply_of, before_search, decode_refusal, answer_steps, decode, cleared_if, decoded_words, decoded_store}
use Rattle.meaning.specs.Round.{directions_of, alone, answer_numbers, by_parts, store_after}
use Rattle.meaning.specs.declared.Answer.{Answer}
use Rattle.meaning.specs.declared.Step.{Step}
use Rattle.meaning.proofs.Chains.{first_passes, done_passes}
use Rattle.meaning.proofs.Demands.{refused_late}
use Rattle.meaning.proofs.Lengths.{words_keep, answer_nine}
use Rattle.meaning.proofs.Parts.{part_of, part_long, parts_next, parts_ahead, end_before, directions_count, direction_at, store_more, store_long}
use Rattle.records.specs.Plain.{steps_of}
use Rattle.lists.specs.Steps.{numbers_of, decoded_numbers}
use Rattle.lists.proofs.Rounds.{numbers_keep}
use Rattle.clearing.specs.Swept.{Swept}
use Rattle.decoder.specs.Decodes.{PlainDecodes}
use Rattle.answer.specs.declared.PlainReply.{PlainReply}
use Rattle.round_parts.specs.Told.{is_searched}
use Rattle.round_parts.proofs.Telling.{numbers_written}

-- ════ what one direction leaves

-- a search was begun where its reply says so
searched_begun : (loaded : List ℤ) (d : List ℕ) (width : ℤ) (lent : Lent) (r : Reply Answer) → decode loaded d width lent ≡ r → is_searched r ≡ true → before_search loaded d width lent ≡ 0
unfolding decode decode_refusal
searched_begun loaded d width lent (done a) e s = first_passes (before_search loaded d width lent) _ (done_passes (decode_refusal loaded d width lent) _ a e)
searched_begun loaded d width lent (refused k) e s = refused_late loaded d width lent k s e

zero_cleared : (k : ℕ) (store : List ℤ) → store ≡ replicate (length store) (pos 0) → cleared_if k store ≡ replicate (length store) (pos 0)
zero_cleared zero store e = refl
zero_cleared (suc k) store e = e

-- the store is all zero afterwards if it was so before or the direction was searched
swept_then : (loaded : List ℤ) (d : List ℕ) (width : ℤ) (lent : Lent) (swept : Bool) (store : List ℤ) → Swept swept store
    → (b : Bool) → b ≡ swept || is_searched (decode loaded d width lent) → Swept b (decoded_store loaded d width lent store)
unfolding decoded_store
swept_then loaded d width lent swept store z false e = tt
swept_then loaded d width lent swept store z true e =
    let c : cleared_if (before_search loaded d width lent) store ≡ replicate (length store) (pos 0) = by swept z e in
    c ∙ ap (λ (n : ℕ). replicate n (pos 0)) (sym (ap length c ∙ length-replicate (length store) (pos 0)))
  where
    by : (swept : Bool) → Swept swept store → true ≡ swept || is_searched (decode loaded d width lent) → cleared_if (before_search loaded d width lent) store ≡ replicate (length store) (pos 0)
    by true z e = zero_cleared (before_search loaded d width lent) store z
    by false z e = ap (λ (k : ℕ). cleared_if k store) (searched_begun loaded d width lent (decode loaded d width lent) refl (sym e))

module _ (loaded : List ℤ) (directions ends : List ℕ) (width : ℤ) (steps₀ words₀ : List ℕ) (store₀ answers₀ : List ℤ) where
  abbrev pub ds : List (List ℕ)
  ds = directions_of directions ends

  -- what is written for each direction
  abbrev pub each_steps : List ℕ → List ℕ → List ℕ
  each_steps d = decoded_numbers loaded d width (alone store₀)

  abbrev pub each_words : List ℕ → List ℕ → List ℕ
  each_words d = decoded_words loaded d width (alone store₀)

  abbrev pub each_answer : List ℕ → List ℤ → List ℤ
  each_answer d old = answer_numbers (decode loaded d width (alone store₀))

  -- there are places for all
  pub record Roomy : Type 0 where
    pub steps : 96 * length ends ≤ length steps₀
    pub words : 256 * length ends ≤ length words₀
    pub answers : 9 * length ends ≤ length answers₀

  pub record Going (k from : ℕ) (swept : Bool) (steps words : List ℕ) (store answers : List ℤ) : Type 0 where
    pub few : k ≤ length ends
    pub begins : from ≡ end_before 0 ends k
    pub steps_are : steps ≡ by_parts 96 each_steps (take k ds) steps₀
    pub words_are : words ≡ by_parts 256 each_words (take k ds) words₀
    pub store_is : store ≡ store_after loaded width (take k ds) store₀
    pub answers_are : answers ≡ by_parts 9 each_answer (take k ds) answers₀
    pub swept_is : Swept swept store

  -- none is decoded yet
  pub going_begins : Going 0 0 false steps₀ words₀ store₀ answers₀
  going_begins = record { few = omega arith; begins = refl; steps_are = refl; words_are = refl; store_is = refl; answers_are = refl; swept_is = tt }

  ds_count : length ds ≡ length ends
  unfolding directions_of
  ds_count = directions_count 0 directions ends

  module _ (R : Roomy) {k from : ℕ} {swept : Bool} {steps words : List ℕ} {store answers : List ℤ} (G : Going k from swept steps words store answers) (h : k < length ends) where
    abbrev direction : List ℕ
    direction = get_or ds k []

    inside : k < length ds
    inside = omega (arith, ds_count)

    fit : (size : ℕ) {A : Type 0} (list : List A) → size * length ends ≤ length list → size * length ds ≤ length list
    fit size list l = subst (λ (n : ℕ). size * n ≤ length list) (sym ds_count) l

    -- the direction that is lent
    pub direction_is : (end : ℕ) → end ≡ get_or ends k 0 → take (end - from) (drop from directions) ≡ direction
    unfolding directions_of
    direction_is end e = rw (e, G.begins) (sym (direction_at 0 directions ends k h))

    -- the places that are lent, and that they are as before
    pub steps_part : part_of 96 k steps ≡ part_of 96 k steps₀
    steps_part = ap (part_of 96 k) G.steps_are ∙ parts_ahead 96 each_steps (numbers_keep loaded width store₀) ds steps₀ k inside (fit 96 steps₀ R.steps)

    pub words_part : part_of 256 k words ≡ part_of 256 k words₀
    words_part = ap (part_of 256 k) G.words_are ∙ parts_ahead 256 each_words (words_keep loaded width store₀) ds words₀ k inside (fit 256 words₀ R.words)

    pub store_same : length store ≡ length store₀
    store_same = ap length G.store_is ∙ store_long loaded width (take k ds) store₀

    one_more : suc k ≡ k + 1
    one_more = omega arith

    -- what is written over a direction's places
    next_part : {A : Type 0} (size : ℕ) (each : List ℕ → List A → List A) → ((d : List ℕ) (xs : List A) → length xs ≡ size → length (each d xs) ≡ size)
        → (list₀ list new : List A) → size * length ends ≤ length list₀ → list ≡ by_parts size each (take k ds) list₀ → new ≡ each direction (part_of size k list₀)
        → take (size * k) list ++ (new ++ drop size (drop (size * k) list)) ≡ by_parts size each (take (k + 1) ds) list₀
    next_part {A} size each keeps list₀ list new l e n =
        let now = by_parts size each (take k ds) list₀ in
        ap (λ (xs : List A). take (size * k) xs ++ (new ++ drop size (drop (size * k) xs))) e
        ∙ ap (λ (xs : List A). take (size * k) now ++ (xs ++ drop size (drop (size * k) now))) n
        ∙ sym (parts_next size each keeps ds list₀ k [] inside (fit size list₀ l))
        ∙ ap (λ (j : ℕ). by_parts size each (take j ds) list₀) one_more

    -- one direction more
    module _ (told : PlainReply) (words' : List ℕ) (store' : List ℤ) (D : PlainDecodes loaded direction width 32 (part_of 256 k words) words' store store' told) where
      abbrev lent : Lent
      lent = record { steps = 32; words = length (part_of 256 k words); store = length store }

      lent_is : lent ≡ alone store₀
      lent_is = rw (ap length words_part ∙ part_long 256 k (length ends) words₀ h R.words, store_same) refl

      its_words : words' ≡ each_words direction (part_of 256 k words₀)
      its_words = D.words_are ∙ ap (λ (l : Lent). decoded_words loaded direction width l (part_of 256 k words)) lent_is ∙ ap (each_words direction) words_part

      its_steps : (steps' : List ℕ) → steps' ≡ written_over (numbers_of (steps_of told.plain)) (part_of 96 k steps) → steps' ≡ each_steps direction (part_of 96 k steps₀)
      unfolding decoded_numbers
      its_steps steps' e =
          let found = answer_steps (answer (book_of loaded) direction width) in
          e ∙ ap (λ (xs : List Step). written_over (numbers_of xs) (part_of 96 k steps)) D.steps_are
          ∙ numbers_written (decode_refusal loaded direction width lent) found (part_of 96 k steps)
          ∙ ap (λ (l : Lent). written_if (decode_refusal loaded direction width l) (numbers_of found) (part_of 96 k steps)) lent_is ∙ ap (each_steps direction) steps_part

      its_answer : (answers' : List ℤ) → answers' ≡ answer_numbers (reply_of told.reply) → answers' ≡ each_answer direction (part_of 9 k answers₀)
      its_answer answers' e = e ∙ ap answer_numbers D.reply_is ∙ ap (λ (l : Lent). answer_numbers (decode loaded direction width l)) lent_is

      its_store : store' ≡ store_after loaded width (take (k + 1) ds) store₀
      its_store =
          D.store_is ∙ ap (λ (l : Lent). decoded_store loaded direction width l store) lent_is ∙ ap (decoded_store loaded direction width (alone store₀)) G.store_is
          ∙ sym (store_more loaded width ds store₀ k inside) ∙ ap (λ (j : ℕ). store_after loaded width (take j ds) store₀) one_more

      pub going_on : (end : ℕ) (swept' : Bool) (steps' : List ℕ) (answers' : List ℤ) → end ≡ get_or ends k 0
          → steps' ≡ written_over (numbers_of (steps_of told.plain)) (part_of 96 k steps) → answers' ≡ answer_numbers (reply_of told.reply)
          → swept' ≡ swept || is_searched (reply_of told.reply)
          → Going (k + 1) end swept' (take (96 * k) steps ++ (steps' ++ drop 96 (drop (96 * k) steps))) (take (256 * k) words ++ (words' ++ drop 256 (drop (256 * k) words))) store'
          (take (9 * k) answers ++ (answers' ++ drop 9 (drop (9 * k) answers)))
      going_on end swept' steps' answers' e s a w =
          record {
            few = omega arith;
            begins = e ∙ ap (end_before 0 ends) one_more;
            steps_are = next_part 96 each_steps (numbers_keep loaded width store₀) steps₀ steps steps' R.steps G.steps_are (its_steps steps' s);
            words_are = next_part 256 each_words (words_keep loaded width store₀) words₀ words words' R.words G.words_are its_words;
            store_is = its_store;
            answers_are = next_part 9 each_answer (λ d xs l. answer_nine (decode loaded d width (alone store₀))) answers₀ answers answers' R.answers G.answers_are (its_answer answers' a);
            swept_is = subst (Swept swept') (sym D.store_is) (swept_then loaded direction width lent swept store G.swept_is swept' (w ∙ ap (λ (r : Reply Answer). swept || is_searched r) D.reply_is));
          }
