-- A round from its questions to its end.
use Rattle.std.specs.declared.result.Result.TheVariants.{Ok, Err}
use Rattle.std.specs.declared.result.Result.{Result}
use Prim.Native.Nat.{ℕ, zero, suc, ◌+◌, ◌-◌, ◌*◌, ◌/◌, ◌≤◌, ◌<◌}
use native.Mathlib.Omega.{arith}
use mathlib.Core.Path.{◌≡◌, refl, ap, ◌∙◌, subst}
use mathlib.Core.Bool.{Bool, true, ◌&&◌, ◌||◌}
use mathlib.Core.List.{List, []}
use borrow.Author.Tests.{leb-true}
use lib.Dec.{leb}
use lib.IntN.{ℤ}
use lib.ListN.{length, get_or, take, drop, length-drop}
use lib.Seq.{length-take-le}
use Rattle.laws.proofs.Lists.{all_at}
use Rattle.laws.proofs.Tests.{both, between}
use Rattle.meaning.specs.Questions.{◌unless◌, ◌orelse◌, within, number}
use Rattle.meaning.specs.Book.{book_refusal}
use Rattle.meaning.specs.Reply.{reply, reply_of, decode, written_over}
use Rattle.meaning.specs.Round.{are_rising, directions_of, round_refusal, decode_round, RoundLists, kept_if_refused, alone, answer_numbers}
use Rattle.meaning.specs.declared.Refusal.{Refusal}
use Rattle.meaning.proofs.Chains.{first_passes, rest_passes, test_passes}
use Rattle.meaning.proofs.Lengths.{words_keep, answer_nine}
use Rattle.meaning.proofs.Numbered.{number_from, refused_reply}
use Rattle.meaning.proofs.Parts.{end_before, directions_count, rising_at, parts_whole, parts_long, store_long as store_same}
use Rattle.records.specs.Plain.{steps_of}
use Rattle.lists.specs.Steps.{numbers_of, as_numbers, lent_numbers}
use Rattle.lists.proofs.Threes.{how_many}
use Rattle.lists.proofs.Rounds.{numbers_keep}
use Rattle.answer.specs.declared.PlainReply.{PlainReply}
use Rattle.round_parts.specs.Told.{is_searched}
use Rattle.round_parts.specs.Places.{places_at, put_at, DecodesAt}
use Rattle.opening.specs.Opening.{Open}
use Rattle.opening.specs.declared.Counts.{Counts}
use Rattle.round_parts.proofs.Asking.{asked_is}
use Rattle.round_parts.specs.Asked.{are_rising_to, behind_book}
use Rattle.round_parts.specs.declared.ask.Room.{Room}
use Rattle.rounds.proofs.Going.{Roomy, Going, direction_is, going_on, each_steps, each_words, each_answer}

module _ (loaded : List ℤ) (directions ends : List ℕ) (steps₀ words₀ : List ℕ) (store₀ answers₀ : List ℤ) (enough : Bool) where
  -- the room that is lent, and the refusal
  abbrev pub refusal_in : ℕ
  refusal_in = round_refusal loaded directions ends (lent_numbers steps₀ words₀ store₀) (length answers₀) orelse 7 unless enough

  abbrev pub room_in : Room
  room_in = record { steps = length steps₀ / 3; words = length words₀; answers = length answers₀; enough = enough }

  -- the questions as they are asked are those of the definition
  pub refusal_is : refusal_in ≡ book_refusal loaded orelse behind_book (length directions) ends room_in
  refusal_is =
      asked_is loaded directions ends (lent_numbers steps₀ words₀ store₀) (length answers₀) enough
      ∙ ap (λ (n : ℕ). book_refusal loaded orelse behind_book (length directions) ends (record { steps = n; words = length words₀; answers = length answers₀; enough = enough })) (how_many steps₀)

  -- ════ they pass

  pub record Ready (index : List ℕ) (counts : Counts) : Type 0 where
    pub opened : Open loaded index counts
    pub passes : refusal_in ≡ 0
    pub many : length ends ≤ 64
    pub above : (k : ℕ) → k < length ends → end_before 0 ends k < get_or ends k 0
    pub inside : (k : ℕ) → k < length ends → get_or ends k 0 ≤ length directions
    pub steps_room : 96 * length ends ≤ length steps₀
    pub words_room : 256 * length ends ≤ length words₀
    pub answers_room : 9 * length ends ≤ length answers₀

  pub ready : {index : List ℕ} {counts : Counts} → Open loaded index counts → behind_book (length directions) ends room_in ≡ 0 → Ready index counts
  ready O z =
      let a = test_passes 25 (within 1 64 (length ends) && are_rising_to (length directions) 0 ends) (first_passes (26 unless (within 1 64 (length ends) && are_rising_to (length directions) 0 ends)) _ z) in
      let b = both (within 1 64 (length ends)) _ a in let r = both (are_rising 0 ends) _ b.1 in
      let t = test_passes 11 (leb (32 * length ends) (length steps₀ / 3) && leb (256 * length ends) (length words₀) && leb (9 * length ends) (length answers₀)) (first_passes _ (7 unless enough) (rest_passes (26 unless (within 1 64 (length ends) && are_rising_to (length directions) 0 ends)) _ z)) in
      let l = both (leb (32 * length ends) (length steps₀ / 3) && leb (256 * length ends) (length words₀)) _ t in let m = both (leb (32 * length ends) (length steps₀ / 3)) _ l.0 in
      let s = leb-true (32 * length ends) (length steps₀ / 3) m.0 in
      record {
        opened = O;
        passes = refusal_is ∙ ap (λ (k : ℕ). k orelse behind_book (length directions) ends room_in) O.passed ∙ z;
        many = (between 1 64 (length ends) b.0).1;
        above = λ k h. rising_at 0 ends k r.0 h;
        inside = λ k h. leb-true (get_or ends k 0) (length directions) (all_at (λ end. leb end (length directions)) ends 0 r.1 k h);
        steps_room = omega (arith, s);
        words_room = leb-true (256 * length ends) (length words₀) m.1;
        answers_room = leb-true (9 * length ends) (length answers₀) l.1;
      }

  module _ (width : ℤ) where
    pub roomy : {index : List ℕ} {counts : Counts} → Ready index counts → Roomy loaded directions ends width steps₀ words₀ store₀ answers₀
    roomy R = record { steps = R.steps_room; words = R.words_room; answers = R.answers_room }

    -- ════ direction k, where it and the lists' places are lent from the lists

    module _ {index : List ℕ} {counts : Counts} (R : Ready index counts) {k from : ℕ} {swept : Bool} {steps words : List ℕ} {store answers : List ℤ}
        (G : Going loaded directions ends width steps₀ words₀ store₀ answers₀ k from swept steps words store answers) where
      taken : length (take k (directions_of directions ends)) ≡ k
      unfolding directions_of
      taken = length-take-le k (directions_of directions ends) (let f = G.few in let c = directions_count 0 directions ends in omega arith)

      -- the lists are as long as they came
      pub steps_long : length steps ≡ length steps₀
      steps_long = ap length G.steps_are ∙ parts_long 96 (each_steps loaded directions ends width steps₀ words₀ store₀ answers₀) (numbers_keep loaded width store₀) (take k (directions_of directions ends)) steps₀ (let t = taken in let f = G.few in let r = R.steps_room in omega arith)

      pub words_long : length words ≡ length words₀
      words_long = ap length G.words_are ∙ parts_long 256 (each_words loaded directions ends width steps₀ words₀ store₀ answers₀) (words_keep loaded width store₀) (take k (directions_of directions ends)) words₀ (let t = taken in let f = G.few in let r = R.words_room in omega arith)

      pub answers_long : length answers ≡ length answers₀
      answers_long = ap length G.answers_are ∙ parts_long 9 (each_answer loaded directions ends width steps₀ words₀ store₀ answers₀) (λ d xs l. answer_nine (decode loaded d width (alone store₀))) (take k (directions_of directions ends)) answers₀ (let t = taken in let f = G.few in let r = R.answers_room in omega arith)

      pub store_long : length store ≡ length store₀
      store_long = ap length G.store_is ∙ store_same loaded width (take k (directions_of directions ends)) store₀

      module _ (h : k < length ends) where
        -- the direction is within the list
        pub from_end : from ≤ get_or ends k 0
        from_end = let a = R.above k h in let b = G.begins in omega arith

        pub end_inside : get_or ends k 0 ≤ length directions
        end_inside = R.inside k h

        -- and so are the places
        pub steps_inside : 96 * k + 96 ≤ length steps
        steps_inside = let r = R.steps_room in let l = steps_long in omega arith

        pub words_inside : 256 * k + 256 ≤ length words
        words_inside = let r = R.words_room in let l = words_long in omega arith

        pub answers_inside : 9 * k + 9 ≤ length answers
        answers_inside = let r = R.answers_room in let l = answers_long in omega arith

        pub words_many : length (places_at 256 k words) ≡ 256
        words_many = length-take-le 256 (drop (256 * k) words) (let w = words_inside in let d = length-drop (256 * k) words in omega arith)

        pub going_next : (told : PlainReply) (words₁ : List ℕ) (store₁ : List ℤ) → DecodesAt k loaded (take (get_or ends k 0 - from) (drop from directions)) width words words₁ store store₁ told
            → (swept₁ : Bool) (steps₁ : List ℕ) (answers₁ : List ℤ) → steps₁ ≡ put_at 96 k steps (written_over (numbers_of (steps_of told.plain)) (places_at 96 k steps))
            → answers₁ ≡ put_at 9 k answers (answer_numbers (reply_of told.reply)) → swept₁ ≡ swept || is_searched (reply_of told.reply)
            → Going loaded directions ends width steps₀ words₀ store₀ answers₀ (k + 1) (get_or ends k 0) swept₁ steps₁ words₁ store₁ answers₁
        going_next told words₁ store₁ D swept₁ steps₁ answers₁ s a w =
            let d : take (get_or ends k 0 - from) (drop from directions) ≡ get_or (directions_of directions ends) k [] = direction_is loaded directions ends width steps₀ words₀ store₀ answers₀ (roomy R) G h (get_or ends k 0) refl in
            let on = going_on loaded directions ends width steps₀ words₀ store₀ answers₀ (roomy R) G h told D.places store₁ (rw d at D.decodes) (get_or ends k 0) swept₁ _ _ refl refl refl w in
            rw (s, D.words_are, a) on

    abbrev pub Done : List ℕ → List ℕ → List ℤ → List ℤ → Type 0
    Done steps₁ words₁ store₁ answers₁ =
        RoundLists as_numbers refusal_in loaded (directions_of directions ends) width steps₀ steps₁ words₀ words₁ store₀ store₁ answers₀ answers₁

    -- all directions are decoded
    pub round_ends : {index : List ℕ} {counts : Counts} {k from : ℕ} {swept : Bool} {steps₁ words₁ : List ℕ} {store₁ answers₁ : List ℤ} → Ready index counts
        → Going loaded directions ends width steps₀ words₀ store₀ answers₀ k from swept steps₁ words₁ store₁ answers₁ → length ends ≤ k → Done steps₁ words₁ store₁ answers₁
    unfolding directions_of
    round_ends {index} {counts} {k} R G h =
        let last : k ≡ length (directions_of directions ends) = (let f = G.few in let c = directions_count 0 directions ends in omega arith) in
        let all : take k (directions_of directions ends) ≡ directions_of directions ends = ap (λ (n : ℕ). take n (directions_of directions ends)) last ∙ parts_whole (directions_of directions ends) in
        rw R.passes (record {
          steps_are = rw all at G.steps_are;
          words_are = rw all at G.words_are;
          store_is = rw all at G.store_is;
          answers_are = rw all at G.answers_are;
        })

    pub round_passed : {index : List ℕ} {counts : Counts} → Ready index counts
        → reply_of {A = Unit {0}} (Ok tt) ≡ reply refusal_in tt
    round_passed R = rw R.passes refl

    -- ════ one refuses

    kept : {A : Type 0} (k : ℕ) (old new : List A) → 1 ≤ k → old ≡ kept_if_refused k old new
    kept zero old new h = absurd (omega arith)
    kept (suc k) old new h = refl

    pub round_refused : (refusal : Refusal) → (book_refusal loaded orelse behind_book (length directions) ends room_in) ≡ number refusal
        → (reply_of {A = Unit {0}} (Err refusal) ≡ reply refusal_in tt) × Done steps₀ words₀ store₀ answers₀
    round_refused refusal e =
        let r : refusal_in ≡ number refusal = refusal_is ∙ e in
        let one : 1 ≤ refusal_in = omega (arith, r, number_from refusal) in
        (refused_reply refusal _ _ r, record { steps_are = kept _ _ _ one; words_are = kept _ _ _ one; store_is = kept _ _ _ one; answers_are = kept _ _ _ one })

-- ════ a round that no sheet is asked of

behind_none : (k : ℕ) → k orelse 0 ≡ k
behind_none zero = refl
behind_none (suc k) = refl

pub without_sheet : (loaded : List ℤ) (directions ends : List ℕ) (width : ℤ) (steps₀ steps₁ words₀ words₁ : List ℕ) (store₀ store₁ answers₀ answers₁ : List ℤ) (r : Result Unit Refusal)
    → (reply_of r ≡ reply (refusal_in loaded directions ends steps₀ words₀ store₀ answers₀ true) tt)
    × RoundLists as_numbers (refusal_in loaded directions ends steps₀ words₀ store₀ answers₀ true) loaded (directions_of directions ends) width steps₀ steps₁ words₀ words₁ store₀ store₁ answers₀ answers₁
    → (reply_of r ≡ decode_round loaded directions ends (lent_numbers steps₀ words₀ store₀) (length answers₀))
    × RoundLists as_numbers (round_refusal loaded directions ends (lent_numbers steps₀ words₀ store₀) (length answers₀)) loaded (directions_of directions ends) width steps₀ steps₁ words₀ words₁ store₀ store₁ answers₀ answers₁
unfolding decode_round
without_sheet loaded directions ends width steps₀ steps₁ words₀ words₁ store₀ store₁ answers₀ answers₁ r e =
    subst (λ (k : ℕ). (reply_of r ≡ reply k tt) × RoundLists as_numbers k loaded (directions_of directions ends) width steps₀ steps₁ words₀ words₁ store₀ store₁ answers₀ answers₁)
    (behind_none (round_refusal loaded directions ends (lent_numbers steps₀ words₀ store₀) (length answers₀))) e
