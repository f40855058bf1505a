-- The answer on plain numbers is that of the definition, question by question.
use Rattle.std.specs.declared.result.Result.TheVariants.{Ok}
use Prim.Native.Nat.{ℕ, zero, suc, ◌*◌, ◌/◌, ◌^◌, ◌≤◌, ◌<◌}
use native.Mathlib.Omega.{arith}
use mathlib.Core.Path.{◌≡◌, refl, sym, ◌∙◌, ap, subst}
use mathlib.Core.Bool.{Bool, true, false, not, cond, ◌&&◌, ◌||◌, true≢false}
use mathlib.Core.List.{List, [], ◌∷◌}
use mathlib.Core.Option.{Option, none, some}
use borrow.Author.Tests.{leb-true}
use lib.Dec.{leb}
use lib.IntN.{ℤ, pos, negsuc}
use lib.Signed.{le_z, lt_z}
use lib.ListN.{length, replicate, length-replicate}
use Rattle.laws.specs.Lists.{is_empty}
use Rattle.laws.proofs.Got.{i64}
use Rattle.laws.proofs.Tests.{both}
use Rattle.meaning.specs.Questions.{◌unless◌, ◌orelse◌, number}
use Rattle.meaning.specs.Book.{Book, book_of, book_refusal}
use Rattle.meaning.specs.Direction.{word_count, direction_refusal}
use Rattle.meaning.specs.Derivation.{is_valid, target_words}
use Rattle.meaning.specs.State.{Hyp, start}
use Rattle.meaning.specs.Search.{is_off, entered, last_set, answer}
use Rattle.meaning.specs.Reply.{refused, done, reply, written_over, written_if, Lent, reply_of, before_search, after_search, decode_refusal, answer_steps, decode, decoded_steps, decoded_words, decoded_store, Decodes}
use Rattle.meaning.specs.declared.Answer.{Answer}
use Rattle.meaning.specs.declared.Refusal.{Refusal}
use Rattle.meaning.specs.declared.Refusal.TheVariants.{Width, StepsOrWordsTooShort, StoreTooSmall, NoDerivation, LastSetEmpty}
use Rattle.meaning.specs.declared.Step.{Step}
use Rattle.meaning.proofs.Answers.{answer_derives, answer_none}
use Rattle.meaning.proofs.Chains.{refused_is, done_passes, written_done, written_refused}
use Rattle.meaning.proofs.Demands.{direction_to, decode_counts}
use Rattle.meaning.proofs.Numbered.{number_from}
use Rattle.meaning.proofs.Valid.{proposal_valid}
use Rattle.options.specs.Options.{OptionsOf}
use Rattle.derivation.specs.Prepared.{Prepared}
use Rattle.derivation.specs.declared.Setup.{Setup}
use Rattle.proposal.proofs.Long.{passes_short}
use Rattle.records.specs.Plain.{steps_of}
use Rattle.records.proofs.Laws.{count_steps}
use Rattle.answer.specs.declared.PlainReply.{PlainReply}
use Rattle.extending.specs.Searchable.{Searchable}
use Rattle.answer.specs.Told.{Told}
use Rattle.decoder.specs.Decodes.{refused_by, no_answer, Concluded, SearchedIf, unless_refused, PlainDecodes}

-- the width, as the code compares it
pub width_is : (width than : ℤ) {is : Bool} → i64 width ≡ width → lt_z (i64 width) than ≡ is → lt_z width than ≡ is
width_is width than kept t = rw kept at t

-- a valid derivation has no more steps than words
valid_short : (book : Book) (direction : List ℕ) (steps : List Step) → is_valid book direction steps ≡ true → length steps ≤ word_count direction
unfolding start
valid_short book direction steps v =
    let l : length (start (word_count direction)).covered ≡ word_count direction = length-replicate (word_count direction) false in
    let s = passes_short book direction (start (word_count direction)) steps l ((proposal_valid book direction steps).1 v) in
    omega arith

not_empty : (l : List Hyp) → (l ≡ [] → ⊥) → is_empty l ≡ false
not_empty [] f = absurd (f refl)
not_empty (q ∷ l) f = refl

abbrev is_some : Option Hyp → Bool
is_some none = false
is_some (some q) = true

some_none : {q : Hyp} → some q ≡ none → ⊥
some_none e = let t : true ≡ false = ap is_some e in absurd (true≢false t)

-- 14 with pruning off, 15 with a width
none_reply : (off : Bool) (a : Answer) → reply (14 unless (not off || not true) orelse 15 unless not true) a ≡ refused (number (cond off NoDerivation LastSetEmpty))
none_reply true a = refl
none_reply false a = refl

some_passes : (off : Bool) → 14 unless (not off || not false) orelse 15 unless not false ≡ 0
some_passes true = refl
some_passes false = refl

-- a refusal has no steps
none_where : (k : ℕ) (steps : List Step) → 1 ≤ k → unless_refused k steps ≡ []
none_where zero steps h = absurd (omega arith)
none_where (suc k) steps h = refl

module _ (loaded : List ℤ) (direction : List ℕ) (width : ℤ) (room : ℕ) (words₀ : List ℕ) (store₀ : List ℤ) where
  abbrev book : Book
  book = book_of loaded

  abbrev lent_of : ℕ → Lent
  lent_of m = record { steps = m; words = length words₀; store = length store₀ }

  -- the refusal is the reply's
  refused_with : (refusal : Refusal) → decode loaded direction width (lent_of room) ≡ refused (number refusal) → decode_refusal loaded direction width (lent_of room) ≡ number refusal
  unfolding decode
  refused_with refusal d = refused_is (decode_refusal loaded direction width (lent_of room)) (number refusal) _ d

  -- ════ a refusal
  module _ {words₁ : List ℕ} {store₁ : List ℤ} where
    pub refuses : (refusal : Refusal) → decode loaded direction width (lent_of room) ≡ refused (number refusal) → words₁ ≡ words₀ → store₁ ≡ decoded_store loaded direction width (lent_of room) store₀
        → {r : PlainReply} → r ≡ refused_by refusal → PlainDecodes loaded direction width room words₀ words₁ store₀ store₁ r
    unfolding decoded_words
    refuses refusal d w s e =
        let k : 1 ≤ decode_refusal loaded direction width (lent_of room) = omega (arith, refused_with refusal d, number_from refusal) in
        subst (PlainDecodes loaded direction width room words₀ words₁ store₀ store₁) (sym e)
        (record {
          has_room = omega arith;
          few = omega arith;
          reply_is = sym d;
          steps_are = sym (none_where _ _ k);
          words_are = w ∙ sym (written_refused _ _ _ k);
          store_is = s;
        })

  module _ (b : book_refusal loaded ≡ 0) (d : direction_refusal direction ≡ 0) where
    -- ════ questions 11 and 12: no list changes
    pub refuses_11 : le_z (negsuc 0) width ≡ false → {r : PlainReply} → r ≡ refused_by Width → PlainDecodes loaded direction width room words₀ words₀ store₀ store₀ r
    unfolding decode decode_refusal before_search decoded_store
    refuses_11 w = refuses Width (rw (b, d, w)) refl (rw (b, d, w))

    module _ (w : le_z (negsuc 0) width ≡ true) where
      pub refuses_12 : leb (word_count direction) room && leb (8 * word_count direction) (length words₀) ≡ false → {r : PlainReply} → r ≡ refused_by StepsOrWordsTooShort
          → PlainDecodes loaded direction width room words₀ words₀ store₀ store₀ r
      unfolding decode decode_refusal before_search decoded_store
      refuses_12 l = refuses StepsOrWordsTooShort (rw (b, d, w, l)) refl (rw (b, d, w, l))

      -- ════ the search
      module _ (l : leb (word_count direction) room && leb (8 * word_count direction) (length words₀) ≡ true) (fits : word_count direction ≤ room) (few : word_count direction ≤ 32)
          (words₁ : List ℕ) (store₁ : List ℤ) (zero_is : store₁ ≡ replicate (length store₀) (pos 0)) where
        cleared : store₁ ≡ decoded_store loaded direction width (lent_of room) store₀
        unfolding decoded_store before_search
        cleared = rw (b, d, w, l) zero_is

        abbrev places : Bool
        places = leb (length (entered book direction width)) (length store₀ / 8)

        full : places ≡ false → decode loaded direction width (lent_of room) ≡ refused 13
        unfolding decode decode_refusal before_search after_search
        full e = rw (b, d, w, l, e)

        without : places ≡ true → answer book direction width ≡ none → decode loaded direction width (lent_of room) ≡ refused (number (no_answer width))
        unfolding decode decode_refusal before_search after_search
        without e a =
            let z : is_empty (last_set book direction width) ≡ true = ap is_empty ((answer_none book direction width).0 a) in
            rw (b, d, w, l, e, z) (none_reply (is_off width) _)

        with_state : (q : Hyp) → places ≡ true → answer book direction width ≡ some q → decode_refusal loaded direction width (lent_of room) ≡ 0
        unfolding decode_refusal before_search after_search
        with_state q e a =
            let z : is_empty (last_set book direction width) ≡ false = not_empty (last_set book direction width) (λ n. some_none (sym a ∙ (answer_none book direction width).1 n)) in
            rw (b, d, w, l, e, z) (some_passes (is_off width))

        answers : (q : Hyp) → places ≡ true → answer book direction width ≡ some q → {r : PlainReply} → Told book q (length (entered book direction width)) words₀ words₁ r
            → PlainDecodes loaded direction width room words₀ words₁ store₀ store₁ r
        unfolding decode decoded_words
        answers q e a {r} T =
            let short = valid_short book direction q.steps (answer_derives book direction width q a).steps_valid in
            let c = T.count_is in
            let k = with_state q e a in
            record {
              has_room = omega arith;
              few = omega arith;
              reply_is = rw (k, a) (ap reply_of T.reply_is);
              steps_are = rw (k, a) T.steps_are;
              words_are = rw (k, a) T.words_after;
              store_is = cleared;
            }

        concludes : (o : Option Hyp) → places ≡ true → answer book direction width ≡ o → (r : PlainReply) → Concluded o book width (length (entered book direction width)) words₀ words₁ r
            → PlainDecodes loaded direction width room words₀ words₁ store₀ store₁ r
        concludes none e a r (is, same) = refuses (no_answer width) (without e a) same cleared is
        concludes (some q) e a r T = answers q e a T

        pub searches : (p : Bool) → places ≡ p → (r : PlainReply) → SearchedIf p book direction width words₀ words₁ r → PlainDecodes loaded direction width room words₀ words₁ store₀ store₁ r
        searches true e r C = concludes (answer book direction width) e refl r C
        searches false e r (is, same) = refuses StoreTooSmall (full e) same cleared is

-- ════ an answer, as plain numbers and written over a caller's list

module _ {loaded : List ℤ} {direction : List ℕ} {width : ℤ} {room : ℕ} {words₀ words₁ : List ℕ} {store₀ store₁ : List ℤ} {r : PlainReply}
    (D : PlainDecodes loaded direction width room words₀ words₁ store₀ store₁ r) {a : Answer} (e : r.reply ≡ Ok a) where
  pub plain_decoded : decode loaded direction width (record { steps = room; words = length words₀; store = length store₀ }) ≡ done a
  plain_decoded = sym D.reply_is ∙ ap reply_of e

  passed : decode_refusal loaded direction width (record { steps = room; words = length words₀; store = length store₀ }) ≡ 0
  unfolding decode
  passed = done_passes (decode_refusal loaded direction width (record { steps = room; words = length words₀; store = length store₀ })) _ a plain_decoded

  pub plain_steps : steps_of r.plain ≡ answer_steps (answer (book_of loaded) direction width)
  plain_steps = D.steps_are ∙ ap (λ (k : ℕ). unless_refused k (answer_steps (answer (book_of loaded) direction width))) passed

  pub plain_words : words₁ ≡ written_over (target_words (book_of loaded) (answer_steps (answer (book_of loaded) direction width))) words₀
  unfolding decoded_words
  plain_words = D.words_are ∙ written_done _ _ words₀ passed

  -- as many as are reported
  pub plain_count : a.steps ≡ r.plain.count
  plain_count = (decode_counts loaded direction width _ a plain_decoded).0 ∙ ap length (sym plain_steps) ∙ count_steps r.plain r.plain.count

written : (k : ℕ) (steps old : List Step) → written_over (unless_refused k steps) old ≡ written_if k steps old
written zero steps old = refl
written (suc k) steps old = refl

pub decodes_into : {loaded : List ℤ} {direction : List ℕ} {width : ℤ} {steps₀ steps₁ : List Step} {words₀ words₁ : List ℕ} {store₀ store₁ : List ℤ} {r : PlainReply}
    → PlainDecodes loaded direction width (length steps₀) words₀ words₁ store₀ store₁ r → steps₁ ≡ written_over (steps_of r.plain) steps₀
    → Decodes loaded direction width steps₀ steps₁ words₀ words₁ store₀ store₁ r.reply
unfolding decoded_steps
decodes_into {loaded} {direction} {width} {steps₀} {words₀} {store₀} D e =
    let lent : Lent = record { steps = length steps₀; words = length words₀; store = length store₀ } in
    record {
      reply_is = D.reply_is;
      steps_are = e ∙ ap (λ (xs : List Step). written_over xs steps₀) D.steps_are ∙ written (decode_refusal loaded direction width lent) _ steps₀;
      words_are = D.words_are;
      store_is = D.store_is;
    }

-- ════ the lists of the search are ready

pub made_searchable : {loaded : List ℤ} {direction : List ℕ} {index : List ℕ} {options : List ℕ} {t : Setup} → Prepared loaded direction index t
    → OptionsOf (book_of loaded) direction options → length options < 2 ^ 63
    → Searchable loaded direction index options t
made_searchable {direction} R of small =
    record {
      prepared = R;
      choices = record {
        n_is = R.n_is;
        few = direction_to direction R.directed;
        entries_at = R.entries_at;
        options_of = of;
        options_small = small;
      };
    }

-- question 12, as it was asked
pub room_is : (room words : ℕ) {n m : ℕ} {b : Bool} → n ≡ m → b ≡ leb n room && leb (8 * n) words → leb m room && leb (8 * m) words ≡ b
room_is room words e t = ap (λ (k : ℕ). leb k room && leb (8 * k) words) (sym e) ∙ sym t

pub room_both : (m room words : ℕ) → leb m room && leb (8 * m) words ≡ true → (m ≤ room) × (8 * m ≤ words)
room_both m room words e = let u = both (leb m room) (leb (8 * m) words) e in (leb-true m room u.0, leb-true (8 * m) words u.1)
