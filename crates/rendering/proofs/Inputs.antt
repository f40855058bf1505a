-- The program's own lists are long enough for every text that it takes, so its questions are those of the definition.
use Rattle.std.specs.declared.result.Result.TheVariants.{Ok, Err}
use Rattle.std.specs.declared.result.Result.{Result}
use Prim.Native.Nat.{ℕ, zero, suc, ◌*◌, ◌≤◌}
use native.Mathlib.Nat.{le_refl}
use native.Mathlib.Omega.{arith}
use mathlib.Core.Path.{◌≡◌, refl, sym, ◌∙◌, ap}
use mathlib.Core.Bool.{Bool, true, false, ◌&&◌}
use mathlib.Core.List.{List, ◌++◌}
use borrow.Author.Tests.{leb-true}
use lib.Dec.{leb}
use lib.IntN.{ℤ, negsuc}
use lib.ListN.{length, take, drop, length-append, length-map}
use lib.Seq.{take_at}
use Rattle.laws.specs.Integers.{nat_of}
use Rattle.laws.proofs.Tests.{both}
use Rattle.meaning.specs.Questions.{◌orelse◌, number}
use Rattle.meaning.specs.Book.{loaded_of, read_refusal}
use Rattle.meaning.specs.Direction.{word_count, direction_numbers, direction_of, read_direction_refusal}
use Rattle.meaning.specs.Reply.{done, reply, decode, written_if, reply_of, read_book, read_book_list, read_direction, read_direction_list}
use Rattle.meaning.specs.Render.{printed_refusal, printed_decode, rendered_after, input_refusal, render_decode, rendered}
use Rattle.meaning.specs.declared.Refusal.{Refusal}
use Rattle.meaning.proofs.Chains.{done_passes, done_is, refused_is}
use Rattle.meaning.proofs.Demands.{numbers_to, direction_to}
use Rattle.meaning.proofs.Rooms.{read_room, direction_room, decode_room}
use Rattle.reading.proofs.Room.{loaded_few}
use Rattle.meaning.proofs.Numbered.{number_from}
use Rattle.rendering.specs.Parts.{decode_off, printed_read}

-- ════ a text that was read into a list

-- no question refused; n numbers were written, and they are those of the text
pub record Filled {A : Type 0} (k n : ℕ) (new after : List A) : Type 0 where
  pub passes : k ≡ 0
  pub inside : n ≤ length after
  pub part : take n after ≡ new

filled : {A : Type 0} (k n : ℕ) (new old after : List A) → done n ≡ reply k (length new) → after ≡ written_if k new old → Filled k n new after
filled {A} k n new old after e w =
    let p : k ≡ 0 = done_passes k (length new) n (sym e) in
    let c : length new ≡ n = done_is k (length new) n (sym e) in
    let written : after ≡ new ++ drop (length new) old = w ∙ ap (λ (j : ℕ). written_if j new old) p in
    record {
      passes = p;
      inside = omega (arith, ap length written, length-append new (drop (length new) old));
      part = ap (take n) written ∙ take_at new (drop (length new) old) n c;
    }

module _ (text : List ℕ) (read : Result ℕ Refusal) where
  pub book_filled : (lent after : List ℤ) (n : ℕ) → read ≡ Ok n → reply_of read ≡ read_book text (length lent) → after ≡ read_book_list text lent
      → Filled (read_refusal text (length lent)) n (loaded_of text) after
  unfolding read_book read_book_list
  book_filled lent after n e r w = filled (read_refusal text (length lent)) n (loaded_of text) lent after (sym (ap reply_of e) ∙ r) w

  pub direction_filled : (lent after : List ℕ) (n : ℕ) → read ≡ Ok n → reply_of read ≡ read_direction text (length lent) → after ≡ read_direction_list text lent
      → Filled (read_direction_refusal text (length lent)) n (direction_of text) after
  unfolding read_direction read_direction_list
  direction_filled lent after n e r w = filled (read_direction_refusal text (length lent)) n (direction_of text) lent after (sym (ap reply_of e) ∙ r) w

  module _ (places : ℕ) (refusal : Refusal) (e : read ≡ Err refusal) where
    pub book_refusal_lem : reply_of read ≡ read_book text places → read_refusal text places ≡ number refusal
    unfolding read_book
    book_refusal_lem r = refused_is (read_refusal text places) (number refusal) (length (loaded_of text)) (sym r ∙ ap reply_of e)

    pub direction_refusal : reply_of read ≡ read_direction text places → read_direction_refusal text places ≡ number refusal
    unfolding read_direction
    direction_refusal r = refused_is (read_direction_refusal text places) (number refusal) (length (direction_of text)) (sym r ∙ ap reply_of e)

-- ════ the lists' lengths

-- a loaded book has no more numbers than its text bytes
pub book_places : (text : List ℕ) → length text ≤ 8_192 → read_refusal text 8_192 ≡ read_refusal text (length (loaded_of text))
book_places text h = read_room text 8_192 (length (loaded_of text)) (λ t. omega (arith, loaded_few text t)) (λ _. le_refl _)

-- a direction that 9 passes has at most 32 words
direction_places : (text : List ℕ) → read_direction_refusal text 32 ≡ read_direction_refusal text (length (direction_of text))
unfolding direction_of
direction_places text =
    direction_room text 32 (length (direction_of text)) (numbers_to (direction_numbers text)) (λ _. omega (arith, length-map (direction_numbers text) nat_of))

decode_places : (loaded : List ℤ) (direction : List ℕ)
    → decode_off loaded direction ≡ decode loaded direction (negsuc 0) (record { steps = word_count direction; words = 8 * word_count direction; store = 8 * 512 })
unfolding decode_off
decode_places loaded direction =
    decode_room loaded direction (negsuc 0) 32 256 (word_count direction) (8 * word_count direction) 4_096
    (λ e. let h = direction_to direction e in (h, omega arith)) (λ _. (le_refl _, le_refl _))

-- ════ what is printed

-- the book is read, and the direction is refused or decoded
module _ (loaded : List ℤ) (directionText : List ℕ) where
  pub direction_refused : {k : ℕ} (refusal : Refusal) → k ≡ number refusal → printed_refusal (number refusal) ≡ printed_read k loaded directionText
  direction_refused refusal e = by (number refusal) (number_from refusal) ∙ ap (λ (j : ℕ). printed_read j loaded directionText) (sym e)
    where
      by : (j : ℕ) → 1 ≤ j → printed_refusal j ≡ printed_read j loaded directionText
      by zero l = absurd (omega arith)
      by (suc j) l = refl

  pub direction_decoded : {k n : ℕ} {words : List ℕ} → Filled k n (direction_of directionText) words
      → printed_decode loaded (take n words) (decode_off loaded (take n words)) ≡ printed_read k loaded directionText
  direction_decoded f =
      ap (λ (d : List ℕ). printed_decode loaded d (decode_off loaded d)) f.part
      ∙ ap (λ (j : ℕ). printed_read j loaded directionText) (sym f.passes)

module _ (book_text directionText : List ℕ) where
  abbrev short : Bool
  short = leb (length book_text) 8_192 && leb (length directionText) 512

  abbrev rest : ℕ
  rest = read_direction_refusal directionText (length (direction_of directionText))

  refused_first : (k m : ℕ) → 1 ≤ k → printed_refusal k ≡ rendered_after (k orelse m) book_text directionText
  refused_first zero m h = absurd (omega arith)
  refused_first (suc k) m h = refl

  read_after : (k : ℕ) → printed_read k (loaded_of book_text) directionText ≡ rendered_after k book_text directionText
  unfolding render_decode
  read_after zero = ap (printed_decode (loaded_of book_text) (direction_of directionText)) (decode_places (loaded_of book_text) (direction_of directionText))
  read_after (suc k) = refl

  -- "More bytes than that in either print `R,7`, before any question."
  pub too_long : short ≡ false → printed_refusal 7 ≡ rendered book_text directionText
  unfolding rendered input_refusal
  too_long e = rw e refl

  module _ (s : short ≡ true) where
    asked : rendered_after (read_refusal book_text 8_192 orelse rest) book_text directionText ≡ rendered book_text directionText
    unfolding rendered input_refusal
    asked =
        rw s
        (ap (λ (k : ℕ). rendered_after (k orelse rest) book_text directionText)
        (book_places book_text (leb-true _ _ (both (leb (length book_text) 8_192) _ s).0)))

    pub book_refused : (refusal : Refusal) → read_refusal book_text 8_192 ≡ number refusal → printed_refusal (number refusal) ≡ rendered book_text directionText
    book_refused refusal e =
        refused_first (number refusal) rest (number_from refusal)
        ∙ ap (λ (k : ℕ). rendered_after (k orelse rest) book_text directionText) (sym e) ∙ asked

    pub book_read : {n : ℕ} {after : List ℤ} → Filled (read_refusal book_text 8_192) n (loaded_of book_text) after
        → printed_read (read_direction_refusal directionText 32) (take n after) directionText ≡ rendered book_text directionText
    book_read f =
        ap (λ (l : List ℤ). printed_read (read_direction_refusal directionText 32) l directionText) f.part
        ∙ read_after (read_direction_refusal directionText 32)
        ∙ ap (λ (k : ℕ). rendered_after k book_text directionText) (direction_places directionText)
        ∙ ap (λ (k : ℕ). rendered_after (k orelse rest) book_text directionText) (sym f.passes) ∙ asked
