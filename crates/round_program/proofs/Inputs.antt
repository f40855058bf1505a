-- The book is read whatever it is, so the program's questions are those of the definition.
use Prim.Native.Nat.{ℕ, zero, suc, ◌≤◌}
use native.Mathlib.Omega.{arith}
use mathlib.Core.Path.{◌≡◌, refl, sym, ◌∙◌, ap}
use mathlib.Core.Bool.{Bool, true, false, ◌&&◌}
use mathlib.Core.List.{List, map}
use borrow.Author.Tests.{leb-true}
use lib.Dec.{leb}
use lib.IntN.{ℤ}
use lib.ListN.{length, take, drop, length-append}
use Rattle.laws.proofs.Tests.{both}
use Rattle.meaning.specs.Questions.{◌unless◌, ◌orelse◌, within, number}
use Rattle.meaning.specs.Book.{loaded_of, read_refusal, book_refusal}
use Rattle.meaning.specs.Direction.{direction_of}
use Rattle.meaning.specs.Reply.{written_over}
use Rattle.meaning.specs.Render.{printed_refusal}
use Rattle.meaning.specs.Sheet.{direction_texts, texts_refusal, round_input_refusal, printed_round_after, printed_round}
use Rattle.meaning.specs.declared.Refusal.{Refusal}
use Rattle.meaning.proofs.Loaded.{read_passes}
use Rattle.meaning.proofs.Numbered.{number_from}
use Rattle.rendering.proofs.Inputs.{Filled, book_places}
use Rattle.round_program.specs.Parts.{printed_sheet}

-- the book that was read passes every question
pub read_book_passes : (book_text : List ℕ) {n : ℕ} {after : List ℤ} → Filled (read_refusal book_text 8_192) n (loaded_of book_text) after → book_refusal (take n after) ≡ 0
read_book_passes book_text f = ap book_refusal f.part ∙ read_passes book_text 8_192 f.passes

module _ (book_text text : List ℕ) where
  abbrev short : Bool
  short = leb (length book_text) 8_192 && leb (length text) 32_768

  -- the questions behind the book's
  abbrev rest : ℕ
  rest = 26 unless within 1 64 (length (direction_texts text)) orelse texts_refusal (direction_texts text)

  refused_first : (k m : ℕ) → 1 ≤ k → printed_refusal k ≡ printed_round_after (k orelse m) book_text text
  refused_first zero m h = absurd (omega arith)
  refused_first (suc k) m h = refl

  read_after : (k : ℕ) → printed_sheet k (loaded_of book_text) (map direction_of (direction_texts text)) ≡ printed_round_after k book_text text
  read_after zero = refl
  read_after (suc k) = refl

  -- 7 for more bytes than the program takes
  pub too_long : short ≡ false → printed_refusal 7 ≡ printed_round book_text text
  unfolding printed_round round_input_refusal
  too_long e = rw e refl

  module _ (s : short ≡ true) where
    asked : printed_round_after (read_refusal book_text 8_192 orelse rest) book_text text ≡ printed_round book_text text
    unfolding printed_round round_input_refusal
    asked =
        rw s
        (ap (λ (k : ℕ). printed_round_after (k orelse rest) book_text text)
        (book_places book_text (leb-true _ _ (both (leb (length book_text) 8_192) _ s).0)))

    pub book_refused : (refusal : Refusal) → read_refusal book_text 8_192 ≡ number refusal → printed_refusal (number refusal) ≡ printed_round book_text text
    book_refused refusal e =
        refused_first (number refusal) rest (number_from refusal)
        ∙ ap (λ (k : ℕ). printed_round_after (k orelse rest) book_text text) (sym e) ∙ asked

    pub book_read : {n : ℕ} {after : List ℤ} → Filled (read_refusal book_text 8_192) n (loaded_of book_text) after
        → printed_sheet rest (take n after) (map direction_of (direction_texts text)) ≡ printed_round book_text text
    book_read f =
        ap (λ (l : List ℤ). printed_sheet rest l (map direction_of (direction_texts text))) f.part
        ∙ read_after rest
        ∙ ap (λ (k : ℕ). printed_round_after (k orelse rest) book_text text) (sym f.passes) ∙ asked

-- what is printed is no longer than the list that it is put into
pub printed_inside : (book text old : List ℕ) {new : List ℕ} {r : ℕ} → r ≡ length (printed_round book text) → new ≡ written_over (printed_round book text) old → r ≤ length new
printed_inside book text old e w = omega (arith, e, ap length w, length-append (printed_round book text) (drop (length (printed_round book text)) old))
