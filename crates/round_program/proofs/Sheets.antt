-- The program's lists are long enough for 64 directions, so what is put is the sheet, or the refusal.
use Prim.Native.Nat.{ℕ, zero, suc, ◌*◌, ◌/◌, ◌≤◌}
use native.Mathlib.Omega.{arith}
use mathlib.Core.Path.{◌≡◌, refl, sym, ◌∙◌, ap, subst}
use mathlib.Core.Bool.{true, false, ◌&&◌}
use mathlib.Core.List.{List, ◌++◌, map}
use borrow.Author.Tests.{le-leb}
use lib.Dec.{leb}
use lib.IntN.{ℤ, negsuc}
use lib.ListN.{length, drop, length-append, length-drop}
use Rattle.laws.specs.Lists.{all}
use Rattle.laws.proofs.Tests.{both, both_of, between}
use Rattle.meaning.specs.Questions.{◌unless◌, ◌orelse◌, within, number}
use Rattle.meaning.specs.Book.{book_refusal}
use Rattle.meaning.specs.Direction.{direction_of}
use Rattle.meaning.specs.Reply.{done, refused, written_if}
use Rattle.meaning.specs.Render.{printed_refusal}
use Rattle.meaning.specs.Round.{are_rising, are_ends, directions_of, round_refusal}
use Rattle.meaning.specs.Sheet.{sheet_of, rows_of, sheet_refusal, round_sheet, sheet_reply, texts_refusal}
use Rattle.meaning.specs.declared.Refusal.{Refusal}
use Rattle.meaning.proofs.Chains.{done_passes, done_is, refused_is, written_done, written_refused}
use Rattle.meaning.proofs.Numbered.{number_from}
use Rattle.lists.specs.Steps.{lent_numbers}
use Rattle.lists.proofs.Threes.{how_many}
use Rattle.decimals.specs.Put.{Put}
use Rattle.decimals.proofs.Laws.{put_is}
use Rattle.round_lines.specs.Lines.{AllRead}
use Rattle.round_program.specs.Parts.{program_lent, printed_sheet}

-- a refusal is printed
pub refusal_printed : {k : ℕ} (loaded : List ℤ) (ds : List (List ℕ)) (refusal : Refusal) → k ≡ number refusal → printed_refusal (number refusal) ≡ printed_sheet k loaded ds
refusal_printed loaded ds refusal e = by (number refusal) (number_from refusal) ∙ ap (λ (j : ℕ). printed_sheet j loaded ds) (sym e)
  where
    by : (j : ℕ) → 1 ≤ j → printed_refusal j ≡ printed_sheet j loaded ds
    by zero l = absurd (omega arith)
    by (suc j) l = refl

-- 26, and then the directions' questions
module _ (loaded : List ℤ) (texts : List (List ℕ)) where
  pub not_a_round : within 1 64 (length texts) ≡ false → printed_refusal 26 ≡ printed_sheet (26 unless within 1 64 (length texts) orelse texts_refusal texts) loaded (map direction_of texts)
  not_a_round e = rw e refl

  pub a_round : within 1 64 (length texts) ≡ true
      → printed_sheet (texts_refusal texts) loaded (map direction_of texts) ≡ printed_sheet (26 unless within 1 64 (length texts) orelse texts_refusal texts) loaded (map direction_of texts)
  a_round e = rw e refl

-- ════ the lists that are lent

lent_is : (steps words : List ℕ) (store : List ℤ) → length steps ≡ 6_144 → length words ≡ 16_384 → length store ≡ 4_096 → lent_numbers steps words store ≡ program_lent
lent_is steps words store s w t i = record { steps = (how_many steps ∙ ap (λ (n : ℕ). n / 3) s) i; words = w i; store = t i }

module _ (loaded : List ℤ) (directions ends : List ℕ) where
  few_ends : are_ends directions ends ≡ true → length ends ≤ 64
  unfolding are_ends
  few_ends e =
      let front = (both (within 1 64 (length ends) && are_rising 0 ends) (all (λ end. leb end (length directions)) ends) e).0 in
      (between 1 64 (length ends) (both (within 1 64 (length ends)) (are_rising 0 ends) front).0).1

  roomy : length ends ≤ 64 → (leb (32 * length ends) 2_048 && leb (256 * length ends) 16_384 && leb (9 * length ends) 576) ≡ true
  roomy h = both_of (both_of (le-leb (32 * length ends) 2_048 (omega arith)) (le-leb (256 * length ends) 16_384 (omega arith))) (le-leb (9 * length ends) 576 (omega arith))

  -- the round's questions pass
  sheet_passes : book_refusal loaded ≡ 0 → are_ends directions ends ≡ true → sheet_refusal loaded directions ends program_lent 576 2_048 ≡ 0
  unfolding sheet_refusal round_refusal
  sheet_passes b e = rw (b, e, roomy (few_ends e))

  -- and the sheet is that of the directions that were read
  pub sheet_read : (texts : List (List ℕ)) (n : ℕ) → book_refusal loaded ≡ 0 → AllRead texts n directions ends
      → printed_sheet (sheet_refusal loaded directions ends program_lent 576 2_048) loaded (directions_of directions ends) ≡ printed_sheet (texts_refusal texts) loaded (map direction_of texts)
  sheet_read texts n b a =
      ap (λ (k : ℕ). printed_sheet k loaded (directions_of directions ends)) (sheet_passes b a.right ∙ sym a.passes)
      ∙ ap (printed_sheet (texts_refusal texts) loaded) a.are

  -- ════ what the call put

  module _ (steps words : List ℕ) (store answers : List ℤ) (s : length steps ≡ 6_144) (w : length words ≡ 16_384) (t : length store ≡ 4_096) (a : length answers ≡ 576)
      (out new : List ℕ) (o : length out ≡ 2_048) where
    abbrev asked : ℕ
    asked = sheet_refusal loaded directions ends (lent_numbers steps words store) (length answers) (length out)

    abbrev sheet : List ℕ
    sheet = round_sheet loaded directions ends (negsuc 0) (length store)

    asked_is : asked ≡ sheet_refusal loaded directions ends program_lent 576 2_048
    asked_is i = sheet_refusal loaded directions ends (lent_is steps words store s w t i) (a i) (o i)

    sheet_is : sheet ≡ printed_sheet 0 loaded (directions_of directions ends)
    unfolding round_sheet
    sheet_is = ap (λ (n : ℕ). sheet_of (rows_of loaded (directions_of directions ends) (negsuc 0) n)) t

    pub sheet_put : (n : ℕ) → done n ≡ sheet_reply loaded directions ends (negsuc 0) (lent_numbers steps words store) (length answers) (length out)
        → new ≡ written_if asked sheet out → length new ≡ length out
        → Put (printed_sheet (sheet_refusal loaded directions ends program_lent 576 2_048) loaded (directions_of directions ends)) 0 n out new
    unfolding sheet_reply
    sheet_put n r e same =
        let p : asked ≡ 0 = done_passes asked (length sheet) n (sym r) in
        let c : length sheet ≡ n = done_is asked (length sheet) n (sym r) in
        let l : new ≡ sheet ++ drop (length sheet) out = e ∙ written_done asked sheet out p in
        put_is
        (sheet_is ∙ ap (λ (k : ℕ). printed_sheet k loaded (directions_of directions ends)) (sym p ∙ asked_is))
        (record {
          end = omega (arith, c);
          room = omega (arith, c, ap length l, length-append sheet (drop (length sheet) out), length-drop (length sheet) out);
          same = same;
          list = l ∙ ap (λ (k : ℕ). sheet ++ drop k out) c;
        })

    pub sheet_refused : (refusal : Refusal) → refused (number refusal) ≡ sheet_reply loaded directions ends (negsuc 0) (lent_numbers steps words store) (length answers) (length out)
        → new ≡ written_if asked sheet out → {r : ℕ} {last : List ℕ} → Put (printed_refusal (number refusal)) 0 r new last
        → Put (printed_sheet (sheet_refusal loaded directions ends program_lent 576 2_048) loaded (directions_of directions ends)) 0 r out last
    unfolding sheet_reply
    sheet_refused refusal r e {r = n} {last} put =
        let p : asked ≡ number refusal = refused_is asked (number refusal) (length sheet) (sym r) in
        let kept : new ≡ out = e ∙ written_refused asked sheet out (omega (arith, p, number_from refusal)) in
        put_is (refusal_printed loaded (directions_of directions ends) refusal (sym asked_is ∙ p))
        (subst (λ (l : List ℕ). Put (printed_refusal (number refusal)) 0 n l last) kept put)
