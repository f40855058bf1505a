-- A round's sheet from the questions to its bytes, whatever form the steps have.
use Rattle.std.specs.declared.result.Result.TheVariants.{Ok, Err}
use Rattle.std.specs.declared.result.Result.{Result}
use Rattle.meaning.specs.declared.Refusal.{Refusal}
use Prim.Native.Nat.{ℕ, ◌*◌, ◌≤◌}
use native.Mathlib.Omega.{arith}
use mathlib.Core.Path.{◌≡◌, sym, ap, ◌∙◌}
use mathlib.Core.Bool.{◌&&◌}
use mathlib.Core.List.{List}
use borrow.Author.Tests.{leb-true}
use lib.Dec.{leb}
use lib.IntN.{ℤ}
use lib.ListN.{length}
use Rattle.laws.proofs.Tests.{both, between}
use Rattle.meaning.specs.Questions.{◌unless◌, within, number}
use Rattle.meaning.specs.Book.{book_refusal}
use Rattle.meaning.specs.Reply.{reply, done, Lent, reply_of, written_over, written_if, decode}
use Rattle.meaning.specs.Round.{are_rising, are_ends, directions_of, round_refusal, Form, alone, answer_numbers, by_parts, kept_if_refused, RoundLists}
use Rattle.meaning.specs.Sheet.{sheet_of, sheet_refusal, round_sheet, sheet_reply}
use Rattle.meaning.proofs.Chains.{first_passes, rest_passes, test_passes, done_passes, refused_is, reply_done, written_done, written_refused}
use Rattle.meaning.proofs.Numbered.{number_from, refused_reply}
use Rattle.meaning.proofs.Parts.{directions_count}
use Rattle.sheet.specs.Rows.{rows_in, Fits}
use Rattle.round_sheet.specs.Told.{Tellable, Told}
use Rattle.round_sheet.proofs.Answers.{round_fits, round_rows_lem}

module _ {A : Type 0} (form : Form A) (loaded : List ℤ) (directions ends : List ℕ) (width : ℤ) (steps₀ : List A) (words₀ : List ℕ) (store₀ answers₀ : List ℤ) (sheet₀ : List ℕ) where
  abbrev lent : Lent
  lent = record { steps = form.places steps₀; words = length words₀; store = length store₀ }

  abbrev of_round : ℕ
  of_round = round_refusal loaded directions ends lent (length answers₀)

  abbrev refusal : ℕ
  refusal = sheet_refusal loaded directions ends lent (length answers₀) (length sheet₀)

  -- what the call ensures
  abbrev pub Sheeted : List A → List ℕ → List ℤ → List ℤ → List ℕ → Result ℕ Refusal → Type 0
  Sheeted steps₁ words₁ store₁ answers₁ sheet₁ r =
      (reply_of r ≡ sheet_reply loaded directions ends width lent (length answers₀) (length sheet₀))
      × (RoundLists form refusal loaded (directions_of directions ends) width steps₀ steps₁ words₀ words₁ store₀ store₁ answers₀ answers₁
      × (sheet₁ ≡ written_if refusal (round_sheet loaded directions ends width (length store₀)) sheet₀))

  -- a call that passes has passed the round's questions, and has bytes enough
  round_passes : refusal ≡ 0 → of_round ≡ 0
  unfolding sheet_refusal
  round_passes z = first_passes of_round _ z

  enough : refusal ≡ 0 → 2_048 ≤ length sheet₀
  unfolding sheet_refusal
  enough z = leb-true 2_048 (length sheet₀) (test_passes 6 (leb 2_048 (length sheet₀)) (rest_passes of_round _ z))

  -- a round that passes has 1 to 64 directions, and places for their answers
  roomy : of_round ≡ 0 → (length ends ≤ 64) × (9 * length ends ≤ length answers₀)
  unfolding round_refusal are_ends
  roomy z =
      let behind = rest_passes (book_refusal loaded) _ z in
      let t = test_passes 25 _ (first_passes (26 unless are_ends directions ends) _ behind) in
      let u = both (within 1 64 (length ends)) _ (both (within 1 64 (length ends) && are_rising 0 ends) _ t).0 in
      let v = test_passes 11 _ (rest_passes (26 unless are_ends directions ends) _ behind) in
      ((between 1 64 (length ends) u.0).1, leb-true (9 * length ends) (length answers₀) (both (leb (32 * length ends) lent.steps && leb (256 * length ends) (length words₀)) _ v).1)

  module _ {steps₁ : List A} {words₁ : List ℕ} {store₁ answers₁ : List ℤ}
      (lists : RoundLists form refusal loaded (directions_of directions ends) width steps₀ steps₁ words₀ words₁ store₀ store₁ answers₀ answers₁) where
    abbrev ds : List (List ℕ)
    ds = directions_of directions ends

    many : length ds ≡ length ends
    unfolding directions_of
    many = directions_count 0 directions ends

    module _ (z : refusal ≡ 0) where
      few : length ds ≤ 64
      few = omega (arith, many, (roomy (round_passes z)).0)

      room : 9 * length ds ≤ length answers₀
      room = omega (arith, many, (roomy (round_passes z)).1)

      after : answers₁ ≡ by_parts 9 (λ d old. answer_numbers (decode loaded d width (alone store₀))) ds answers₀
      after = lists.answers_are ∙ ap (λ (k : ℕ). kept_if_refused k answers₀ (by_parts 9 (λ d old. answer_numbers (decode loaded d width (alone store₀))) ds answers₀)) z

      fits : Fits answers₁ (length ends)
      fits = rw (after, ← many) (round_fits loaded width store₀ ds answers₀ few room)

      rows : sheet_of (rows_in answers₁ (length ends)) ≡ round_sheet loaded directions ends width (length store₀)
      unfolding round_sheet
      rows = ap sheet_of (rw (after, ← many) (round_rows_lem loaded width store₀ ds answers₀ few room))

    passed : reply_of {A = Unit {0}} (Ok tt) ≡ reply refusal tt → refusal ≡ 0
    passed e = done_passes refusal _ _ (sym e)

    pub sheet_tellable : (r : Result Unit Refusal) → reply_of r ≡ reply refusal tt → Tellable r answers₁ (length ends) sheet₀
    sheet_tellable (Ok tt) e = (fits (passed e), enough (passed e))
    sheet_tellable (Err why) e = tt

    pub sheet_told : (r : Result Unit Refusal) (sheet₁ : List ℕ) (told : Result ℕ Refusal) → reply_of r ≡ reply refusal tt → Told r answers₁ (length ends) sheet₀ sheet₁ told
        → Sheeted steps₁ words₁ store₁ answers₁ sheet₁ told
    unfolding sheet_reply
    sheet_told (Ok tt) sheet₁ told e t =
        let b = rows (passed e) in
        (t.0 ∙ ap (λ (bs : List ℕ). done (length bs)) b ∙ sym (reply_done refusal _ (passed e)), (lists, t.1 ∙ ap (λ (bs : List ℕ). written_over bs sheet₀) b ∙ sym (written_done refusal _ sheet₀ (passed e))))
    sheet_told (Err why) sheet₁ told e t =
        let k : refusal ≡ number why = refused_is refusal (number why) _ (sym e) in
        (t.0 ∙ refused_reply why _ _ k, (lists, t.1 ∙ sym (written_refused refusal _ sheet₀ (omega (arith, k, number_from why)))))
