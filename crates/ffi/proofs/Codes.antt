-- A refusal's number has at most two digits, so it fits every type of the interface, and so does a count within a lent list.
use Rattle.std.specs.declared.result.Result.TheVariants.{Ok, Err}
use Rattle.std.specs.declared.result.Result.{Result}
use Prim.Native.Nat.{ℕ, ◌≤◌, ◌<◌}
use native.Mathlib.Omega.{arith}
use mathlib.Core.Path.{◌≡◌, refl, sym, ap, ◌∙◌}
use mathlib.Core.List.{List}
use borrow.Author.Tests.{leb-true}
use lib.IntN.{ℤ, pos, neg_ℤ, ◌-ℤ◌, +ℤ_idl}
use lib.ListN.{length, drop, length-map, length-append}
use mir.Syntax.{w64}
use mir.Val.{to_z, of_z, SFits}
use Rattle.laws.proofs.Bounds.{within_pos}
use Rattle.laws.proofs.Got.{Got, nat, lit, sub, fits, kept}
use Rattle.meaning.specs.Book.{in_text, is_book_text, text_lines, lines_refusal, loaded_of, read_refusal}
use Rattle.meaning.specs.Direction.{is_direction_text, direction_numbers, numbers_refusal, read_direction_refusal, direction_of}
use Rattle.meaning.specs.Reply.{reply, Lent, reply_of, read_book, read_direction, written_if}
use Rattle.laws.specs.Integers.{nat_of}
use Rattle.meaning.proofs.Chains.{test_passes, rest_passes, done_passes, done_is, written_done}
use Rattle.arpa.specs.Import.{longer_book, import_refusal, import_arpa}
use Rattle.arpa.proofs.Scoring.{taken}
use Rattle.meaning.specs.Sheet.{sheet_refusal, round_sheet, sheet_reply}
use Rattle.meaning.specs.Revision.{added, add_refusal, add_entry, removed, remove_refusal, remove_entry}
use Rattle.revising.proofs.Replies.{addable, removed_fits}
use Rattle.loading.specs.Loaded.{refusal_of}
use Rattle.ffi.specs.Bounds.{Counted}
use Rattle.ffi.specs.Calls.{zero_or_refusal}
use Rattle.meaning.specs.Questions.{◌unless◌}
use Rattle.meaning.specs.declared.Refusal.{Refusal}

-- a check's answer, as C has it, is its number
pub code_is : (r : Result Unit Refusal) → zero_or_refusal (reply_of r) ≡ pos (refusal_of r)
code_is (Ok tt) = refl
code_is (Err refusal) = refl

-- minus a refusal's number
module _ (k : ℕ) (h : k ≤ 99) where
  minus_got : Got 99 (pos 0 -ℤ to_z w64 k) (pos 0 -ℤ pos k)
  minus_got = sub (lit {B = 0} (pos 0) (within_pos 0)) (nat w64 {n = k} {B = 99} (omega arith) h)

  pub minus_fits : SFits w64 (pos 0 -ℤ to_z w64 k)
  minus_fits = fits minus_got (omega arith)

  pub minus_is : to_z w64 (of_z w64 (pos 0 -ℤ to_z w64 k)) ≡ neg_ℤ (pos k)
  minus_is = (kept w64 minus_got (omega arith)).is ∙ +ℤ_idl (neg_ℤ (pos k))

-- what was read is within the lent list
pub counted : (r : Result ℕ Refusal) (k n places : ℕ) → reply_of r ≡ reply k n → (k ≡ 0 → n ≤ places) → places < 9_223_372_036_854_775_808 → Counted r
counted (Ok m) k n places e f l =
    let p = f (done_passes k n m (sym e)) in
    let q = done_is k n m (sym e) in
    omega arith
counted (Err refusal) k n places e f l = tt

pub book_fits : (text : List ℕ) (places : ℕ) → read_refusal text places ≡ 0 → length (loaded_of text) ≤ places
unfolding read_refusal
book_fits text places e =
    leb-true _ _ (test_passes 6 _ (rest_passes (lines_refusal in_text (text_lines text)) _ (rest_passes (1 unless is_book_text text) _ e)))

pub direction_fits : (text : List ℕ) (places : ℕ) → read_direction_refusal text places ≡ 0 → length (direction_of text) ≤ places
unfolding read_direction_refusal direction_of
direction_fits text places e =
    let n : length (direction_numbers text) ≤ places = leb-true _ _ (test_passes 6 _ (rest_passes (numbers_refusal (direction_numbers text)) _ (rest_passes (8 unless is_direction_text text) _ e))) in
    omega (arith, n, length-map (direction_numbers text) nat_of)

-- the replies of the two readers as chains of questions
pub book_reply : (text : List ℕ) (places : ℕ) (r : Result ℕ Refusal) → reply_of r ≡ read_book text places → reply_of r ≡ reply (read_refusal text places) (length (loaded_of text))
unfolding read_book
book_reply text places r e = e

pub direction_reply : (text : List ℕ) (places : ℕ) (r : Result ℕ Refusal) → reply_of r ≡ read_direction text places → reply_of r ≡ reply (read_direction_refusal text places) (length (direction_of text))
unfolding read_direction
direction_reply text places r e = e

-- and of the two revisions: what is then in use is within the lent list
pub added_counted : (list : List ℤ) (used : ℕ) (line : List ℤ) (r : Result ℕ Refusal) → reply_of r ≡ add_entry list used line → length list < 9_223_372_036_854_775_808 → Counted r
unfolding add_entry
added_counted list used line r e h = counted r (add_refusal list used line) (length (added list used line)) (length list) e (λ p. (addable list used line p).fits) h

pub removed_counted : (list : List ℤ) (used k : ℕ) (r : Result ℕ Refusal) → reply_of r ≡ remove_entry list used k → length list < 9_223_372_036_854_775_808 → Counted r
unfolding remove_entry
removed_counted list used k r e h = counted r (remove_refusal list used k) (length (removed list used k)) (length list) e (removed_fits list used k) h

-- so it is after an import
pub imported_counted : (text words : List ℕ) (list : List ℤ) (used : ℕ) (r : Result ℕ Refusal) → reply_of r ≡ import_arpa text words list used → length list < 9_223_372_036_854_775_808 → Counted r
unfolding import_arpa
imported_counted text words list used r e h = counted r (import_refusal text words list used) (length (longer_book text words list used)) (length list) e (λ p. (taken text words list used p).fits) h

-- and a sheet's length: its bytes stand in the lent list
pub sheet_counted : (loaded : List ℤ) (directions ends : List ℕ) (width : ℤ) (lent : Lent) (answers : ℕ) (sheet₀ sheet₁ : List ℕ) (r : Result ℕ Refusal) → reply_of r ≡ sheet_reply loaded directions ends width lent answers (length sheet₀)
    → sheet₁ ≡ written_if (sheet_refusal loaded directions ends lent answers (length sheet₀)) (round_sheet loaded directions ends width lent.store) sheet₀ → length sheet₁ < 9_223_372_036_854_775_808 → Counted r
unfolding sheet_reply
sheet_counted loaded directions ends width lent answers sheet₀ sheet₁ r e w h =
    let k = sheet_refusal loaded directions ends lent answers (length sheet₀) in
    let bytes = round_sheet loaded directions ends width lent.store in
    counted r k (length bytes) (length sheet₁) e (λ z. omega (arith, ap length (w ∙ written_done k bytes sheet₀ z), length-append bytes (drop (length bytes) sheet₀))) h
