-- The round is decoded where there are bytes enough, and its answers are told.
use Rattle.std.specs.declared.result.Result.{Result}
use Rattle.meaning.specs.declared.Refusal.{Refusal}
use Prim.Native.Nat.{ℕ}
use mathlib.Core.Path.{◌≡◌}
use mathlib.Core.List.{List}
use lib.Dec.{leb}
use lib.IntN.{ℤ}
use lib.ListN.{length}
use Rattle.meaning.specs.Questions.{◌unless◌, ◌orelse◌}
use Rattle.meaning.specs.Reply.{reply, reply_of}
use Rattle.meaning.specs.Round.{directions_of, round_refusal, RoundLists}
use Rattle.meaning.specs.Sheet.{sheet_refusal}
use Rattle.lists.specs.Steps.{as_numbers, lent_numbers}
use Rattle.round_sheet.proofs.Whole.{sheet_tellable, sheet_told}
use mir.Syntax.{w64}
use Rattle.laws.proofs.Integers.{back}
use Rattle.round_sheet.proofs.round_sheet.Goals as goal

-- what `decode_if` ensures is said of the sheet's refusal
as-sheet : (loaded : List ℤ) (directions ends : List ℕ) (width : ℤ) (steps₀ words₀ : List ℕ) (store₀ answers₀ : List ℤ) (sheet₀ : List ℕ) (steps₁ words₁ : List ℕ) (store₁ answers₁ : List ℤ) (r : Result Unit Refusal)
    → (reply_of r ≡ reply (round_refusal loaded directions ends (lent_numbers steps₀ words₀ store₀) (length answers₀) orelse 7 unless leb 2_048 (length sheet₀)) tt)
    × RoundLists as_numbers (round_refusal loaded directions ends (lent_numbers steps₀ words₀ store₀) (length answers₀) orelse 7 unless leb 2_048 (length sheet₀)) loaded (directions_of directions ends) width steps₀ steps₁ words₀ words₁ store₀ store₁ answers₀ answers₁
    → (reply_of r ≡ reply (sheet_refusal loaded directions ends (lent_numbers steps₀ words₀ store₀) (length answers₀) (length sheet₀)) tt)
    × RoundLists as_numbers (sheet_refusal loaded directions ends (lent_numbers steps₀ words₀ store₀) (length answers₀) (length sheet₀)) loaded (directions_of directions ends) width steps₀ steps₁ words₀ words₁ store₀ store₁ answers₀ answers₁
unfolding sheet_refusal
as-sheet loaded directions ends width steps₀ words₀ store₀ answers₀ sheet₀ steps₁ words₁ store₁ answers₁ r e = e

pub tell-requires : goal.tell-requires
tell-requires c =
    let a = c.args in
    let d = c.decode_if-reply in
    let e = as-sheet a.book.now a.directions.now a.ends.now _ a.steps.now a.words.now a.store.now a.answers.now a.sheet.now _ _ _ _ d.result (d.ensures.result_value, d.ensures.round_lists) in
    sheet_tellable as_numbers a.book.now a.directions.now a.ends.now _ a.steps.now a.words.now a.store.now a.answers.now a.sheet.now e.1 d.result e.0

pub returns : goal.returns
returns c =
    let a = c.args in
    let d = c.decode_if-reply in
    let e = as-sheet a.book.now a.directions.now a.ends.now a.width a.steps.now a.words.now a.store.now a.answers.now a.sheet.now _ _ _ _ d.result (d.ensures.result_value, rw (back w64 c.args.width c.ranges.width.sfits) at d.ensures.round_lists) in
    let t = sheet_told as_numbers a.book.now a.directions.now a.ends.now a.width a.steps.now a.words.now a.store.now a.answers.now a.sheet.now e.1 d.result _ c.tell.result e.0 c.tell.ensures in
    record { result_value = t.0; round_lists = t.1.0; sheet_after = t.1.1 }
