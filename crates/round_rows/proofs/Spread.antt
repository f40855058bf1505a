-- A round on zeros: its reply is that of the caller's own places, and its steps, put over any list of records, are those of the round on that list.
use Rattle.std.specs.declared.result.Result.{Result}
use Rattle.meaning.specs.declared.Refusal.{Refusal}
use Prim.Native.Nat.{ℕ, ◌*◌, ◌≤◌}
use native.Mathlib.Omega.{arith}
use mathlib.Core.Path.{◌≡◌, sym, ap, subst, ◌∙◌}
use mathlib.Core.List.{List, ◌++◌}
use lib.Dec.{leb}
use lib.IntN.{ℤ}
use lib.ListN.{length, take, drop, replicate, length-append, length-replicate}
use lib.Seq.{take_at}
use Rattle.meaning.specs.Questions.{◌unless◌, ◌orelse◌}
use Rattle.meaning.specs.Reply.{reply, reply_of, written_if}
use Rattle.meaning.specs.Round.{as_records, by_parts, alone, kept_if_refused, decode_round, round_refusal, directions_of, RoundLists}
use Rattle.meaning.specs.Sheet.{sheet_refusal, round_sheet, sheet_reply}
use Rattle.meaning.specs.declared.Step.{Step}
use Rattle.meaning.proofs.Chains.{first_passes}
use Rattle.meaning.proofs.Parts.{directions_count}
use Rattle.records.specs.Rows.{rows_to, put_over}
use Rattle.lists.specs.Steps.{records_in, lent_numbers, decoded_numbers, as_numbers, places_for}
use Rattle.lists.proofs.Threes.{how_many}
use Rattle.lists.proofs.Placed.{take_zeros, rows_first, round_over, same_refusal, room_for}
use Rattle.round_rows.specs.Rows.{DecodesRows, SheetsRows}

module _ (loaded : List ℤ) (directions ends : List ℕ) (width : ℤ) (room count size : ℕ) (words₀ words₁ : List ℕ) (store₀ store₁ answers₀ answers₁ : List ℤ) (after : List ℕ)
    (c : count ≡ places_for (length ends) room) (s : size ≡ 6144) where
  -- the numbers lent, and what is left behind them
  abbrev lent : List ℕ
  lent = take (3 * count) (replicate size 0)

  abbrev numbers : List ℕ
  numbers = after ++ drop (3 * count) (replicate size 0)

  abbrev refusal_on : ℕ → ℕ
  refusal_on steps = round_refusal loaded directions ends (record { steps = steps; words = length words₀; store = length store₀ }) (length answers₀)

  lent_is : lent ≡ replicate (3 * count) 0
  lent_is = take_zeros (3 * count) size (omega arith)

  -- so many places
  places : length (records_in lent) ≡ count
  places = let l = ap length lent_is in let r = length-replicate {A = ℕ} (3 * count) 0 in how_many lent ∙ omega arith

  same : refusal_on (length (records_in lent)) ≡ refusal_on room
  same = ap refusal_on (places ∙ c) ∙ same_refusal loaded directions ends (length words₀) (length store₀) (length answers₀) room

  has_places : refusal_on room ≡ 0 → 32 * length ends ≤ count
  has_places e = room_for loaded directions ends (length words₀) (length store₀) (length answers₀) count (ap refusal_on (sym places) ∙ same ∙ e)

  ds_count : length (directions_of directions ends) ≡ length ends
  unfolding directions_of
  ds_count = directions_count 0 directions ends

  -- the lists of a round, on the numbers lent and on records, whatever refuses it
  abbrev OnNumbers : ℕ → Type 0
  OnNumbers refusal = RoundLists as_numbers refusal loaded (directions_of directions ends) width lent after words₀ words₁ store₀ store₁ answers₀ answers₁

  abbrev OnRecords : ℕ → List Step → Type 0
  OnRecords refusal steps = RoundLists as_records refusal loaded (directions_of directions ends) width steps (put_over (rows_to numbers count) steps) words₀ words₁ store₀ store₁ answers₀ answers₁

  module _ (kept : length after ≡ length lent) where
    after_long : length after ≡ count * 3
    after_long = let l = ap length lent_is in let r = length-replicate {A = ℕ} (3 * count) 0 in kept ∙ omega arith

    rows_are : rows_to numbers count ≡ records_in after
    rows_are = let a = length-append after (drop (3 * count) (replicate size 0)) in rows_first numbers count (omega (arith, a, after_long)) ∙ ap records_in (take_at after (drop (3 * count) (replicate size 0)) (count * 3) after_long)

    lists_over : (refusal : ℕ) → (refusal ≡ 0 → 32 * length ends ≤ count) → OnNumbers refusal → (steps : List Step) → length steps ≡ room → OnRecords refusal steps
    lists_over refusal enough lists steps e = record {
      steps_are = ap (λ (l : List Step). put_over l steps) rows_are ∙ round_over loaded width store₀ refusal (directions_of directions ends) (3 * count) after steps
          (λ z. let h = enough z in let d = ds_count in (omega arith, omega arith)) (lists.steps_are ∙ ap (λ (l : List ℕ). kept_if_refused refusal l (by_parts 96 (λ d. decoded_numbers loaded d width (alone store₀)) (directions_of directions ends) l)) lent_is);
      words_are = lists.words_are;
      store_is = lists.store_is;
      answers_are = lists.answers_are;
    }

    -- ════ the round

    pub decodes_rows : (replied : Result Unit Refusal) → reply_of replied ≡ decode_round loaded directions ends (lent_numbers lent words₀ store₀) (length answers₀) → OnNumbers (refusal_on (length (records_in lent)))
        → DecodesRows loaded directions ends width room words₀ words₁ store₀ store₁ answers₀ answers₁ (record { rows = record { count = count; numbers = numbers }; reply = replied })
    unfolding decode_round
    decodes_rows replied told lists = record {
      has_room = omega arith;
      few = omega arith;
      reply_is = told ∙ ap (λ (k : ℕ). reply k tt) same;
      lists_are = lists_over (refusal_on room) has_places (subst OnNumbers same lists);
    }

    -- ════ and its sheet

    module _ (sheet₀ sheet₁ : List ℕ) where
      abbrev sheet_on : ℕ → ℕ
      sheet_on steps = sheet_refusal loaded directions ends (record { steps = steps; words = length words₀; store = length store₀ }) (length answers₀) (length sheet₀)

      same_sheet : sheet_on (length (records_in lent)) ≡ sheet_on room
      unfolding sheet_refusal
      same_sheet = ap (λ (k : ℕ). k orelse 7 unless leb 2_048 (length sheet₀)) same

      round_passes : sheet_on room ≡ 0 → refusal_on room ≡ 0
      unfolding sheet_refusal
      round_passes e = first_passes (refusal_on room) _ e

      abbrev bytes : List ℕ
      bytes = round_sheet loaded directions ends width (length store₀)

      pub sheets_rows : (replied : Result ℕ Refusal) → reply_of replied ≡ sheet_reply loaded directions ends width (lent_numbers lent words₀ store₀) (length answers₀) (length sheet₀) → OnNumbers (sheet_on (length (records_in lent)))
          → sheet₁ ≡ written_if (sheet_on (length (records_in lent))) bytes sheet₀
          → SheetsRows loaded directions ends width room words₀ words₁ store₀ store₁ answers₀ answers₁ sheet₀ sheet₁ (record { rows = record { count = count; numbers = numbers }; reply = replied })
      unfolding sheet_reply
      sheets_rows replied told lists written = record {
        has_room = omega arith;
        few = omega arith;
        reply_is = told ∙ ap (λ (k : ℕ). reply k (length bytes)) same_sheet;
        lists_are = lists_over (sheet_on room) (λ e. has_places (round_passes e)) (subst OnNumbers same_sheet lists);
        sheet_is = written ∙ ap (λ (k : ℕ). written_if k bytes sheet₀) same_sheet;
      }
