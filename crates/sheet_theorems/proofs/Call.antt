-- Ticket 8, the call: 7 comes "after Ticket 7's 12" (`sheet_before`, `sheet_7`, `sheet_passes`); the rows are those of decodes (`rows_decoded`), so where no question refuses the
-- sheet has room (`round_sheet_room`), and its lines are of the round's directions, each as decoded alone (`round_sheet_direction`, `round_sheet_answered`, `round_sheet_refused`).
-- The program's sheet has as many bytes at most (`program_room`).
use Prim.Native.Nat.{ℕ, suc, ◌*◌, ◌≤◌, ◌<◌}
use native.Mathlib.Omega.{arith}
use mathlib.Core.Path.{◌≡◌, refl, sym, ap, subst, ◌∙◌}
use mathlib.Core.Bool.{true, ◌&&◌}
use mathlib.Core.List.{List, [], ◌∷◌, map}
use borrow.Author.Tests.{leb-true, le-leb, lt-leb}
use lib.Dec.{leb}
use lib.IntN.{ℤ, pos, negsuc}
use lib.ListN.{length, get_or, length-map, get_or-map}
use Rattle.laws.proofs.Tests.{between}
use Rattle.meaning.specs.Questions.{◌unless◌, within}
use Rattle.meaning.specs.Book.{book_refusal, loaded_of, read_refusal}
use Rattle.meaning.specs.Direction.{direction_of}
use Rattle.meaning.specs.Reply.{Reply, done, refused, Lent, decode}
use Rattle.meaning.specs.Round.{are_ends, directions_of, round_refusal, answer_numbers}
use Rattle.meaning.specs.Sheet.{Row, Line, row_of, direction_line, rows_of, sheet_refusal, round_sheet, sheet_reply, direction_texts, round_input_refusal, printed_round_after, printed_round}
use Rattle.meaning.specs.declared.Answer.{Answer}
use Rattle.meaning.proofs.Chains.{first_passes, rest_passes, test_passes, done_passes, done_is}
use Rattle.meaning.proofs.Parts.{directions_count}
use Rattle.meaning.proofs.Sheets.{row_answer, row_score, row_words, row_refused}
use Rattle.theorems.proofs.Rounds.{ends_right}
use Rattle.sheet_theorems.proofs.Sheet.{n_lines, mem_map, sheet_direction}
use Rattle.sheet_theorems.proofs.Room.{OfDecode, OfDecodes, sheet_room}

-- ════ the questions

module _ (loaded : List ℤ) (directions ends : List ℕ) (lent : Lent) (answers sheet : ℕ) where
  -- the round's refusals come first ..
  pub sheet_before : (k : ℕ) → round_refusal loaded directions ends lent answers ≡ suc k → sheet_refusal loaded directions ends lent answers sheet ≡ suc k
  unfolding sheet_refusal
  sheet_before k e = rw e refl

  -- .. "fewer than 2,048 bytes are 7, after Ticket 7's 12" ..
  pub sheet_7 : round_refusal loaded directions ends lent answers ≡ 0 → sheet < 2_048 → sheet_refusal loaded directions ends lent answers sheet ≡ 7
  unfolding sheet_refusal
  sheet_7 e l = rw (e, lt-leb 2_048 sheet l) refl

  -- .. and no other question is asked
  pub sheet_passes : round_refusal loaded directions ends lent answers ≡ 0 → 2_048 ≤ sheet → sheet_refusal loaded directions ends lent answers sheet ≡ 0
  unfolding sheet_refusal
  sheet_passes e l = rw (e, le-leb 2_048 sheet l) refl

-- ════ the rows

module _ (loaded : List ℤ) (width : ℤ) (store : ℕ) where
  abbrev places : Lent
  places = record { steps = 32; words = 256; store = store }

  row_decoded : (d : List ℕ) → OfDecode (row_of (decode loaded d width places))
  row_decoded d = record {
    answer_to = row_answer loaded d width places;
    score_to = row_score loaded d width places;
    words_to = row_words loaded d width places;
    score_refused = λ l. (row_refused (decode loaded d width places) l).0;
    words_refused = λ l. (row_refused (decode loaded d width places) l).1;
  }

  pub rows_decoded : (ds : List (List ℕ)) → OfDecodes (rows_of loaded ds width store)
  unfolding rows_of
  rows_decoded ds row m = let r = mem_map (λ d. row_of (decode loaded d width places)) ds m in subst OfDecode r.2 (row_decoded r.0)

-- a row says what the nine numbers of ticket 7 say: the answer, the score and the target words
pub row_is_answer : (r : Reply Answer)
    → (pos (row_of r).answer ≡ get_or (answer_numbers r) 0 (pos 0)) × ((row_of r).score ≡ get_or (answer_numbers r) 1 (pos 0)) × (pos (row_of r).words ≡ get_or (answer_numbers r) 3 (pos 0))
row_is_answer (done a) = (refl, refl, refl)
row_is_answer (refused k) = (refl, refl, refl)

-- ════ the sheet of a round

module _ (loaded : List ℤ) (directions ends : List ℕ) (width : ℤ) where
  module _ (store : ℕ) where
    -- its rows
    abbrev pub round_rows : List Row
    round_rows = rows_of loaded (directions_of directions ends) width store

    pub round_rows_lem : length round_rows ≡ length ends
    unfolding rows_of directions_of
    round_rows_lem = length-map (directions_of directions ends) (λ d. row_of (decode loaded d width (places loaded width store))) ∙ directions_count 0 directions ends

    -- 2,048 bytes are enough: it has at most 1,430, as a round has at most 64 directions
    pub round_sheet_room : are_ends directions ends ≡ true → length (round_sheet loaded directions ends width store) ≤ 1_430
    unfolding round_sheet
    round_sheet_room t = sheet_room round_rows (rows_decoded loaded width store (directions_of directions ends)) (omega (arith, round_rows_lem, (ends_right directions ends t).few))

    module _ (k : ℕ) (l : k < length ends) (line : Line) where
      abbrev reply : Reply Answer
      reply = decode loaded (get_or (directions_of directions ends) k []) width (places loaded width store)

      -- "one line per direction": line k is of direction k, decoded alone
      pub round_sheet_direction : get_or (n_lines round_rows) k line ≡ direction_line (suc k) (row_of reply)
      unfolding rows_of
      round_sheet_direction =
          sheet_direction round_rows k line (row_of (decode loaded [] width (places loaded width store))) (omega (arith, round_rows_lem, l))
          ∙ ap (direction_line (suc k)) (get_or-map (λ d. row_of (decode loaded d width (places loaded width store))) (directions_of directions ends) k [])

      -- "`N,number,answer,score,words` .. with answer 0 for success ..
      pub round_sheet_answered : (a : Answer) → reply ≡ done a
          → get_or (n_lines round_rows) k line ≡ record { letter = 78; numbers = pos (suc k) ∷ pos 0 ∷ a.score ∷ pos a.words ∷ [] }
      round_sheet_answered a e = round_sheet_direction ∙ ap (λ (r : Reply Answer). direction_line (suc k) (row_of r)) e

      -- .. and score and words 0 on refusal"
      pub round_sheet_refused : (refusal : ℕ) → reply ≡ refused refusal
          → get_or (n_lines round_rows) k line ≡ record { letter = 78; numbers = pos (suc k) ∷ pos refusal ∷ pos 0 ∷ pos 0 ∷ [] }
      round_sheet_refused refusal e = round_sheet_direction ∙ ap (λ (r : Reply Answer). direction_line (suc k) (row_of r)) e

  module _ (lent : Lent) (answers sheet : ℕ) where
    ends_are : sheet_refusal loaded directions ends lent answers sheet ≡ 0 → are_ends directions ends ≡ true
    unfolding sheet_refusal round_refusal
    ends_are e =
        test_passes 25 (are_ends directions ends)
        (first_passes (26 unless are_ends directions ends) _ (rest_passes (book_refusal loaded) _ (first_passes (round_refusal loaded directions ends lent answers) _ e)))

    -- so where no question refuses there is room
    pub sheet_enough : sheet_refusal loaded directions ends lent answers sheet ≡ 0 → length (round_sheet loaded directions ends width lent.store) ≤ sheet
    unfolding sheet_refusal
    sheet_enough e =
        let l = leb-true 2_048 sheet (test_passes 6 (leb 2_048 sheet) (rest_passes (round_refusal loaded directions ends lent answers) _ e)) in
        omega (arith, l, round_sheet_room lent.store (ends_are e))

    -- "reporting its length"
    pub sheet_reported : (n : ℕ) → sheet_reply loaded directions ends width lent answers sheet ≡ done n
        → (n ≡ length (round_sheet loaded directions ends width lent.store)) × (n ≤ 1_430) × (2_048 ≤ sheet)
    unfolding sheet_reply sheet_refusal
    sheet_reported n e =
        let k = sheet_refusal loaded directions ends lent answers sheet in
        let size = length (round_sheet loaded directions ends width lent.store) in
        let z : sheet_refusal loaded directions ends lent answers sheet ≡ 0 = done_passes k size n e in
        let s : size ≡ n = done_is k size n e in
        (sym s, omega (arith, s, round_sheet_room lent.store (ends_are z)), leb-true 2_048 sheet (test_passes 6 (leb 2_048 sheet) (rest_passes (round_refusal loaded directions ends lent answers) _ z)))

-- ════ the program `round`

-- what it writes where it refuses nothing is a sheet of at most 64 directions
pub program_room : (book_text text : List ℕ) → round_input_refusal book_text text ≡ 0 → length (printed_round book_text text) ≤ 1_430
unfolding printed_round round_input_refusal rows_of
program_room book_text text e =
    let t = rest_passes (read_refusal book_text (length (loaded_of book_text))) _ (rest_passes (7 unless (leb (length book_text) 8_192 && leb (length text) 32_768)) _ e) in
    let n = between 1 64 (length (direction_texts text)) (test_passes 25 (within 1 64 (length (direction_texts text))) (first_passes (26 unless within 1 64 (length (direction_texts text))) _ t)) in
    let ds = map direction_of (direction_texts text) in
    let rows = rows_of (loaded_of book_text) ds (negsuc 0) (8 * 512) in
    let m : length rows ≡ length (direction_texts text) = length-map ds (λ d. row_of (decode (loaded_of book_text) d (negsuc 0) (places (loaded_of book_text) (negsuc 0) (8 * 512)))) ∙ length-map (direction_texts text) direction_of in
    subst (λ (k : ℕ). length (printed_round_after k book_text text) ≤ 1_430) (sym e) (sheet_room rows (rows_decoded (loaded_of book_text) (negsuc 0) (8 * 512) ds) (omega (arith, m, n.1)))
