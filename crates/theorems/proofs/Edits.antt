-- Ticket 5, "A decode after any edits equals a decode of the edited book read afresh.": after any additions and removals, refused ones too, the numbers in use
-- are those of the edited text as reading loads it, and reading takes that text (`edits_hold`); so all that a call answers is the same (`edits_decode`,
-- `edits_score`, `edits_part`).
use Prim.Native.Nat.{ℕ, zero, suc, ◌-◌, ◌≤◌}
use native.Mathlib.Omega.{arith}
use mathlib.Core.Path.{◌≡◌, refl, sym, ap, ◌∙◌, subst}
use mathlib.Core.Bool.{true, false, ◌&&◌, cond}
use mathlib.Core.List.{List, [], ◌∷◌, ◌++◌}
use borrow.Author.Tests.{eqb-true, eqb-false, leb-true}
use lib.Dec.{eqb}
use lib.IntN.{ℤ, pos}
use lib.ListN.{length, take, drop, replicate}
use lib.Seq.{take-append_seam}
use Rattle.laws.specs.Lists.{count, is_empty}
use Rattle.laws.proofs.Fill.{over_long}
use Rattle.laws.proofs.Tests.{by_test, both, is_false}
use Rattle.meaning.specs.Questions.{◌unless◌, within}
use Rattle.meaning.specs.Book.{in_text, in_list, is_p, is_whole, is_book_text, text_lines, lines_refusal, loaded_book, loaded_of, read_refusal, target_part}
use Rattle.meaning.specs.Revision.{added, add_refusal, add_entry, add_entry_list, removed, remove_refusal, remove_entry, remove_entry_list}
use Rattle.meaning.specs.Reply.{Reply, refused, done, reply, written_over, read_book_list, Lent, score_proposal, decode, decoded_steps, decoded_words, decoded_store}
use Rattle.meaning.specs.declared.Step.{Step}
use Rattle.meaning.proofs.Chains.{rest_passes, test_passes, written_done, written_refused}
use Rattle.theorems.proofs.Texts.{appended_text, text_without}
use Rattle.theorems.proofs.Printed.{text_of, printed_lines, printed_text}
use Rattle.theorems.proofs.Revising.{Holds, ended, read_text, added_of, added_loaded, added_places, adding, adding_refuses, removed_loaded, removed_places, removing, removing_refuses, removing_reads}

-- ════ edits

-- "A P line, given as loaded numbers, can be added .., or an entry removed"
pub data Edit : Type 0 where
  Add : List ℤ → Edit
  Remove : ℕ → Edit

-- a lent list, and how many of its numbers are in use
pub record InUse : Type 0 where
  pub list : List ℤ
  pub used : ℕ

-- "Each such call reports the numbers then in use."; after a refusal they are as before
abbrev pub reported : ℕ → Reply ℕ → ℕ
reported used (refused k) = used
reported used (done n) = n

abbrev pub edit : InUse → Edit → InUse
edit b (Add line) = record { list = add_entry_list b.list b.used line; used = reported b.used (add_entry b.list b.used line) }
edit b (Remove k) = record { list = remove_entry_list b.list b.used k; used = reported b.used (remove_entry b.list b.used k) }

abbrev pub edits : InUse → List Edit → InUse
edits b [] = b
edits b (e ∷ es) = edits (edit b e) es

-- the same edit of a text that is read into so many places: a P line behind its last, where reading takes the longer text, or the text without
-- its k-th P line, where there is one
abbrev pub edit_text : ℕ → List ℕ → Edit → List ℕ
edit_text places text (Add line) = cond (is_p line && eqb (read_refusal (text ++ text_of line) places) 0) (text ++ text_of line) text
edit_text places text (Remove k) = cond (within 1 (count is_p (text_lines text)) k) (text_without k text) text

abbrev pub edits_text : ℕ → List ℕ → List Edit → List ℕ
edits_text places text [] = text
edits_text places text (e ∷ es) = edits_text places (edit_text places text e) es

-- ════ one edit

reported_done : (used k n : ℕ) → k ≡ 0 → reported used (reply k n) ≡ n
reported_done used zero n e = refl
reported_done used (suc k) n e = absurd (omega arith)

reported_refused : (used k n : ℕ) → 1 ≤ k → reported used (reply k n) ≡ used
reported_refused used zero n l = absurd (omega arith)
reported_refused used (suc k) n l = refl

-- the book and the text after it, and as many places as before
pub record Edited (b : InUse) (places : ℕ) (text : List ℕ) : Type 0 where
  pub holds : Holds b.list b.used text
  pub same_places : length b.list ≡ places

module _ (list : List ℤ) (used : ℕ) (text : List ℕ) (h : Holds list used text) where
  abbrev b : InUse
  b = record { list = list; used = used }

  unchanged : Edited b (length list) text
  unchanged = record { holds = h; same_places = refl }

  module _ (line : List ℤ) where
    -- an accepted line: the longer text
    add_done : add_refusal list used line ≡ 0 → Edited (edit b (Add line)) (length list) (edit_text (length list) text (Add line))
    unfolding add_entry added loaded_book
    add_done e =
        let a = added_of list used line e in
        let m = printed_text line a.whole a.ranged in
        let p = (both (is_p line) (is_whole in_list line) a.whole).0 in
        let r : read_refusal (text ++ text_of line) (length list) ≡ 0 = sym (adding_refuses list used text (text_of line) line h m p) ∙ e in
        let l = added_loaded list used line e in
        let n : length (add_entry_list list used line) ≡ length list = added_places list used line e in
        rw (p, r, reported_done used (add_refusal list used line) (length (added list used line)) e)
        (record { holds = record { reads = rw n r; inside = l.inside; numbers = l.numbers ∙ adding list used text (text_of line) line h m }; same_places = n })

    -- a refused one: reading refuses the longer text too, or it is no P line
    add_refused : (add_refusal list used line ≡ 0 → ⊥) → Edited (edit b (Add line)) (length list) (edit_text (length list) text (Add line))
    unfolding add_entry add_entry_list
    add_refused e =
        let n : 1 ≤ add_refusal list used line = omega arith in
        let f : is_p line && eqb (read_refusal (text ++ text_of line) (length list)) 0 ≡ false = is_false (λ t.
        let a = both (is_p line) (eqb (read_refusal (text ++ text_of line) (length list)) 0) t in
        let r = eqb-true (read_refusal (text ++ text_of line) (length list)) 0 a.1 in
        let m = printed_lines line a.0 in
        let is = appended_text text (text_of line) (ended text (read_text text (length list) h.reads)) (read_text (text ++ text_of line) (length list) r) (ap is_empty m) in
        e (adding_refuses list used text (text_of line) line h (record { is_text = is; numbers = m }) a.0 ∙ r)) in
        rw (f, reported_refused used (add_refusal list used line) (length (added list used line)) n, written_refused (add_refusal list used line) (added list used line) list n) unchanged

  module _ (k : ℕ) where
    remove_done : within 1 (count is_p (text_lines text)) k ≡ true → Edited (edit b (Remove k)) (length list) (edit_text (length list) text (Remove k))
    unfolding remove_entry removed loaded_book
    remove_done t =
        let e : remove_refusal list used k ≡ 0 = removing_refuses list used k text h ∙ rw t in
        let l = removed_loaded list used k e in
        let n : length (remove_entry_list list used k) ≡ length list = removed_places list used k e in
        rw (t, reported_done used (remove_refusal list used k) (length (removed list used k)) e)
        (record { holds = record { reads = rw n (removing_reads list used k text h t); inside = l.inside; numbers = l.numbers ∙ removing list used k text h }; same_places = n })

    remove_refused : within 1 (count is_p (text_lines text)) k ≡ false → Edited (edit b (Remove k)) (length list) (edit_text (length list) text (Remove k))
    unfolding remove_entry remove_entry_list
    remove_refused f =
        let e : remove_refusal list used k ≡ 22 = removing_refuses list used k text h ∙ rw f in
        rw (f, reported_refused used (remove_refusal list used k) (length (removed list used k)) (omega arith), written_refused (remove_refusal list used k) (removed list used k ++ replicate (used - length (removed list used k)) (pos 0)) list (omega arith)) unchanged

  edited : (e : Edit) → Edited (edit b e) (length list) (edit_text (length list) text e)
  edited (Add line) =
      by_test (eqb (add_refusal list used line) 0) (λ t. add_done line (eqb-true (add_refusal list used line) 0 t)) (λ f. add_refused line (eqb-false (add_refusal list used line) 0 f))
  edited (Remove k) = by_test (within 1 (count is_p (text_lines text)) k) (remove_done k) (remove_refused k)

-- ════ any edits

pub edits_hold : (b : InUse) (places : ℕ) (text : List ℕ) (es : List Edit) → Edited b places text → Edited (edits b es) places (edits_text places text es)
edits_hold b places text [] h = h
edits_hold b places text (e ∷ es) h =
    edits_hold (edit b e) places (edit_text places text e) es
    (subst (λ (n : ℕ). Edited (edit b e) n (edit_text n text e)) h.same_places (edited b.list b.used text h.holds e))

read_room : (text : List ℕ) (places : ℕ) → read_refusal text places ≡ 0 → length (loaded_of text) ≤ places
unfolding read_refusal
read_room text places e =
    leb-true (length (loaded_of text)) places
    (test_passes 6 _ (rest_passes (lines_refusal in_text (text_lines text)) _ (rest_passes (1 unless is_book_text text) _ e)))

-- a text that was read into a lent list
pub read_holds : (text : List ℕ) (lent : List ℤ) → read_refusal text (length lent) ≡ 0 → Edited (record { list = read_book_list text lent; used = length (loaded_of text) }) (length lent) text
unfolding read_book_list
read_holds text lent e =
    let list : read_book_list text lent ≡ written_over (loaded_of text) lent = written_done (read_refusal text (length lent)) (loaded_of text) lent e in
    let room : length (loaded_of text) ≤ length lent = read_room text (length lent) e in
    let n : length (read_book_list text lent) ≡ length lent = ap length list ∙ over_long (loaded_of text) lent room in
    record {
      holds = record { reads = rw n e; inside = rw n room; numbers = ap (take (length (loaded_of text))) list ∙ take-append_seam (loaded_of text) (drop (length (loaded_of text)) lent) };
      same_places = n;
    }

-- "A decode after any edits equals a decode of the edited book read afresh.": a text is read into a list, the book is edited there; the edited text is
-- read into another list
module _ (text : List ℕ) (lent other : List ℤ) (es : List Edit) (first : read_refusal text (length lent) ≡ 0) where
  -- the lent list after the reading and the edits, and the edited text
  abbrev pub after : InUse
  after = edits (record { list = read_book_list text lent; used = length (loaded_of text) }) es

  abbrev pub text' : List ℕ
  text' = edits_text (length lent) text es

  -- the numbers in use there, and those of the edited text read afresh
  abbrev pub in_use : List ℤ
  in_use = take after.used after.list

  abbrev pub afresh : List ℤ
  afresh = take (length (loaded_of text')) (read_book_list text' other)

  -- reading takes the edited text into as many places
  pub edits_read : read_refusal text' (length lent) ≡ 0
  edits_read =
      let h = edits_hold _ (length lent) text es (read_holds text lent first) in
      subst (λ (n : ℕ). read_refusal text' n ≡ 0) h.same_places h.holds.reads

  module _ (second : read_refusal text' (length other) ≡ 0) where
    pub edits_same : in_use ≡ afresh
    edits_same = (edits_hold _ (length lent) text es (read_holds text lent first)).holds.numbers ∙ sym (read_holds text' other second).holds.numbers

    -- the reply of a decode, and what it leaves in the lent lists
    pub edits_decode : (direction : List ℕ) (width : ℤ) (places : Lent) (steps : List Step) (words : List ℕ) (store : List ℤ)
        → (decode in_use direction width places ≡ decode afresh direction width places)
        × (decoded_steps in_use direction width places steps ≡ decoded_steps afresh direction width places steps)
        × (decoded_words in_use direction width places words ≡ decoded_words afresh direction width places words)
        × (decoded_store in_use direction width places store ≡ decoded_store afresh direction width places store)
    edits_decode direction width places steps words store = rw edits_same (refl, refl, refl, refl)

    pub edits_score : (direction : List ℕ) (steps : List Step) → score_proposal in_use direction steps ≡ score_proposal afresh direction steps
    edits_score direction steps = ap (λ (numbers : List ℤ). score_proposal numbers direction steps) edits_same

    pub edits_part : (k : ℕ) → target_part in_use k ≡ target_part afresh k
    edits_part k = ap (λ (numbers : List ℤ). target_part numbers k) edits_same
