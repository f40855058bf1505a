-- Ticket 5, for the reader: adding an entry is reading the text with that line behind its last (`adding`, `adding_refuses`), removing one is reading the
-- text without it (`removing`, `removing_reads`), the removal of an entry just added leaves the book as it was and zeros behind it (`add_remove`), reading
-- never answers 21 (`never_21`), and the book that an edit leaves passes all questions of a book (`added_passes`, `removed_passes`).
use Prim.Native.Nat.{ℕ, zero, suc, ◌+◌, ◌-◌, ◌≤◌}
use native.Mathlib.Omega.{arith}
use mathlib.Core.Path.{◌≡◌, refl, sym, ap, ◌∙◌, subst}
use mathlib.Core.Bool.{Bool, true, false, not, ◌&&◌, and-true}
use mathlib.Core.List.{List, [], ◌∷◌, ◌++◌, append_assoc, append-nil}
use borrow.Author.Tests.{leb-true, le-leb, not-true}
use lib.Dec.{leb}
use lib.IntN.{ℤ, pos}
use lib.ListN.{length, take, drop, replicate, set, length-append, length-set, length-replicate}
use lib.Seq.{take-append_seam, drop-append_seam, length-take-le}
use Rattle.laws.specs.Lists.{all, any, count, concat, is_empty}
use Rattle.laws.proofs.Lists.{all_++}
use Rattle.laws.proofs.Fill.{over_long}
use Rattle.laws.proofs.Tests.{both}
use Rattle.meaning.specs.Questions.{◌unless◌, ◌orelse◌, within}
use Rattle.meaning.specs.Numerals.{is_ended, lines_of}
use Rattle.meaning.specs.Book.{in_text, in_list, is_b, is_p, is_t, is_u, is_d, size_of, is_whole, is_one_bFirst, is_in_range, is_not_too_long, is_counted, is_no_triple_twice, is_no_shorter_twice, lines_refusal, is_book_text, is_text_line, text_lines, loaded_lines, book_refusal, with_counts, loaded_book, loaded_of, read_refusal}
use Rattle.meaning.specs.Revision.{lines_in_use, in_use_refusal, with_entry, added, add_refusal, add_entry_list, without_entry, removed, remove_refusal, remove_entry_list}
use Rattle.meaning.specs.Reply.{written_over}
use Rattle.meaning.proofs.Chains.{first_passes, rest_passes, test_passes, chain_ind, test_ind, written_done}
use Rattle.meaning.proofs.Ranges.{Passed, lines_passed, passed_lines}
use Rattle.meaning.proofs.Loaded.{loaded_lines_lem, text_ind, same_whole, same_wholes, read_as, read_loaded, read_passed}
use Rattle.meaning.proofs.Revised.{cut_back, b_record, passed_ind, not_p, SameOthers, same_none, entry_others, count_added, without_at, added_numbers, added_passed, fewer_numbers, removed_numbers, removed_passed}
use Rattle.theorems.proofs.Texts.{LineText, lines_appended, text_appended, text_without, lines_without, text_without_lem}

-- ════ a loaded book in a lent list

-- the numbers in use are those of these lines, which pass all questions of a book
pub record Loaded (list : List ℤ) (used : ℕ) (lines : List (List ℤ)) : Type 0 where
  pub inside : used ≤ length list
  pub numbers : take used list ≡ concat lines
  pub passed : Passed in_list lines

-- where the questions of the numbers in use pass, and back
in_use_loaded : (list : List ℤ) (used : ℕ) → in_use_refusal list used ≡ 0 → Loaded list used (lines_in_use list used)
unfolding in_use_refusal book_refusal
in_use_loaded list used e = record {
  inside = leb-true used (length list) (test_passes 6 _ (first_passes (7 unless leb used (length list)) _ e));
  numbers = sym (cut_back (take used list));
  passed = lines_passed in_list (lines_in_use list used) (rest_passes (7 unless leb used (length list)) _ e);
}

loaded_in_use : (list : List ℤ) (used : ℕ) (lines : List (List ℤ)) → Loaded list used lines → lines_in_use list used ≡ lines
loaded_in_use list used lines l = ap loaded_lines l.numbers ∙ loaded_lines_lem lines l.passed.whole

pub loaded_passes : (list : List ℤ) (used : ℕ) (lines : List (List ℤ)) → Loaded list used lines → book_refusal (take used list) ≡ 0
unfolding book_refusal
loaded_passes list used lines l = ap (lines_refusal in_list) (loaded_in_use list used lines l) ∙ passed_lines in_list lines l.passed

in_use_passes : (list : List ℤ) (used : ℕ) (lines : List (List ℤ)) → Loaded list used lines → in_use_refusal list used ≡ 0
unfolding in_use_refusal
in_use_passes list used lines l = rw (le-leb used (length list) l.inside, loaded_passes list used lines l)

-- ════ after an addition

module _ (list : List ℤ) (used : ℕ) (line : List ℤ) where
  -- what was asked of a line that was added
  pub record Added : Type 0 where
    pub book : Loaded list used (lines_in_use list used)
    pub whole : is_p line && is_whole in_list line ≡ true
    pub ranged : is_in_range line ≡ true
    pub short : is_not_too_long (with_entry (lines_in_use list used) line) ≡ true
    pub room : length (added list used line) ≤ length list

  pub added_of : add_refusal list used line ≡ 0 → Added
  unfolding add_refusal
  added_of e =
      let after = rest_passes (in_use_refusal list used) _ e in
      let after2 = rest_passes (2 unless (is_p line && is_whole in_list line)) _ after in
      let after4 = rest_passes (4 unless is_in_range line) _ after2 in
      record {
        book = in_use_loaded list used (first_passes (in_use_refusal list used) _ e);
        whole = test_passes 1 _ (first_passes (2 unless (is_p line && is_whole in_list line)) _ after);
        ranged = test_passes 3 _ (first_passes (4 unless is_in_range line) _ after2);
        short = test_passes 4 _ (first_passes (5 unless is_not_too_long (with_entry (lines_in_use list used) line)) _ after4);
        room = leb-true _ (length list) (test_passes 6 _ (rest_passes (5 unless is_not_too_long (with_entry (lines_in_use list used) line)) _ after4));
      }

  module _ (e : add_refusal list used line ≡ 0) where
    added_list : add_entry_list list used line ≡ written_over (added list used line) list
    unfolding add_entry_list
    added_list = written_done (add_refusal list used line) (added list used line) list e

    -- the list has as many places as before
    pub added_places : length (add_entry_list list used line) ≡ length list
    added_places = ap length added_list ∙ over_long (added list used line) list (added_of e).room

    -- "Each such call reports the numbers then in use."
    pub added_loaded : Loaded (add_entry_list list used line) (length (added list used line)) (with_counts (with_entry (lines_in_use list used) line))
    unfolding added loaded_book
    added_loaded = let a = added_of e in record {
      inside = rw added_places a.room;
      numbers = ap (take (length (added list used line))) added_list ∙ take-append_seam (added list used line) (drop (length (added list used line)) list);
      passed = added_passed (lines_in_use list used) line a.book.passed a.whole a.ranged a.short;
    }

    -- the book with the new entry passes every later call's questions of a book
    pub added_passes : book_refusal (take (length (added list used line)) (add_entry_list list used line)) ≡ 0
    added_passes = loaded_passes _ _ _ added_loaded

-- ════ after a removal

module _ (list : List ℤ) (used k : ℕ) where
  -- what was asked of an entry that was removed
  pub record Removed : Type 0 where
    pub book : Loaded list used (lines_in_use list used)
    pub there : within 1 (count is_p (lines_in_use list used)) k ≡ true

  pub removed_of : remove_refusal list used k ≡ 0 → Removed
  unfolding remove_refusal
  removed_of e = record {
    book = in_use_loaded list used (first_passes (in_use_refusal list used) _ e);
    there = test_passes 21 _ (rest_passes (in_use_refusal list used) _ e);
  }

  -- the numbers in use are no more
  pub removed_fewer : Removed → length (removed list used k) ≤ used
  unfolding removed
  removed_fewer r =
      let lines = lines_in_use list used in
      let a : length (removed list used k) ≡ length (concat (without_entry k lines)) = ap length (removed_numbers k lines r.book.passed r.there) ∙ length-set (concat (without_entry k lines)) 4 _ in
      let b : length (concat lines) ≡ used = ap length (sym r.book.numbers) ∙ length-take-le used list r.book.inside in
      omega (arith, fewer_numbers k lines)

  -- what is written: the numbers in use, and zeros to where they ended before
  abbrev cleared : List ℤ
  cleared = removed list used k ++ replicate (used - length (removed list used k)) (pos 0)

  module _ (e : remove_refusal list used k ≡ 0) where
    removed_list : remove_entry_list list used k ≡ written_over cleared list
    unfolding remove_entry_list
    removed_list = written_done (remove_refusal list used k) cleared list e

    cleared_used : length cleared ≡ used
    cleared_used = length-append (removed list used k) (replicate (used - length (removed list used k)) (pos 0)) ∙ rw length-replicate (omega (arith, removed_fewer (removed_of e)))

    -- the list has as many places as before
    pub removed_places : length (remove_entry_list list used k) ≡ length list
    removed_places = ap length removed_list ∙ over_long cleared list (omega (arith, cleared_used, (removed_of e).book.inside))

    pub removed_loaded : Loaded (remove_entry_list list used k) (length (removed list used k)) (with_counts (without_entry k (lines_in_use list used)))
    unfolding removed loaded_book
    removed_loaded = let r = removed_of e in record {
      inside = rw removed_places (omega (arith, removed_fewer r, r.book.inside));
      numbers =
          ap (take (length (removed list used k))) (removed_list ∙ append_assoc (removed list used k) (replicate (used - length (removed list used k)) (pos 0)) (drop (length cleared) list))
          ∙ take-append_seam (removed list used k) (replicate (used - length (removed list used k)) (pos 0) ++ drop (length cleared) list);
      passed = removed_passed k (lines_in_use list used) r.book.passed r.there;
    }

    -- the book without the entry passes every later call's questions of a book
    pub removed_passes : book_refusal (take (length (removed list used k)) (remove_entry_list list used k)) ≡ 0
    removed_passes = loaded_passes _ _ _ removed_loaded

    -- "The unused tail of the lent list is .. zero where a removal frees it"
    pub removed_tail : drop (length (removed list used k)) (remove_entry_list list used k) ≡ replicate (used - length (removed list used k)) (pos 0) ++ drop used list
    removed_tail =
        ap (drop (length (removed list used k))) (removed_list ∙ append_assoc (removed list used k) (replicate (used - length (removed list used k)) (pos 0)) (drop (length cleared) list))
        ∙ drop-append_seam (removed list used k) (replicate (used - length (removed list used k)) (pos 0) ++ drop (length cleared) list)
        ∙ ap (λ (n : ℕ). replicate (used - length (removed list used k)) (pos 0) ++ drop n list) cleared_used

-- ════ an addition and the removal of the new entry

-- without the new entry, which is the last, the book is as it was
back_again : (line : List ℤ) → is_p line ≡ true → (lines : List (List ℤ)) → Passed in_list lines
    → (count is_p (with_counts (with_entry lines line)) ≡ suc (count is_p lines)) × (loaded_book (without_entry (suc (count is_p lines)) (with_counts (with_entry lines line))) ≡ concat lines)
unfolding without_entry loaded_book
back_again line p =
    passed_ind (λ lines. (count is_p (with_counts (with_entry lines line)) ≡ suc (count is_p lines)) × (loaded_book (without_entry (suc (count is_p lines)) (with_counts (with_entry lines line))) ≡ concat lines))
    (λ d eta u rest q. (count_added rest line p, rw (without_at rest line [] p, append-nil rest)))

module _ (list : List ℤ) (used : ℕ) (line : List ℤ) (e : add_refusal list used line ≡ 0) where
  abbrev lines : List (List ℤ)
  lines = lines_in_use list used

  abbrev list' : List ℤ
  list' = add_entry_list list used line

  abbrev last : ℕ
  last = suc (count is_p lines)

  book : Loaded list used lines
  book = (added_of list used line e).book

  is_p_lem : is_p line ≡ true
  is_p_lem = (both (is_p line) (is_whole in_list line) (added_of list used line e).whole).0

  in_use : length (take used list) ≡ used
  in_use = length-take-le used list book.inside

  -- the numbers in use are more by those of the line
  pub added_more : length (added list used line) ≡ used + length line
  unfolding added
  added_more =
      ap length (added_numbers lines line book.passed is_p_lem) ∙ length-append (set (concat lines) 4 (pos (suc (count is_p lines)))) line
      ∙ ap (λ (n : ℕ). n + length line) (length-set (concat lines) 4 (pos (suc (count is_p lines))) ∙ ap length (sym book.numbers) ∙ in_use)

  book' : Loaded list' (used + length line) (with_counts (with_entry lines line))
  book' = subst (λ (n : ℕ). Loaded list' n (with_counts (with_entry lines line))) added_more (added_loaded list used line e)

  lines' : lines_in_use list' (used + length line) ≡ with_counts (with_entry lines line)
  lines' = loaded_in_use list' (used + length line) (with_counts (with_entry lines line)) book'

  -- the new entry is there
  last_there : remove_refusal list' (used + length line) last ≡ 0
  unfolding remove_refusal
  last_there =
      rw (in_use_passes list' (used + length line) (with_counts (with_entry lines line)) book', lines', (back_again line is_p_lem lines book.passed).0, le-leb 1 last (omega arith), le-leb last last (omega arith))

  last_removed : removed list' (used + length line) last ≡ take used list
  unfolding removed
  last_removed = ap (λ (ls : List (List ℤ)). loaded_book (without_entry last ls)) lines' ∙ (back_again line is_p_lem lines book.passed).1 ∙ sym book.numbers

  last_cleared : cleared list' (used + length line) last ≡ take used list ++ replicate (length line) (pos 0)
  last_cleared = let n : (used + length line) - used ≡ length line = omega arith in rw (last_removed, in_use, n)

  -- the tail behind the line is as it was
  tail_kept : drop (used + length line) list' ≡ drop (used + length line) list
  tail_kept = subst (λ (n : ℕ). drop n list' ≡ drop n list) added_more (ap (drop (length (added list used line))) (added_list list used line e) ∙ drop-append_seam (added list used line) (drop (length (added list used line)) list))

  -- the removal of an entry just added: the book as it was, zeros where the line stood, and the rest of the list as it was
  pub add_remove : remove_entry_list list' (used + length line) last ≡ take used list ++ replicate (length line) (pos 0) ++ drop (used + length line) list
  add_remove =
      removed_list list' (used + length line) last last_there
      ∙ ap (λ (n : ℕ). cleared list' (used + length line) last ++ drop n list') (cleared_used list' (used + length line) last last_there)
      ∙ rw (last_cleared, tail_kept)

-- ════ question 21 and texts

-- a refusal other than 21
abbrev Not21 : ℕ → Type 0
Not21 k = k ≡ 21 → ⊥

-- "The text does not change": it stores no counts, so reading never answers 21
pub never_21 : (text : List ℕ) (places : ℕ) → read_refusal text places ≡ 21 → ⊥
unfolding read_refusal lines_refusal is_counted
never_21 text places =
    chain_ind Not21 (1 unless is_book_text text) _ (is 1 (is_book_text text) (omega arith))
    (chain_ind Not21 (lines_refusal in_text (text_lines text)) _ (lines_21 (text_lines text)) (is 7 (leb (length (loaded_of text)) places) (omega arith)))
  where
    is : (k : ℕ) (test : Bool) → Not21 k → Not21 (k unless test)
    is k test h = test_ind Not21 k test (omega arith) h

    lines_21 : (lines : List (List ℤ)) → Not21 (lines_refusal in_text lines)
    lines_21 lines =
        chain_ind Not21 (2 unless all (is_whole in_text) lines) _ (is 2 (all (is_whole in_text) lines) (omega arith))
        (chain_ind Not21 (3 unless is_one_bFirst lines) _ (is 3 (is_one_bFirst lines) (omega arith))
        (chain_ind Not21 (4 unless all is_in_range lines) _ (is 4 (all is_in_range lines) (omega arith))
        (chain_ind Not21 (5 unless is_not_too_long lines) _ (is 5 (is_not_too_long lines) (omega arith))
        (chain_ind Not21 (6 unless is_no_triple_twice lines) _ (is 6 (is_no_triple_twice lines) (omega arith)) (is 20 (is_no_shorter_twice lines) (omega arith))))))

-- ════ a list that holds a text

-- the numbers in use are the text as reading loads it, and reading takes it into as many places
pub record Holds (list : List ℤ) (used : ℕ) (text : List ℕ) : Type 0 where
  pub reads : read_refusal text (length list) ≡ 0
  pub inside : used ≤ length list
  pub numbers : take used list ≡ loaded_of text

pub ended : (text : List ℕ) → is_book_text text ≡ true → is_ended text ≡ true
unfolding is_book_text
ended text t = (both (not (is_empty (lines_of text))) (is_ended text) (both (not (is_empty (lines_of text)) && is_ended text) (all is_text_line (lines_of text)) t).0).1

module _ (text : List ℕ) (places : ℕ) (e : read_refusal text places ≡ 0) where
  pub read_text : is_book_text text ≡ true
  unfolding read_refusal
  read_text = test_passes 0 _ (first_passes (1 unless is_book_text text) _ e)

-- reading it passes where question 1 does, its lines do, and there is room
reads_of : (text : List ℕ) (places : ℕ) → is_book_text text ≡ true → Passed in_text (text_lines text) → length (loaded_of text) ≤ places → read_refusal text places ≡ 0
unfolding read_refusal
reads_of text places t p h = rw (t, passed_lines in_text (text_lines text) p, le-leb (length (loaded_of text)) places h)

-- a text that reading takes into some places, and whose numbers are in use in a list
pub holds_of : (list : List ℤ) (used : ℕ) (text : List ℕ) (places : ℕ) → read_refusal text places ≡ 0 → used ≤ length list → take used list ≡ loaded_of text → Holds list used text
holds_of list used text places e l n =
    let many : length (loaded_of text) ≡ used = ap length (sym n) ∙ length-take-le used list l in
    record { reads = reads_of text (length list) (read_text text places e) (read_passed text places e) (omega arith); inside = l; numbers = n }

-- lines of a loaded list that pass, as lines of a text
passed_text : (d eta u : ℤ) (rest : List (List ℤ)) → Passed in_list (b_record d eta u rest ∷ rest) → Passed in_text ((pos 1 ∷ d ∷ eta ∷ u ∷ []) ∷ rest)
unfolding is_whole size_of is_one_bFirst is_in_range is_not_too_long is_counted is_no_triple_twice is_no_shorter_twice
passed_text d eta u rest p = record {
  whole = sym (same_wholes rest (not-true (any is_b rest) p.one_b)) ∙ p.whole;
  one_b = p.one_b;
  ranged = p.ranged;
  short = p.short;
  counted = refl;
  no_triple_twice = p.no_triple_twice;
  no_shorter_twice = p.no_shorter_twice;
}

-- the lines in use are the text's, with their counts
module _ (list : List ℤ) (used : ℕ) (text : List ℕ) (h : Holds list used text) where
  text_passed : Passed in_text (text_lines text)
  text_passed = read_passed text (length list) h.reads

  text_lines_lem : lines_in_use list used ≡ with_counts (text_lines text)
  unfolding loaded_of
  text_lines_lem = ap loaded_lines h.numbers ∙ read_loaded (text_lines text) text_passed

  text_loaded : Loaded list used (with_counts (text_lines text))
  unfolding loaded_of loaded_book
  text_loaded = record { inside = h.inside; numbers = h.numbers; passed = (read_as (text_lines text) text_passed).passed }

-- ════ adding is reading the longer text

-- the counts are those of all lines, whatever stood there before
counts_added : (line : List ℤ) (lines : List (List ℤ)) → Passed in_text lines → with_counts (with_entry (with_counts lines) line) ≡ with_counts (with_entry lines line)
counts_added line = text_ind (λ lines. with_counts (with_entry (with_counts lines) line) ≡ with_counts (with_entry lines line)) (λ d eta u rest p. refl)

module _ (list : List ℤ) (used : ℕ) (text more : List ℕ) (line : List ℤ) (h : Holds list used text) (m : LineText more line) where
  longer : text_lines (text ++ more) ≡ with_entry (text_lines text) line
  longer = lines_appended text more (ended text (read_text text (length list) h.reads)) ∙ ap (λ (lines : List (List ℤ)). text_lines text ++ lines) m.numbers

  -- "kept right by .. adding": the numbers in use are those of the text with the line behind its last
  pub adding : added list used line ≡ loaded_of (text ++ more)
  unfolding added loaded_of loaded_book
  adding =
      ap (λ (lines : List (List ℤ)). loaded_book (with_entry lines line)) (text_lines_lem list used text h) ∙ ap concat (counts_added line (text_lines text) (text_passed list used text h))
      ∙ ap loaded_book (sym longer)

-- ---- its refusals

-- a question after a chain of three, and one that passes at the end
chain_more : (a b c d : ℕ) → a orelse b orelse c orelse d ≡ (a orelse b orelse c) orelse d
chain_more zero zero c d = refl
chain_more zero (suc b) c d = refl
chain_more (suc a) b c d = refl

passing_last : (k : ℕ) → k orelse 0 ≡ k
passing_last zero = refl
passing_last (suc k) = refl

module _ (line : List ℤ) (is_p_lem : is_p line ≡ true) (lines : List (List ℤ)) (p : Passed in_text lines) where
  others : SameOthers lines (with_entry lines line)
  others = entry_others lines line is_p_lem

  -- of a test that the lines pass only the new line is asked
  only_line : (test : List ℤ → Bool) → all test lines ≡ true → all test (with_entry lines line) ≡ test line
  only_line test a = all_++ test lines (line ∷ []) ∙ rw a (and-true (test line))

  one_b_first : is_one_bFirst (with_entry lines line) ≡ true
  unfolding is_one_bFirst
  one_b_first =
      text_ind (λ ls. is_one_bFirst (with_entry ls line) ≡ true) (λ d eta u rest q. same_none (entry_others rest line is_p_lem) is_b (not_p 1 refl) ∙ q.one_b) lines p

  same_short : is_not_too_long (with_entry (with_counts lines) line) ≡ is_not_too_long (with_entry lines line)
  unfolding is_not_too_long
  same_short = text_ind (λ ls. is_not_too_long (with_entry (with_counts ls) line) ≡ is_not_too_long (with_entry ls line)) (λ d eta u rest q. refl) lines p

  no_triple : is_no_triple_twice (with_entry lines line) ≡ true
  unfolding is_no_triple_twice
  no_triple = rw (others.kept is_t (not_p 3 refl)) p.no_triple_twice

  no_shorter : is_no_shorter_twice (with_entry lines line) ≡ true
  unfolding is_no_shorter_twice
  no_shorter = rw (others.kept is_d (not_p 5 refl), others.kept is_u (not_p 4 refl)) p.no_shorter_twice

  longer_refusal : lines_refusal in_text (with_entry lines line)
      ≡ 2 unless (is_p line && is_whole in_list line) orelse 4 unless is_in_range line orelse 5 unless is_not_too_long (with_entry (with_counts lines) line)
  unfolding lines_refusal is_counted
  longer_refusal =
      rw (only_line (is_whole in_text) p.whole, one_b_first, only_line is_in_range p.ranged, same_short, no_triple, no_shorter, is_p_lem, same_whole line (not_p 1 refl line is_p_lem), passing_last)

module _ (list : List ℤ) (used : ℕ) (text more : List ℕ) (line : List ℤ) (h : Holds list used text) (m : LineText more line) where
  -- "An added line, once the book has passed, answers 2 .., 4, 5 and 7 as in reading."
  pub adding_refuses : is_p line ≡ true → add_refusal list used line ≡ read_refusal (text ++ more) (length list)
  unfolding add_refusal read_refusal
  adding_refuses is_p_lem =
      let t = read_text text (length list) h.reads in
      let p = text_passed list used text h in
      rw (in_use_passes list used (with_counts (text_lines text)) (text_loaded list used text h), text_appended text more (ended text t) t m.is_text, longer list used text more line h m, longer_refusal line is_p_lem (text_lines text) p, adding list used text more line h m, text_lines_lem list used text h)
      (chain_more (2 unless (is_p line && is_whole in_list line)) (4 unless is_in_range line) (5 unless is_not_too_long (with_entry (with_counts (text_lines text)) line)) (7 unless leb (length (loaded_of (text ++ more))) (length list)))

-- ════ removing is reading the text without the line

-- the same after a removal
counts_removed : (k : ℕ) (lines : List (List ℤ)) → Passed in_text lines → with_counts (without_entry k (with_counts lines)) ≡ with_counts (without_entry k lines)
unfolding without_entry
counts_removed k = text_ind (λ lines. with_counts (without_entry k (with_counts lines)) ≡ with_counts (without_entry k lines)) (λ d eta u rest p. refl)

-- the B line stays
some_left : (k : ℕ) (lines : List (List ℤ)) → Passed in_text lines → is_empty (without_entry k lines) ≡ false
unfolding without_entry
some_left k = text_ind (λ lines. is_empty (without_entry k lines) ≡ false) (λ d eta u rest p. refl)

same_phrases : (lines : List (List ℤ)) → Passed in_text lines → count is_p (with_counts lines) ≡ count is_p lines
same_phrases = text_ind (λ lines. count is_p (with_counts lines) ≡ count is_p lines) (λ d eta u rest p. refl)

left_passed : (k : ℕ) (lines : List (List ℤ)) → Passed in_text lines → within 1 (count is_p lines) k ≡ true → Passed in_text (without_entry k lines)
unfolding without_entry
left_passed k =
    text_ind (λ lines. within 1 (count is_p lines) k ≡ true → Passed in_text (without_entry k lines))
    (λ d eta u rest p there. passed_text d eta u (without_entry k rest) (removed_passed k (b_record d eta u rest ∷ rest) (read_as ((pos 1 ∷ d ∷ eta ∷ u ∷ []) ∷ rest) p).passed there))

module _ (list : List ℤ) (used k : ℕ) (text : List ℕ) (h : Holds list used text) where
  -- "kept right by .. removing": the numbers in use are those of the text without the k-th P line
  pub removing : removed list used k ≡ loaded_of (text_without k text)
  unfolding removed loaded_of loaded_book
  removing =
      ap (λ (lines : List (List ℤ)). loaded_book (without_entry k lines)) (text_lines_lem list used text h) ∙ ap concat (counts_removed k (text_lines text) (text_passed list used text h))
      ∙ ap loaded_book (sym (lines_without k text))

  -- it is refused only where there is no such line: 22
  pub removing_refuses : remove_refusal list used k ≡ 22 unless within 1 (count is_p (text_lines text)) k
  unfolding remove_refusal
  removing_refuses =
      rw (in_use_passes list used (with_counts (text_lines text)) (text_loaded list used text h), text_lines_lem list used text h, same_phrases (text_lines text) (text_passed list used text h))

  -- reading takes that text too
  pub removing_reads : within 1 (count is_p (text_lines text)) k ≡ true → read_refusal (text_without k text) (length list) ≡ 0
  removing_reads there =
      let p = text_passed list used text h in
      let r = removed_of list used k (removing_refuses ∙ rw there) in
      reads_of (text_without k text) (length list) (text_without_lem k text (read_text text (length list) h.reads) (some_left k (text_lines text) p))
      (rw (lines_without k text) (left_passed k (text_lines text) p there)) (omega (arith, ap length removing, removed_fewer list used k r, h.inside))
