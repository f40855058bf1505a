-- What the longer book can be refused with, once 23 to 25 and the caller's book have passed: 5, 6 and 20 (`longer_asks`). Its lines are whole, the B line is the only
-- one, every number is in its range, and the counts are right.
use Prim.Native.Nat.{ℕ, ◌-◌, ◌≤◌}
use mathlib.Core.Path.{◌≡◌, refl, sym, ◌∙◌}
use mathlib.Core.Bool.{true, false, not, ◌&&◌, ◌||◌}
use mathlib.Core.List.{List, [], ◌∷◌, ◌++◌, map}
use native.Mathlib.Omega.{arith}
use borrow.Author.Tests.{leb-true, not-true}
use lib.Dec.{leb}
use lib.IntN.{ℤ, pos, neg_ℤ}
use lib.Signed.{le_z}
use lib.ListN.{length, get_or}
use Rattle.laws.specs.Lists.{all, any, count}
use Rattle.laws.proofs.Integers.{eqℤ_refl}
use Rattle.laws.proofs.Linear.{signed}
use Rattle.laws.proofs.Lists.{all_++, mem_all, keep_mem, not_any}
use Rattle.laws.proofs.Tests.{both, both_of, by_test, neither}
use Rattle.meaning.specs.Questions.{◌unless◌, ◌orelse◌, withinℤ, within}
use Rattle.meaning.specs.Bounds.{word_most, penalty_most}
use Rattle.meaning.specs.Book.{in_list, number_at, is_b, is_p, is_t, is_score, is_weight, is_one_bFirst, is_in_range, is_not_too_long, is_counted, is_no_triple_twice, is_no_shorter_twice, lines_refusal, book_refusal, with_counts, loaded_book}
use Rattle.meaning.proofs.Ranges.{Passed}
use Rattle.meaning.proofs.Revised.{b_record, passed_ind}
use Rattle.arpa.specs.Lines.{eq_bytes}
use Rattle.arpa.specs.File.{Ngram, unknown_word, is_unknown, ngrams_of, is_arpa}
use Rattle.arpa.specs.Words.{start_word, spelled_most, spelled, word_number, is_known}
use Rattle.arpa.specs.Import.{stop_word, holds, is_longer, ends_in, is_passed_over, is_imported, imported_of, line_of, imported_line, imported_lines, unknown_of, unseen_by, longer_lines, are_known, are_scores}
use Rattle.arpa.proofs.Ngrams.{is_sized, sized_ind, imported_sized}
use Rattle.arpa.proofs.Spelled.{spelled_few}
use Rattle.arpa.proofs.Longer.{all_imported, unseen_of, longer, longer_refusal}

-- ---- words

module _ (list word : List ℕ) where
  number_few : word_number list word ≤ spelled_most
  unfolding word_number
  number_few = by_test (eq_bytes word start_word) (λ t. rw t (omega arith)) (λ f. rw f (spelled_few list word))

  number_some : is_known list word ≡ true → eq_bytes word start_word ≡ false → 1 ≤ word_number list word
  unfolding word_number is_known
  number_some k f = rw f (leb-true 1 (spelled list word) (rw f at k))

-- a word or the start symbol; and a word
history_word : (n : ℕ) → n ≤ spelled_most → withinℤ (pos 0) (pos word_most) (pos n) ≡ true
history_word n h = both_of {a = le_z (pos 0) (pos n)} {b = le_z (pos n) (pos word_most)} (omega (arith, signed)) (omega (arith, signed))

last_word : (n : ℕ) → 1 ≤ n → n ≤ spelled_most → withinℤ (pos 1) (pos word_most) (pos n) ≡ true
last_word n l h = both_of {a = le_z (pos 1) (pos n)} {b = le_z (pos n) (pos word_most)} (omega (arith, signed)) (omega (arith, signed))

-- ---- lines

-- a longer n-gram that becomes a line does not end in `<s>`
not_start : (g : Ngram) → is_imported g ≡ true → is_longer g ≡ true → ends_in start_word g ≡ false
unfolding is_imported is_passed_over
not_start g h l =
    let p = not-true (is_passed_over g) (both (not (is_passed_over g)) (not (is_unknown g)) h).0 in
    let q = (neither (holds stop_word g) (is_longer g && (holds unknown_word g || ends_in start_word g)) p).1 in
    (neither (holds unknown_word g) (ends_in start_word g) (rw l at q)).1

module _ (list : List ℕ) where
  -- a line's numbers, by its words
  ranged : (words : List (List ℕ)) (s k : ℤ) → within 1 3 (length words) ≡ true → all (is_known list) words ≡ true
      → (leb 2 (length words) ≡ true → eq_bytes (get_or words (length words - 1) []) start_word ≡ false) → is_score s ≡ true → is_weight k ≡ true → is_in_range (line_of (map (word_number list) words) s k) ≡ true
  unfolding is_in_range
  ranged words s k h = sized_ind Q one two three words h
    where
      Q : List (List ℕ) → Type 0
      Q words = all (is_known list) words ≡ true → (leb 2 (length words) ≡ true → eq_bytes (get_or words (length words - 1) []) start_word ≡ false) → is_score s ≡ true → is_weight k ≡ true → is_in_range (line_of (map (word_number list) words) s k) ≡ true

      hist : (w : List ℕ) → withinℤ (pos 0) (pos word_most) (pos (word_number list w)) ≡ true
      hist w = history_word (word_number list w) (number_few list w)

      last : (y : List ℕ) → is_known list y ≡ true → eq_bytes y start_word ≡ false → withinℤ (pos 1) (pos word_most) (pos (word_number list y)) ≡ true
      last y k f = last_word (word_number list y) (number_some list y k f) (number_few list y)

      one : (y : List ℕ) → Q (y ∷ [])
      one y n e a b = both_of (both_of (hist y) a) b

      two : (w y : List ℕ) → Q (w ∷ y ∷ [])
      two w y n e a b = let k = (both (is_known list w) (is_known list y && true) n).1 in both_of (both_of (both_of (hist w) (last y (both (is_known list y) true k).0 (e refl))) a) b

      three : (v w y : List ℕ) → Q (v ∷ w ∷ y ∷ [])
      three v w y n e a b =
          let k = (both (is_known list w) (is_known list y && true) (both (is_known list v) (is_known list w && (is_known list y && true)) n).1).1 in
          both_of (both_of (both_of (hist v) (hist w)) (last y (both (is_known list y) true k).0 (e refl))) a

  line_ranged : (g : Ngram) → is_sized g ≡ true → is_imported g ≡ true → all (is_known list) g.words ≡ true → is_score g.score && is_weight g.weight ≡ true → is_in_range (imported_line list g) ≡ true
  unfolding imported_line
  line_ranged g h i k r = let b = both (is_score g.score) (is_weight g.weight) r in ranged g.words g.score g.weight h k (not_start g i) b.0 b.1

  lines_ranged : (gs : List Ngram) → all is_sized gs ≡ true → all is_imported gs ≡ true → all (λ g. all (is_known list) g.words) gs ≡ true → all (λ g. is_score g.score && is_weight g.weight) gs ≡ true
      → all is_in_range (map (imported_line list) gs) ≡ true
  lines_ranged [] h i k r = refl
  lines_ranged (g ∷ gs) h i k r =
      let h' = both (is_sized g) (all is_sized gs) h in
      let i' = both (is_imported g) (all is_imported gs) i in
      let k' = both (all (is_known list) g.words) (all (λ g. all (is_known list) g.words) gs) k in
      let r' = both (is_score g.score && is_weight g.weight) (all (λ g. is_score g.score && is_weight g.weight) gs) r in
      both_of (line_ranged g h'.0 i'.0 k'.0 r'.0) (lines_ranged gs h'.1 i'.1 k'.1 r'.1)

-- every number of the imported lines is in its range
pub imported_ranged : (text list : List ℕ) → is_arpa text ≡ true → are_known text list ≡ true → are_scores text ≡ true → all is_in_range (imported_lines text list) ≡ true
unfolding imported_lines are_known are_scores imported_of
imported_ranged text list a k r =
    lines_ranged list (imported_of text) (imported_sized text a) (mem_all is_imported (imported_of text) (λ g m. (keep_mem is_imported (ngrams_of text) m).1)) k
    (both (all (λ g. is_score g.score && is_weight g.weight) (imported_of text)) (all (λ g. is_score g.score) (unknown_of text)) r).0

-- ---- the first line

module _ (d eta u v : ℤ) (rest others : List (List ℤ)) where
  -- with another score u, and other counts, it is in range too
  pub first_ranged : is_in_range (b_record d eta u rest) ≡ true → is_score v ≡ true → is_in_range (b_record d eta v others) ≡ true
  unfolding is_in_range
  first_ranged r h =
      let b = both (withinℤ (pos 0) (pos 32) d && withinℤ (neg_ℤ (pos penalty_most)) (pos penalty_most) eta) (is_score u) r in
      both_of b.0 h

-- its counts are right
pub first_counted : (d eta u : ℤ) (rest : List (List ℤ)) → is_counted in_list (b_record d eta u rest ∷ rest) ≡ true
unfolding is_counted
first_counted d eta u rest = rw (eqℤ_refl (pos (count is_p rest)), eqℤ_refl (pos (count is_t rest)))

-- the u of a book that passes
u_score : (lines : List (List ℤ)) → Passed in_list lines → is_score (number_at (get_or lines 0 []) 3) ≡ true
unfolding is_in_range
u_score = passed_ind (λ lines. is_score (number_at (get_or lines 0 []) 3) ≡ true) (λ d eta u rest p. (both (withinℤ (pos 0) (pos 32) d && withinℤ (neg_ℤ (pos penalty_most)) (pos penalty_most) eta) (is_score u) (both (is_in_range (b_record d eta u rest)) (all is_in_range rest) p.ranged).0).1)

-- its u is a score
pub unseen_score : (text list : List ℕ) (lines : List (List ℤ)) → are_scores text ≡ true → Passed in_list lines → is_score (unseen_of text list (number_at (get_or lines 0 []) 3)) ≡ true
unfolding are_scores
unseen_score text list lines h p =
    by (unknown_of text) (both (all (λ g. is_score g.score && is_weight g.weight) (imported_of text)) (all (λ g. is_score g.score) (unknown_of text)) h).1
  where
    first : is_score (number_at (get_or lines 0 []) 3) ≡ true
    first = u_score lines p

    by : (gs : List Ngram) → all (λ g. is_score g.score) gs ≡ true → is_score (unseen_by gs (number_at (get_or lines 0 []) 3)) ≡ true
    by [] k = first
    by (g ∷ gs) k = (both (is_score g.score) (all (λ g. is_score g.score) gs) k).0

-- ---- the questions

-- none of the imported lines is a B line
no_b : (text list : List ℕ) → is_arpa text ≡ true → all (λ line. not (is_b line)) (imported_lines text list) ≡ true
unfolding imported_lines imported_line
no_b text list a = all_imported list (λ line. not (is_b line)) (λ g h. sized_ind (λ words. not (is_b (line_of (map (word_number list) words) g.score g.weight)) ≡ true) (λ y. refl) (λ w y. refl) (λ v w y. refl) g.words h) (imported_of text) (imported_sized text a)

-- the refusal by 5, 6 and 20
abbrev pub repeat_or_count : List (List ℤ) → ℕ
repeat_or_count lines = 5 unless is_not_too_long lines orelse 6 unless is_no_triple_twice lines orelse 20 unless is_no_shorter_twice lines

module _ (text list : List ℕ) (a : is_arpa text ≡ true) (k : are_known text list ≡ true) (r : are_scores text ≡ true) where
  asks : (lines : List (List ℤ)) → Passed in_list lines → lines_refusal in_list (with_counts (longer_lines text list lines)) ≡ repeat_or_count (with_counts (longer_lines text list lines))
  unfolding lines_refusal longer_lines is_one_bFirst
  asks lines p = passed_ind Q of lines p
    where
      Q : List (List ℤ) → Type 0
      Q lines = lines_refusal in_list (with_counts (longer_lines text list lines)) ≡ repeat_or_count (with_counts (longer_lines text list lines))

      of : (d eta u : ℤ) (rest : List (List ℤ)) → Passed in_list (b_record d eta u rest ∷ rest) → Q (b_record d eta u rest ∷ rest)
      of d eta u rest p =
          let more = imported_lines text list in
          let v = unseen_of text list u in
          let none : not (any is_b (rest ++ more)) ≡ true = not_any is_b (rest ++ more) ∙ all_++ (λ line. not (is_b line)) rest more ∙ both_of (sym (not_any is_b rest) ∙ p.one_b) (no_b text list a) in
          let range = both (is_in_range (b_record d eta u rest)) (all is_in_range rest) p.ranged in
          let first = first_ranged d eta u v rest (rest ++ more) range.0 (unseen_score text list (b_record d eta u rest ∷ rest) r p) in
          rw ((longer text list a (b_record d eta u rest ∷ rest) p).whole, none, first, all_++ is_in_range rest more, range.1, imported_ranged text list a k r, first_counted d eta v (rest ++ more)) refl

  -- of a book that passes: the longer one is refused by 5, 6 or 20, or not at all
  pub longer_asks : (lines : List (List ℤ)) → Passed in_list lines → book_refusal (loaded_book (longer_lines text list lines)) ≡ repeat_or_count (with_counts (longer_lines text list lines))
  longer_asks lines p = longer_refusal text list lines (longer text list a lines p) ∙ asks lines p
