-- The longer book: its lines are those of the caller's book, with u and the counts that it is to have, and the imported ones.
use Prim.Native.Nat.{ℕ}
use mathlib.Core.Path.{◌≡◌, refl, ap, ◌∙◌}
use mathlib.Core.Bool.{Bool, true, not}
use mathlib.Core.List.{List, [], ◌∷◌, ◌++◌, map}
use native.Mathlib.Omega.{arith}
use borrow.Author.Tests.{eqb-true}
use lib.IntN.{ℤ, pos}
use lib.ListN.{set}
use Rattle.laws.specs.Lists.{all, count, concat}
use Rattle.laws.proofs.Lists.{all_++, concat_++, count_++, count_none, not_any}
use Rattle.laws.proofs.Tests.{both, both_of}
use Rattle.meaning.specs.Book.{in_list, number_at, is_p, is_t, size_of, is_whole, order_of, is_gram, lines_refusal, loaded_lines, book_refusal, with_counts, loaded_book}
use Rattle.meaning.proofs.Loaded.{loaded_lines_lem}
use Rattle.meaning.proofs.Ranges.{Passed}
use Rattle.meaning.proofs.Revised.{b_record, passed_ind}
use Rattle.arpa.specs.File.{Ngram, is_arpa}
use Rattle.arpa.specs.Words.{word_number}
use Rattle.arpa.specs.Import.{line_of, imported_line, imported_of, imported_lines, unknown_of, unseen_by, longer_lines}
use Rattle.arpa.proofs.Ngrams.{is_sized, sized_ind, imported_sized}

-- ════ the imported lines

-- each is the whole line of an n-gram, whatever its numbers are
module _ (list : List ℕ) where
  line_whole : (g : Ngram) → is_sized g ≡ true → is_whole in_list (imported_line list g) ≡ true
  unfolding imported_line is_whole size_of
  line_whole g h = sized_ind (λ words. is_whole in_list (line_of (map (word_number list) words) g.score g.weight) ≡ true) (λ y. refl) (λ w y. refl) (λ v w y. refl) g.words h

  line_gram : (g : Ngram) → is_sized g ≡ true → is_gram (imported_line list g) ≡ true
  unfolding imported_line is_gram order_of
  line_gram g h = sized_ind (λ words. is_gram (line_of (map (word_number list) words) g.score g.weight) ≡ true) (λ y. refl) (λ w y. refl) (λ v w y. refl) g.words h

  line_no_entry : (g : Ngram) → is_sized g ≡ true → not (is_p (imported_line list g)) ≡ true
  unfolding imported_line
  line_no_entry g h = sized_ind (λ words. not (is_p (line_of (map (word_number list) words) g.score g.weight)) ≡ true) (λ y. refl) (λ w y. refl) (λ v w y. refl) g.words h

  module _ (test : List ℤ → Bool) (one : (g : Ngram) → is_sized g ≡ true → test (imported_line list g) ≡ true) where
    pub all_imported : (gs : List Ngram) → all is_sized gs ≡ true → all test (map (imported_line list) gs) ≡ true
    all_imported [] h = refl
    all_imported (g ∷ gs) h = let b = both (is_sized g) (all is_sized gs) h in both_of (one g b.0) (all_imported gs b.1)

module _ (text list : List ℕ) (arpa : is_arpa text ≡ true) where
  pub imported_whole : all (is_whole in_list) (imported_lines text list) ≡ true
  unfolding imported_lines
  imported_whole = all_imported list (is_whole in_list) (line_whole list) (imported_of text) (imported_sized text arpa)

  pub imported_grams : all is_gram (imported_lines text list) ≡ true
  unfolding imported_lines
  imported_grams = all_imported list is_gram (line_gram list) (imported_of text) (imported_sized text arpa)

  -- none of them is an entry
  pub same_entries : (rest : List (List ℤ)) → count is_p (rest ++ imported_lines text list) ≡ count is_p rest
  unfolding imported_lines
  same_entries rest =
      let a = all_imported list (λ line. not (is_p line)) (line_no_entry list) (imported_of text) (imported_sized text arpa) in
      let z = eqb-true (count is_p (imported_lines text list)) 0 (count_none is_p (imported_lines text list) ∙ not_any is_p (imported_lines text list) ∙ a) in
      count_++ is_p rest (imported_lines text list) ∙ omega arith

-- ════ the longer book

module _ (text list : List ℕ) where
  -- its u, where the caller's book has this one
  abbrev pub unseen_of : ℤ → ℤ
  unseen_of u = unseen_by (unknown_of text) u

  -- the lines of a book with this first line
  pub longer_lines_lem : (d eta u : ℤ) (rest : List (List ℤ))
      → with_counts (longer_lines text list (b_record d eta u rest ∷ rest)) ≡ b_record d eta (unseen_of u) (rest ++ imported_lines text list) ∷ (rest ++ imported_lines text list)
  unfolding longer_lines
  longer_lines_lem d eta u rest = refl

  -- what is known of it
  pub record Longer (lines : List (List ℤ)) : Type 0 where
    pub whole : all (is_whole in_list) (with_counts (longer_lines text list lines)) ≡ true
    pub lines_are : loaded_lines (loaded_book (longer_lines text list lines)) ≡ with_counts (longer_lines text list lines)
    pub numbers : loaded_book (longer_lines text list lines) ≡ set (set (concat lines) 3 (unseen_of (number_at (concat lines) 3))) 5 (pos (count is_t (lines ++ imported_lines text list))) ++ concat (imported_lines text list)

  pub longer : is_arpa text ≡ true → (lines : List (List ℤ)) → Passed in_list lines → Longer lines
  unfolding loaded_book longer_lines is_whole size_of
  longer arpa = passed_ind Longer of
    where
      of : (d eta u : ℤ) (rest : List (List ℤ)) → Passed in_list (b_record d eta u rest ∷ rest) → Longer (b_record d eta u rest ∷ rest)
      of d eta u rest p =
          let r = (both (is_whole in_list (b_record d eta u rest)) (all (is_whole in_list) rest) p.whole).1 in
          let w = all_++ (is_whole in_list) rest (imported_lines text list) ∙ both_of r (imported_whole text list arpa) in
          record { whole = w; lines_are = loaded_lines_lem (with_counts (longer_lines text list (b_record d eta u rest ∷ rest))) w; numbers = rw (same_entries text list arpa rest, concat_++ rest (imported_lines text list)) refl }

  -- the questions of the longer book are asked of its lines
  pub longer_refusal : (lines : List (List ℤ)) → Longer lines → book_refusal (loaded_book (longer_lines text list lines)) ≡ lines_refusal in_list (with_counts (longer_lines text list lines))
  unfolding book_refusal
  longer_refusal lines l = ap (lines_refusal in_list) l.lines_are
