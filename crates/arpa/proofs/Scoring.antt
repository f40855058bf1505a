-- Ticket 6: "where the caller's book had no such lines, scoring them equals scoring the file's own rounded values, less those passed over, by ARPA's
-- back-off rule, with u for a word that has no unigram" (`imported_score`).
use Prim.Native.Nat.{ℕ, ◌≤◌}
use mathlib.Core.Path.{◌≡◌, refl, ap, ◌∙◌}
use mathlib.Core.Bool.{true}
use mathlib.Core.List.{List, [], ◌∷◌, ◌++◌, map, map-map}
use native.Mathlib.Omega.{arith}
use borrow.Author.Tests.{leb-true}
use lib.Dec.{eqb, leb}
use lib.IntN.{ℤ, pos}
use lib.ListN.{length, take}
use Rattle.laws.specs.Lists.{all, keep, eq_list}
use Rattle.laws.proofs.Lists.{keep_++, keep_all, eq_list_is}
use Rattle.laws.proofs.Tests.{both, by_test}
use Rattle.meaning.specs.Questions.{◌unless◌}
use Rattle.meaning.specs.Book.{in_list, Gram, gram_of, order_of, is_gram, book_of_lines, book_of, book_refusal, with_counts}
use Rattle.meaning.specs.Derivation.{listed, word_score, pair_score, backed_off, triple_score}
use Rattle.meaning.specs.Revision.{lines_in_use}
use Rattle.meaning.proofs.Chains.{first_passes, rest_passes, test_passes}
use Rattle.meaning.proofs.Ranges.{Passed, lines_passed}
use Rattle.meaning.proofs.Revised.{b_record, passed_ind}
use Rattle.arpa.specs.Lines.{eq_bytes}
use Rattle.arpa.specs.File.{Ngram, is_arpa}
use Rattle.arpa.specs.Words.{word_number, is_known}
use Rattle.arpa.specs.Import.{line_of, imported_line, imported_of, imported_lines, longer_lines, longer_book, are_known, are_scores, arpa_refusal, import_refusal}
use Rattle.arpa.specs.BackOff.{of_listed, back_off, unigram, bigram, trigram}
use Rattle.arpa.proofs.Ngrams.{is_sized, sized_ind, imported_sized}
use Rattle.arpa.proofs.Spelled.{bytes_same, Spells, SpellRow, row_none, row_more}
use Rattle.arpa.proofs.Longer.{unseen_of, imported_grams, longer}

-- ════ an n-gram's line states the n-gram

module _ (list : List ℕ) where
  -- the n-gram of the book
  abbrev stated : Ngram → Gram
  stated g = gram_of (imported_line list g)

  stated_words : (g : Ngram) → is_sized g ≡ true → (stated g).words ≡ map (word_number list) g.words
  unfolding imported_line gram_of order_of
  stated_words g h = sized_ind (λ words. (gram_of (line_of (map (word_number list) words) g.score g.weight)).words ≡ map (word_number list) words) (λ y. refl) (λ w y. refl) (λ v w y. refl) g.words h

  stated_score : (g : Ngram) → is_sized g ≡ true → (stated g).s ≡ g.score
  unfolding imported_line gram_of order_of
  stated_score g h = sized_ind (λ words. (gram_of (line_of (map (word_number list) words) g.score g.weight)).s ≡ g.score) (λ y. refl) (λ w y. refl) (λ v w y. refl) g.words h

  -- a triple's line has no weight
  stated_weight : (g : Ngram) → is_sized g ≡ true → length g.words ≤ 2 → (stated g).k ≡ g.weight
  unfolding imported_line gram_of order_of
  stated_weight g h = sized_ind (λ words. length words ≤ 2 → (gram_of (line_of (map (word_number list) words) g.score g.weight)).k ≡ g.weight) (λ y l. refl) (λ w y l. refl) (λ v w y l. absurd (omega arith)) g.words h

  -- what is listed under some words is the same by their numbers and by their spelling
  module _ (number : Gram → ℤ) (own : Ngram → ℤ) (words : List (List ℕ)) (numbers : List ℕ) (row : SpellRow list words numbers)
      (same : (g : Ngram) → is_sized g ≡ true → g.words ≡ words → number (stated g) ≡ own g) where
    listed_same : (other : ℤ) (gs : List Ngram) → all is_sized gs ≡ true → all (λ g. all (is_known list) g.words) gs ≡ true
        → listed number other numbers (map stated gs) ≡ of_listed own other words gs
    listed_same other [] h k = refl
    listed_same other (g ∷ gs) h k =
        let s = both (is_sized g) (all is_sized gs) h in
        let b = both (all (is_known list) g.words) (all (λ g. all (is_known list) g.words) gs) k in
        let e : eq_list eqb (stated g).words numbers ≡ eq_list eq_bytes g.words words
        = ap (λ (ws : List ℕ). eq_list eqb ws numbers) (stated_words g s.0) ∙ row g.words b.0 in
        by_test (eq_list eq_bytes g.words words)
        (λ t. rw (e, t) (same g s.0 (eq_list_is eq_bytes bytes_same g.words words t)))
        (λ f. rw (e, f) (listed_same other gs s.1 b.1))

-- ════ the scores

module _ (list : List ℕ) (u : ℤ) (gs : List Ngram) (sized : all is_sized gs ≡ true) (known : all (λ g. all (is_known list) g.words) gs ≡ true) where
  score_same : (other : ℤ) (words : List (List ℕ)) (numbers : List ℕ) → SpellRow list words numbers → listed (λ g. g.s) other numbers (map (stated list) gs) ≡ of_listed (λ g. g.score) other words gs
  score_same other words numbers r = listed_same list (λ g. g.s) (λ g. g.score) words numbers r (λ g h _. stated_score list g h) other gs sized known

  weight_same : (words : List (List ℕ)) (numbers : List ℕ) → SpellRow list words numbers → length words ≤ 2 → listed (λ g. g.k) (pos 0) numbers (map (stated list) gs) ≡ back_off u gs words
  weight_same words numbers r l = listed_same list (λ g. g.k) (λ g. g.weight) words numbers r (λ g h e. stated_weight list g h (rw e l)) (pos 0) gs sized known

  word_same : (y : List ℕ) (c : ℕ) → Spells list y c → word_score u (map (stated list) gs) c ≡ unigram u gs y
  unfolding word_score unigram
  word_same y c sy = score_same u (y ∷ []) (c ∷ []) (row_more list y c [] [] sy (row_none list))

  pair_same : (w y : List ℕ) (b c : ℕ) → Spells list w b → Spells list y c → pair_score u (map (stated list) gs) b c ≡ bigram u gs w y
  unfolding pair_score bigram
  pair_same w y b c sw sy =
      score_same _ (w ∷ y ∷ []) (b ∷ c ∷ []) (row_more list w b _ _ sw (row_more list y c [] [] sy (row_none list)))
      ∙ rw (weight_same (w ∷ []) (b ∷ []) (row_more list w b [] [] sw (row_none list)) (omega arith), word_same y c sy) refl

  triple_same : (v w y : List ℕ) (a b c : ℕ) → Spells list v a → Spells list w b → Spells list y c
      → backed_off u (map (stated list) gs) a b c ≡ trigram u gs v w y
  unfolding backed_off trigram
  triple_same v w y a b c sv sw sy =
      score_same _ (v ∷ w ∷ y ∷ []) (a ∷ b ∷ c ∷ []) (row_more list v a _ _ sv (row_more list w b _ _ sw (row_more list y c [] [] sy (row_none list))))
      ∙ rw (weight_same (v ∷ w ∷ []) (a ∷ b ∷ []) (row_more list v a _ _ sv (row_more list w b [] [] sw (row_none list))) (omega arith), pair_same w y b c sw sy) refl

-- ════ the imported book

-- what an import that is not refused has asked
pub record Taken (text list : List ℕ) (book : List ℤ) (used : ℕ) : Type 0 where
  pub arpa : is_arpa text ≡ true
  pub known : are_known text list ≡ true
  pub scores : are_scores text ≡ true
  pub passed : Passed in_list (lines_in_use book used)
  pub fits : length (longer_book text list book used) ≤ length book

pub taken : (text list : List ℕ) (book : List ℤ) (used : ℕ) → import_refusal text list book used ≡ 0 → Taken text list book used
unfolding import_refusal arpa_refusal book_refusal
taken text list book used e =
    let a = rest_passes (7 unless leb used (length book)) _ e in
    let b = first_passes (arpa_refusal text list) _ a in
    let c = rest_passes (23 unless is_arpa text) _ b in
    record {
      arpa = test_passes 22 (is_arpa text) (first_passes (23 unless is_arpa text) _ b);
      known = test_passes 23 (are_known text list) (first_passes (24 unless are_known text list) _ c);
      scores = test_passes 24 (are_scores text) (rest_passes (24 unless are_known text list) _ c);
      passed = lines_passed in_list (lines_in_use book used) (first_passes (book_refusal (take used book)) _ (rest_passes (arpa_refusal text list) _ a));
      fits = leb-true (length (longer_book text list book used)) (length book) (test_passes 6 (leb (length (longer_book text list book used)) (length book)) (rest_passes (book_refusal (longer_book text list book used)) _ (rest_passes (book_refusal (take used book)) _ (rest_passes (arpa_refusal text list) _ a))));
    }

-- the caller's book had no such lines: it lists no n-gram
abbrev pub ListsNone : List ℤ → ℕ → Type 0
ListsNone book used = keep is_gram (lines_in_use book used) ≡ []

module _ (text list : List ℕ) where
  -- the n-grams that the longer book states, and its u
  longer_model : is_arpa text ≡ true → (lines : List (List ℤ)) → Passed in_list lines → keep is_gram lines ≡ []
      → ((book_of_lines (with_counts (longer_lines text list lines))).grams ≡ map (stated list) (imported_of text))
      × ((book_of_lines (with_counts (longer_lines text list lines))).unseen ≡ unseen_of text list (book_of_lines lines).unseen)
  unfolding book_of_lines longer_lines imported_lines is_gram order_of
  longer_model arpa = passed_ind Q of
    where
      Q : List (List ℤ) → Type 0
      Q lines = keep is_gram lines ≡ []
          → ((book_of_lines (with_counts (longer_lines text list lines))).grams ≡ map (stated list) (imported_of text))
          × ((book_of_lines (with_counts (longer_lines text list lines))).unseen ≡ unseen_of text list (book_of_lines lines).unseen)

      of : (d eta u : ℤ) (rest : List (List ℤ)) → Passed in_list (b_record d eta u rest ∷ rest) → Q (b_record d eta u rest ∷ rest)
      of d eta u rest p none =
          let k : keep is_gram (rest ++ imported_lines text list) ≡ imported_lines text list = keep_++ is_gram rest (imported_lines text list) ∙ rw (none, keep_all is_gram (imported_lines text list) (imported_grams text list arpa)) refl in
          (ap (map gram_of) k ∙ map-map gram_of (imported_line list) (imported_of text), refl)

  -- the theorem, of every triple of numbers: each is spelled by the known word that has it (`spells_known`) or, where none has it, by any word that is
  -- not known (`spells_none`)
  pub imported_score : (book : List ℤ) (used : ℕ) → import_refusal text list book used ≡ 0 → ListsNone book used
      → (v w y : List ℕ) (a b c : ℕ) → Spells list v a → Spells list w b → Spells list y c
      → triple_score (book_of (longer_book text list book used)) a b c ≡ trigram (unseen_of text list (book_of (take used book)).unseen) (imported_of text) v w y
  unfolding triple_score book_of longer_book are_known
  imported_score book used e none v w y a b c sv sw sy =
      let t = taken text list book used e in
      let m = longer_model t.arpa (lines_in_use book used) t.passed none in
      rw ((longer text list t.arpa (lines_in_use book used) t.passed).lines_are, m.0, m.1)
      (triple_same list (unseen_of text list (book_of (take used book)).unseen) (imported_of text) (imported_sized text t.arpa) t.known v w y a b c sv sw sy)
