-- What the n-grams answer to 24 and 25, and what the longer book answers to its questions, from what was noted of both.
use Rattle.std.specs.declared.result.Result.TheVariants.{Ok, Err}
use Rattle.std.specs.declared.result.Result.{Result}
use Rattle.std.specs.declared.option.Option.TheVariants.{Some}
use Rattle.loading.specs.declared.load.Grams.{Grams}
use Rattle.std.proofs.Common.{unwrap_or}
use Prim.Native.Nat.{ℕ, suc, ◌+◌, ◌*◌, ◌^◌, ◌≤◌, ◌<◌}
use mathlib.Core.Path.{◌≡◌, refl, sym, ap, ◌∙◌}
use mathlib.Core.Bool.{Bool, true, false, ◌&&◌, and-true}
use mathlib.Core.List.{List, [], ◌∷◌, ◌++◌, map}
use native.Mathlib.Omega.{arith}
use borrow.Author.Tests.{leb-true, eqb-true, eqb-false}
use lib.Dec.{eqb, leb}
use lib.IntN.{ℤ, pos}
use lib.ListN.{length, get_or, drop, length-append, length-drop}
use Rattle.laws.specs.Bits.{one}
use Rattle.laws.specs.Lists.{all, count, concat}
use Rattle.laws.proofs.Lists.{count_++, count_cons}
use Rattle.laws.proofs.Tests.{both, by_test, clash}
use Rattle.laws.specs.Integers.{eqℤ}
use Rattle.laws.proofs.Linear.{signed}
use Rattle.meaning.specs.Questions.{◌unless◌, ◌orelse◌, number}
use Rattle.meaning.specs.Book.{in_list, phrases_most, grams_most, is_kind, is_t, is_u, is_d, Book, is_whole, is_not_too_long, lines_refusal, loaded_lines, book_refusal, with_counts}
use Rattle.meaning.proofs.Chains.{first_passes, rest_passes, test_passes}
use Rattle.meaning.proofs.Numbered.{number_from, refused_first}
use Rattle.meaning.proofs.Ranges.{Passed, lines_passed}
use Rattle.meaning.proofs.Revised.{passed_ind}
use Rattle.meaning.proofs.Sizes.{passed_few}
use Rattle.book.specs.declared.survey.Survey.{Survey}
use Rattle.book.specs.Survey.{fresh, with_line, survey_from, no_tally, with_kind, tally_from, gram_count, Few}
use Rattle.book.specs.Grams.{grams_from}
use Rattle.book.specs.Loaded.{SurveyOf}
use Rattle.book.proofs.Counts.{few_none, few_line, few_more, tally_is}
use Rattle.arpa.specs.File.{Ngram, is_arpa}
use Rattle.arpa.specs.Words.{word_number}
use Rattle.arpa.specs.Import.{imported_of, line_of, imported_line, imported_lines, unknown_of, unseen_by, longer_lines, are_known, are_scores}
use Rattle.outline.specs.Walk.{Outlines}
use Rattle.arpa.proofs.Ngrams.{is_sized, sized_ind, imported_sized}
use Rattle.arpa.proofs.Longer.{longer, longer_refusal}
use Rattle.arpa.proofs.Asked.{unseen_score}
use Rattle.arpa_model.specs.declared.walk.Cursor.{Cursor}
use Rattle.arpa_model.specs.declared.model.Model.{Model}
use Rattle.arpa_model.specs.Walk.{ngrams_at}
use Rattle.arpa_model.specs.Model.{are_scores_in, lines_in, IsRoom, Imports}
use Rattle.meaning.specs.declared.Refusal.{Refusal}
use Rattle.loading.specs.Loaded.{refusal_of, Answered, replied}
use Rattle.longer.specs.Longer.{Opened, LongerChecked, model_refusal, texts_refusal, counts_in, AreSince, size_since, longer_of, judge_refusal, LongerIs}
use Rattle.longer.proofs.Joined.{Joined, joined_whole, tally_++}
use Rattle.arpa_model.proofs.Walks.{ngrams_few}

-- ════ 24 and 25

module _ {text list : List ℕ} {c : Cursor} {s : Survey} {index₀ tally₀ : List ℕ} {m : Model} {index tally : List ℕ} (o : Opened text c) (i : Imports text list c s index₀ tally₀ m index tally) where
  known_texts : m.known ≡ are_known text list
  unfolding are_known imported_of
  known_texts = sym (and-true m.known) ∙ rw o.ngrams at i.carried.known_is

  pub ranged_texts : m.ranged ≡ are_scores text
  unfolding are_scores imported_of unknown_of
  ranged_texts = sym (and-true m.ranged) ∙ rw o.ngrams at i.carried.ranged_is

  pub refusal_texts : model_refusal m ≡ texts_refusal text list
  refusal_texts = rw (known_texts, ranged_texts) refl

  -- where 25 passes: u, and what is known of the lines
  pub unseen_texts : m.ranged ≡ true → (u : ℤ) → unwrap_or m.unseen u ≡ unseen_by (unknown_of text) u
  unfolding unknown_of
  unseen_texts h u = rw o.ngrams at (i.carried.unseen_is h u)

  pub survey_texts : m.ranged ≡ true → m.survey ≡ survey_from s (imported_lines text list)
  unfolding imported_lines imported_of survey_from
  survey_texts h = rw o.ngrams at (i.carried.survey_is h)

  pub tally_texts : m.ranged ≡ true → tally ≡ tally_from tally₀ (imported_lines text list)
  unfolding imported_lines imported_of tally_from
  tally_texts h = rw o.ngrams at (i.carried.tally_is h)

  pub grams_texts : m.ranged ≡ true → index ≡ grams_from index₀ (gram_count tally₀) (imported_lines text list)
  unfolding imported_lines imported_of grams_from
  grams_texts h = rw o.ngrams at (i.carried.index_is h)

-- ════ no count passes its type

few_lines : (s : Survey) (tally : List ℕ) (n : ℕ) (lines : List (List ℤ)) → Few s tally n → Few (survey_from s lines) (tally_from tally lines) (n + length lines)
unfolding survey_from tally_from
few_lines s tally n [] f = few_more f (omega arith)
few_lines s tally n (line ∷ lines) f = few_more (few_lines (with_line s line) (with_kind tally line) (n + 1) lines (few_line s tally line n f)) (omega arith)

ngrams_room : (text : List ℕ) (c : Cursor) → 4 * length (ngrams_at text c) ≤ suc (length text)
unfolding ngrams_at
ngrams_room text c = omega (arith, ngrams_few c.top c.order (drop c.at text), length-drop c.at text)

-- of a text so long that its places fit their type
pub room_none : (text : List ℕ) (c : Cursor) → length text < 2 ^ 64 → IsRoom text c fresh no_tally
room_none text c h = record { most = 0; few = few_none; room = omega (arith, ngrams_room text c) }

pub room_lines : (text : List ℕ) (c : Cursor) (lines : List (List ℤ)) → length text < 2 ^ 64 → Passed in_list lines → IsRoom text c (survey_from fresh lines) (tally_from no_tally lines)
room_lines text c lines h p = record { most = 0 + length lines; few = few_lines fresh no_tally 0 lines few_none; room = omega (arith, ngrams_room text c, passed_few in_list lines p) }

-- ════ the imported lines

-- 4 numbers of a U, 5 of a D and of a T line
module _ (list : List ℕ) where
  line_size : (g : Ngram) → is_sized g ≡ true → length (imported_line list g) ≡ 4 * one (is_u (imported_line list g)) + 5 * one (is_d (imported_line list g)) + 5 * one (is_t (imported_line list g))
  unfolding imported_line
  line_size g h = sized_ind (λ words. length (line_of (map (word_number list) words) g.score g.weight) ≡ 4 * one (is_u (line_of (map (word_number list) words) g.score g.weight)) + 5 * one (is_d (line_of (map (word_number list) words) g.score g.weight)) + 5 * one (is_t (line_of (map (word_number list) words) g.score g.weight))) (λ y. refl) (λ w y. refl) (λ v w y. refl) g.words h

  lines_size : (gs : List Ngram) → all is_sized gs ≡ true
      → length (concat (map (imported_line list) gs)) ≡ 4 * count is_u (map (imported_line list) gs) + 5 * count is_d (map (imported_line list) gs) + 5 * count is_t (map (imported_line list) gs)
  lines_size [] h = refl
  lines_size (g ∷ gs) h =
      let b = both (is_sized g) (all is_sized gs) h in
      let line = imported_line list g in
      let rest = map (imported_line list) gs in
      omega (arith, line_size g b.0, lines_size gs b.1, length-append line (concat rest), count_cons is_u line rest, count_cons is_d line rest, count_cons is_t line rest)

imported_size : (text list : List ℕ) → is_arpa text ≡ true
    → length (concat (imported_lines text list)) ≡ 4 * count is_u (imported_lines text list) + 5 * count is_d (imported_lines text list) + 5 * count is_t (imported_lines text list)
unfolding imported_lines
imported_size text list a = lines_size list (imported_of text) (imported_sized text a)

-- ════ the longer book

-- its n-grams of each kind are those of the book and the imported ones
counts_longer : (text list : List ℕ) (k : ℕ) → 3 ≤ k → k ≤ 5 → (lines : List (List ℤ)) → Passed in_list lines → count (is_kind k) (with_counts (longer_lines text list lines)) ≡ count (is_kind k) (lines ++ imported_lines text list)
unfolding longer_lines
counts_longer text list k a b = passed_ind (λ lines. count (is_kind k) (with_counts (longer_lines text list lines)) ≡ count (is_kind k) (lines ++ imported_lines text list)) (λ d eta u rest p. rw not_b refl)
  where
    not_b : eqℤ (pos 1) (pos k) ≡ false
    not_b = omega (arith, signed)

-- no more of each kind of n-gram than question 5 allows
few_kind : (lines : List (List ℤ)) → is_not_too_long lines ≡ true → (k : ℕ) → 3 ≤ k → k ≤ 5 → count (is_kind k) lines ≤ grams_most
unfolding is_not_too_long
few_kind lines h k lo hi =
    let t : Bool = leb (count (is_kind 3) lines) grams_most in
    let u : Bool = leb (count (is_kind 4) lines) grams_most in
    let d : Bool = leb (count (is_kind 5) lines) grams_most in
    let a = (both (leb (count (is_kind 2) lines) phrases_most) (t && (u && (d && true))) h).1 in
    let b = both u (d && true) (both t (u && (d && true)) a).1 in
    by_test (eqb k 3)
    (λ e. rw (eqb-true k 3 e) (leb-true (count (is_kind 3) lines) grams_most (both t (u && (d && true)) a).0))
    (λ n. by_test (eqb k 4)
    (λ e. rw (eqb-true k 4 e) (leb-true (count (is_kind 4) lines) grams_most b.0))
    (λ m.
    let five : k ≡ 5 = omega (arith, eqb-false k 3 n, eqb-false k 4 m) in
    rw five (leb-true (count (is_kind 5) lines) grams_most (both d true b.1).0)))

-- ════ a book that its own questions pass, surveyed, and then the n-grams

pub record BookSurveyed (book : List ℤ) (index₀ index tally : List ℕ) (s : Survey) : Type 0 where
  pub refusal : book_refusal book ≡ 0
  pub survey_is : s ≡ survey_from fresh (loaded_lines book)
  pub tally_is : tally ≡ tally_from no_tally (loaded_lines book)
  pub index_is : index ≡ grams_from index₀ 0 (loaded_lines book)

module _ {text list : List ℕ} {c : Cursor} (o : Opened text c) {book : List ℤ} {index₀ index₁ tally₁ : List ℕ} {s : Survey} (b : BookSurveyed book index₀ index₁ tally₁ s)
    {m : Model} {index tally : List ℕ} (i : Imports text list c s index₁ tally₁ m index tally) where
  abbrev lines : List (List ℤ)
  lines = loaded_lines book

  abbrev more : List (List ℤ)
  more = imported_lines text list

  passed : Passed in_list lines
  unfolding book_refusal
  passed = lines_passed in_list lines b.refusal

  refusal_longer : book_refusal (longer_of text list book) ≡ lines_refusal in_list (with_counts (longer_lines text list lines))
  refusal_longer = longer_refusal text list lines (longer text list o.arpa lines passed)

  -- both are known together
  joined : m.ranged ≡ true → Joined lines more index₀ index tally m.survey
  joined h = record {
    surveyed = survey_texts o i h ∙ rw b.survey_is refl;
    tallied = tally_texts o i h ∙ rw b.tally_is refl;
    gathered = grams_texts o i h ∙ rw (b.tally_is, b.index_is) refl;
  }

  -- so the questions of the longer book are asked
  pub judged : (r : Result Unit Refusal) → LongerChecked m index tally r → refusal_of r ≡ judge_refusal text list book
  judged r said =
      said (with_counts (longer_lines text list lines)) index₀
      (λ h. joined_whole text list o.arpa index₀ index tally m.survey lines passed (unseen_score text list lines (sym (ranged_texts o i) ∙ h) passed) (joined h))
      ∙ ap (λ (k : ℕ). k orelse lines_refusal in_list (with_counts (longer_lines text list lines))) (refusal_texts o i)
      ∙ ap (λ (k : ℕ). texts_refusal text list orelse k) (sym refusal_longer ∙ sym (ap (λ (k : ℕ). k orelse book_refusal (longer_of text list book)) b.refusal))

  -- where none refuses, what the longer book has
  module _ (passes : judge_refusal text list book ≡ 0) where
    ranged : m.ranged ≡ true
    ranged = ranged_texts o i ∙ test_passes 24 (are_scores text) (rest_passes (24 unless are_known text list) (25 unless are_scores text) (first_passes (texts_refusal text list) _ passes))

    longer_passed : Passed in_list (with_counts (longer_lines text list lines))
    longer_passed = lines_passed in_list (with_counts (longer_lines text list lines)) (sym refusal_longer ∙ rest_passes (book_refusal book) _ (rest_passes (texts_refusal text list) _ passes))

    counted : (k : ℕ) → 3 ≤ k → k ≤ 5 → (get_or tally₁ k 0 ≡ count (is_kind k) lines) × (get_or tally k 0 ≡ count (is_kind k) lines + count (is_kind k) more)
    counted k lo hi = (
      ap (λ (t : List ℕ). get_or t k 0) b.tally_is ∙ tally_is k (omega arith) hi lines,
      ap (λ (t : List ℕ). get_or t k 0) ((joined ranged).tallied ∙ sym (tally_++ no_tally lines more)) ∙ tally_is k (omega arith) hi (lines ++ more) ∙ count_++ (is_kind k) lines more,
    )

    few : (k : ℕ) → 3 ≤ k → k ≤ 5 → get_or tally k 0 ≤ grams_most
    few k lo hi = omega (arith, few_kind (with_counts (longer_lines text list lines)) longer_passed.short k lo hi, counts_longer text list k lo hi lines passed, count_++ (is_kind k) lines more, (counted k lo hi).1)

    pub since : AreSince (counts_in tally₁) (counts_in tally)
    since = record {
      words_from = omega (arith, (counted 4 (omega arith) (omega arith)).0, (counted 4 (omega arith) (omega arith)).1);
      pairs_from = omega (arith, (counted 5 (omega arith) (omega arith)).0, (counted 5 (omega arith) (omega arith)).1);
      triples_from = omega (arith, (counted 3 (omega arith) (omega arith)).0, (counted 3 (omega arith) (omega arith)).1);
      words_to = few 4 (omega arith) (omega arith);
      pairs_to = few 5 (omega arith) (omega arith);
      triples_to = few 3 (omega arith) (omega arith);
    }

    pub found : LongerIs text list book (record { unseen = m.unseen; triples = get_or tally 3 0; size = size_since (counts_in tally₁) (counts_in tally) })
    found = record {
      passes = passes;
      unseen_is = unseen_texts o i ranged;
      triples_are = (counted 3 (omega arith) (omega arith)).1 ∙ sym (count_++ is_t lines more);
      triples_few = few 3 (omega arith) (omega arith);
      size_is = omega (arith, imported_size text list o.arpa, (counted 3 (omega arith) (omega arith)).0, (counted 3 (omega arith) (omega arith)).1, (counted 4 (omega arith) (omega arith)).0, (counted 4 (omega arith) (omega arith)).1, (counted 5 (omega arith) (omega arith)).0, (counted 5 (omega arith) (omega arith)).1);
    }

-- ════ the answers of code

-- an answer without what a search needs is its refusal
pub answered_refusal : (refusal : ℕ) (book : Book) (index : List ℕ) (r : Result Grams Refusal) → Answered refusal book index r → refusal_of (replied r) ≡ refusal
answered_refusal refusal book index (Ok grams) a = sym a.passes
answered_refusal refusal book index (Err q) a = sym a

-- where 24 and 25 pass, the values are in a score's range
pub model_ranged : (m : Model) → model_refusal m ≡ 0 → m.ranged ≡ true
model_ranged m e = test_passes 24 m.ranged (rest_passes (24 unless m.known) (25 unless m.ranged) e)

-- a refusal stands, whatever is asked after it
pub refused_stands : (q : Refusal) (k m : ℕ) → number q ≡ k → number q ≡ k orelse m
refused_stands q k m e = sym (refused_first (number q) m (number_from q)) ∙ ap (λ (j : ℕ). j orelse m) e

-- the survey of a book that passes is whole
pub surveyed_whole : (book : List ℤ) {index₀ index tally : List ℕ} {s : Survey} → book_refusal book ≡ 0 → SurveyOf book index₀ index tally (Some s) → BookSurveyed book index₀ index tally s
surveyed_whole book e w = record { refusal = e; survey_is = w.1; tally_is = w.2; index_is = w.3 }

pub not_broken : (book : List ℤ) → book_refusal book ≡ 0 → all (is_whole in_list) (loaded_lines book) ≡ false → ⊥
unfolding book_refusal
not_broken book e f = clash (lines_passed in_list (loaded_lines book) e).whole f

pub room_book : {text : List ℕ} {c : Cursor} {book : List ℤ} {index₀ index tally : List ℕ} {s : Survey} → BookSurveyed book index₀ index tally s → length text < 2 ^ 64 → IsRoom text c s tally
unfolding book_refusal
room_book {text} {c} {book} b h = rw (b.survey_is, b.tally_is) (room_lines text c (loaded_lines book) h (lines_passed in_list (loaded_lines book) b.refusal))

-- ════ the text that was opened

pub lines_opened : {text : List ℕ} (list : List ℕ) {c : Cursor} → Opened text c → lines_in list (ngrams_at text c) ≡ imported_lines text list
unfolding imported_lines imported_of
lines_opened list o = ap (lines_in list) o.ngrams

pub scores_opened : {text : List ℕ} (list : List ℕ) {c : Cursor} (book : List ℤ) → Opened text c → judge_refusal text list book ≡ 0 → are_scores_in (ngrams_at text c) ≡ true
unfolding are_scores imported_of unknown_of
scores_opened {text} list book o e = ap are_scores_in o.ngrams ∙ test_passes 24 (are_scores text) (rest_passes (24 unless are_known text list) (25 unless are_scores text) (first_passes (texts_refusal text list) _ e))

-- the outline of a text opens it
pub opened : {text : List ℕ} {top at : ℕ} → Outlines text (record { top = top; at = at }) → Opened text (record { top = top; at = at; order = 0 })
unfolding ngrams_at
opened o = record { arpa = o.arpa; walking = record { within = o.within; few = o.few; order_to = omega arith; walk = o.walk }; ngrams = o.ngrams }
