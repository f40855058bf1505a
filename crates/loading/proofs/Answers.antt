-- Questions 3 to 6 and 20 by the survey: what an answer of `survey_refusal` and of the comparison of the n-grams says of all lines.
use Rattle.std.specs.declared.option.Option.TheVariants.{Some, None}
use Rattle.std.specs.declared.option.Option.{Option}
use Prim.Native.Nat.{ℕ, zero, suc, ◌+◌, ◌-◌, ◌≤◌, ◌<◌}
use native.Mathlib.Omega.{arith}
use mathlib.Core.Path.{◌≡◌, refl, sym, ◌∙◌, ap, ap₂}
use mathlib.Core.Bool.{Bool, true, false, ◌&&◌}
use mathlib.Core.List.{List, [], Memᴰ}
use borrow.Author.Tests.{leb-true, eqb-true, eq-eqb, not-true}
use lib.Dec.{eqb}
use lib.IntN.{ℤ}
use lib.ListN.{length, get_or}
use Rattle.laws.specs.Lists.{all, any, keep, count, none_twice, numbers_from}
use Rattle.laws.proofs.Lists.{keep_length, keep_mem, get_d_mem, all_mem, mem_any, mem_numbers, count_none}
use Rattle.laws.proofs.Tests.{by_test, is_false, clash}
use Rattle.meaning.specs.Questions.{◌unless◌, ◌orelse◌, number}
use Rattle.meaning.specs.Book.{Form, in_list, kinds, is_kind, is_u, is_d, is_whole, is_one_bFirst, is_in_range, is_counted, is_no_triple_twice, is_no_shorter_twice, lines_refusal, order_of, is_gram, book_of_lines, loaded_lines}
use Rattle.meaning.specs.declared.Refusal.{Refusal}
use Rattle.meaning.proofs.Chains.{first_passes, rest_passes, test_passes}
use Rattle.ngrams.specs.Parts.{records_most, record_at, KeptRecords}
use Rattle.ngrams.specs.declared.Key.{Key}
use Rattle.ngrams.specs.Grams.{key_at, keys_in, grams_in, same_key, repeat_refusal, Indexed}
use Rattle.ngrams.proofs.Differ.{kept_listing, kept_grams}
use Rattle.ngrams.proofs.Lines.{Copied, copied_key, grams_are, keys_padded}
use Rattle.ngrams.proofs.Repeats.{orders, none_alike, answers}
use Rattle.lines.specs.Kinds.{most_of}
use Rattle.book.specs.declared.survey.Survey.{Survey}
use Rattle.book.specs.Survey.{no_tally, tally_from, is_few, are_all_few, shorter_count, gram_count, survey_refusal}
use Rattle.book.specs.Loaded.{SurveyOf}
use Rattle.book.proofs.Counts.{tally_is, grams_counted, survey_one, repeats_refusal, last_refusal, survey_refusal_lem}
use Rattle.book.proofs.Cuts.{stored_counts_lem}
use Rattle.book.proofs.Gathered.{grams_long, grams_hold}
use Rattle.loading.specs.Loaded.{WholeAs, SurveyIs, stores_counts, CountedAs, Known}
use Rattle.meaning.proofs.Numbered.{number_from, refused_first}

-- ════ questions 3 to 5

-- question 5 passes
pub judged_few : (s : Survey) (tally : List ℕ) → survey_refusal s tally ≡ 0 → are_all_few tally ≡ true
unfolding survey_refusal
judged_few s tally e =
    let after3 = rest_passes (3 unless (s.headed && eqb (get_or tally 1 0) 1)) _ e in
    test_passes 4 (are_all_few tally) (rest_passes (4 unless s.ranged) _ after3)

-- so there are no more lines of n-grams than there is room for
few_of : (tally : List ℕ) (k : ℕ) → 2 ≤ k → k ≤ length kinds → are_all_few tally ≡ true → get_or tally k 0 ≤ most_of k
few_of tally k a b f =
    let z : 2 + (k - 2) ≡ k = omega arith in
    leb-true (get_or tally k 0) (most_of k) (all_mem (is_few tally) (numbers_from 2 (length kinds - 1)) f k (rw z at (mem_numbers 2 (length kinds - 1) (k - 2) (omega arith))))

pub few_grams : (tally : List ℕ) → are_all_few tally ≡ true → gram_count tally ≤ records_most
few_grams tally f = omega (arith, few_of tally 3 (omega arith) (omega arith) f, few_of tally 4 (omega arith) (omega arith) f, few_of tally 5 (omega arith) (omega arith) f)

-- a refusal by a later question, or none, has passed question 4
later : (a b c : Bool) (m j : ℕ) → (2 unless a orelse 3 unless b orelse 4 unless c orelse m) ≡ j → (j ≡ 2 → ⊥) → (j ≡ 3 → ⊥) → (j ≡ 4 → ⊥) → c ≡ true
later true true true m j e two three four = refl
later true true false m j e two three four = absurd (four (sym e))
later true false c m j e two three four = absurd (three (sym e))
later false b c m j e two three four = absurd (two (sym e))

-- a line of an n-gram that is no U and no D line lists three words
triple_order : (line : List ℤ) → is_gram line ≡ true → is_u line ≡ false → is_d line ≡ false → order_of line ≡ 3
triple_order line g u d =
    let o = orders line in
    by_test (eqb (order_of line) 3) (λ t. eqb-true (order_of line) 3 t)
    (λ t. by_test (eqb (order_of line) 2) (λ s. absurd (clash (o.1 ∙ rw (g, t, s)) d)) (λ s. absurd (clash (o.2 ∙ rw (g, t, s)) u)))

-- what none passes
none_of : (test : List ℤ → Bool) (lines : List (List ℤ)) → count test lines ≡ 0 → (line : List ℤ) → Memᴰ line lines → test line ≡ false
none_of test lines z line m = is_false (λ t. clash (mem_any test lines line m t) (not-true (any test lines) (sym (count_none test lines) ∙ eq-eqb (count test lines) 0 z)))

-- ════ questions 6 and 20

-- where neither refuses, both pass
compared_none : (lines : List (List ℤ)) → repeats_refusal lines ≡ 0 → (is_no_triple_twice lines ≡ true) × (is_no_shorter_twice lines ≡ true)
compared_none lines e = (test_passes 5 (is_no_triple_twice lines) (first_passes (6 unless is_no_triple_twice lines) _ e), test_passes 19 (is_no_shorter_twice lines) (rest_passes (6 unless is_no_triple_twice lines) _ e))

module _ {form : Form} {lines : List (List ℤ)} {index₀ index tally : List ℕ} {s : Survey} (w : WholeAs form lines index₀ index tally s) (room : record_at (gram_count tally) ≤ length index) (four : survey_refusal s tally ≡ 0) (stored : is_counted form lines ≡ true) where
  last_refusal_lem : lines_refusal form lines ≡ repeats_refusal lines
  last_refusal_lem = survey_refusal_lem form lines w.whole ∙ ap (λ (k : ℕ). k orelse last_refusal form lines) (ap₂ survey_refusal (sym w.surveyed) (sym w.tallied) ∙ four) ∙ rw stored

  -- how many lines there are of each kind, and of n-grams
  counted_kind : (k : ℕ) → 1 ≤ k → k ≤ length kinds → get_or tally k 0 ≡ count (is_kind k) lines
  counted_kind k a b = ap (λ (x : List ℕ). get_or x k 0) w.tallied ∙ tally_is k a b lines

  counted : gram_count tally ≡ count is_gram lines
  counted = ap gram_count w.tallied ∙ grams_counted lines

  ranged : all is_in_range lines ≡ true
  unfolding lines_refusal
  ranged = by (is_no_triple_twice lines) (is_no_shorter_twice lines) last_refusal_lem
    where
      by : (a b : Bool) → lines_refusal form lines ≡ (6 unless a orelse 20 unless b) → all is_in_range lines ≡ true
      by true true e = later (all (is_whole form) lines) (is_one_bFirst lines) (all is_in_range lines) _ 0 e (omega arith) (omega arith) (omega arith)
      by true false e = later (all (is_whole form) lines) (is_one_bFirst lines) (all is_in_range lines) _ 20 e (omega arith) (omega arith) (omega arith)
      by false b e = later (all (is_whole form) lines) (is_one_bFirst lines) (all is_in_range lines) _ 6 e (omega arith) (omega arith) (omega arith)

  -- the records are the numbers of the lines
  copied : Copied index (keep is_gram lines)
  copied = record {
    at = λ k f h l.
        let n : length (keep is_gram lines) ≡ count is_gram lines = keep_length is_gram lines in
        let z = counted in
        let few = few_grams tally (judged_few s tally four) in
        rw w.gathered (grams_hold index₀ lines (record { parts = omega (arith, ap length w.gathered, grams_long index₀ 0 lines); few = omega arith }) k f (omega arith) l);
  }

  pub compared_so : repeat_refusal index (gram_count tally) ≡ lines_refusal form lines
  compared_so = ap (repeat_refusal index) counted ∙ answers form lines w.whole ranged index copied ∙ sym last_refusal_lem

  -- where no U and no D line is counted, every n-gram is a triple
  only_triples : shorter_count tally ≡ 0 → (k : ℕ) → k < gram_count tally → (key_at index k).order ≡ 3
  only_triples z k l =
      let m : k < length (keep is_gram lines) = omega (arith, keep_length is_gram lines, counted) in
      let line = get_or (keep is_gram lines) k [] in
      let is = keep_mem is_gram lines (get_d_mem (keep is_gram lines) k [] m) in
      ap (λ (key : Key). key.order) (copied_key copied k m)
      ∙ triple_order line is.1
      (none_of is_u lines (omega (arith, z, counted_kind 4 (omega arith) (omega arith))) line is.0)
      (none_of is_d lines (omega (arith, z, counted_kind 5 (omega arith) (omega arith))) line is.0)

  -- `index_all` left the records as they were
  pub different_so : {after : List ℕ} → KeptRecords index after → repeat_refusal index (gram_count tally) ≡ 0 → Indexed after (gram_count tally)
      → Known (lines_refusal form lines) (book_of_lines lines) after (record { count = gram_count tally; shorter = shorter_count tally })
  unfolding book_of_lines
  different_so {after} same e x =
      let n = compared_none lines (sym (compared_so ∙ last_refusal_lem) ∙ e) in
      record {
        passes = last_refusal_lem ∙ rw (n.0, n.1);
        grams_are = kept_grams same (gram_count tally) ∙ ap (grams_in index) counted ∙ grams_are form index lines copied w.whole ranged;
        listing = kept_listing same x
            (ap (λ (m : ℕ). none_twice same_key (keys_in index m)) counted ∙ none_alike form lines w.whole ranged index copied n.0 n.1)
            (λ j l. keys_padded form index lines copied w.whole ranged j (omega (arith, counted)))
            only_triples;
      }

-- ════ questions 3 to 5 and 21

module _ {form : Form} {lines : List (List ℤ)} {index₀ index tally : List ℕ} {s : Survey} {counted : Bool} (w : WholeAs form lines index₀ index tally s) (c : CountedAs form lines counted) where
  -- where 3 to 5 pass, what was found is what 21 asks
  pub stored_so : survey_refusal s tally ≡ 0 → counted ≡ is_counted form lines
  unfolding survey_refusal
  stored_so e =
      let headed = test_passes 2 (s.headed && eqb (get_or tally 1 0) 1) (first_passes (3 unless (s.headed && eqb (get_or tally 1 0) 1)) _ e) in
      c w.whole (sym (survey_one lines) ∙ rw (sym w.surveyed, sym w.tallied) headed)

  asked_so : survey_refusal s tally orelse last_refusal form lines ≡ (survey_refusal s tally orelse 21 unless counted) orelse repeats_refusal lines
  asked_so = by (survey_refusal s tally) stored_so
    where
      by : (k : ℕ) → (k ≡ 0 → counted ≡ is_counted form lines) → k orelse last_refusal form lines ≡ (k orelse 21 unless counted) orelse repeats_refusal lines
      by zero h = rw (h refl)
      by (suc k) h = refl

  -- a refusal by them is the lines' refusal
  pub judged_so : (refusal : Refusal) → number refusal ≡ survey_refusal s tally orelse 21 unless counted → lines_refusal form lines ≡ number refusal
  judged_so refusal e =
      survey_refusal_lem form lines w.whole
      ∙ ap (λ (j : ℕ). j orelse last_refusal form lines) (ap₂ survey_refusal (sym w.surveyed) (sym w.tallied))
      ∙ asked_so
      ∙ ap (λ (j : ℕ). j orelse repeats_refusal lines) (sym e)
      ∙ refused_first (number refusal) _ (number_from refusal)

-- one of 3 to 5 refuses
pub judged_first : (refusal : Refusal) {j : ℕ} (m : ℕ) → number refusal ≡ j → number refusal ≡ j orelse m
judged_first refusal m e = sym (ap (λ (i : ℕ). i orelse m) (sym e) ∙ refused_first (number refusal) m (number_from refusal))

-- none of 3 to 5 does, and 21 is asked
pub judged_stored : {j : ℕ} {counted found : Bool} → j ≡ 0 → counted ≡ found → 21 unless found ≡ j orelse 21 unless counted
judged_stored e f = rw (e, f)

-- none of them refuses
pub judged_passed : (s : Survey) (tally : List ℕ) (counted : Bool) → survey_refusal s tally orelse 21 unless counted ≡ 0 → (survey_refusal s tally ≡ 0) × (counted ≡ true)
judged_passed s tally counted e = (first_passes (survey_refusal s tally) _ e, test_passes 20 counted (rest_passes (survey_refusal s tally) _ e))

-- ════ a loaded list

-- its survey is that of its lines
pub survey_loaded : (loaded : List ℤ) (index₀ index₁ tally : List ℕ) (r : Option Survey) → SurveyOf loaded index₀ index₁ tally r → SurveyIs in_list (loaded_lines loaded) index₀ index₁ tally r
survey_loaded loaded index₀ index₁ tally (Some s) e = record { whole = e.0; surveyed = e.1; tallied = e.2; gathered = e.3 }
survey_loaded loaded index₀ index₁ tally None e = e

-- where they are whole, so is the tally
pub tally_loaded : (loaded : List ℤ) (index₀ index₁ tally : List ℕ) (r : Option Survey) → SurveyOf loaded index₀ index₁ tally r → all (is_whole in_list) (loaded_lines loaded) ≡ true → tally ≡ tally_from no_tally (loaded_lines loaded)
tally_loaded loaded index₀ index₁ tally (Some s) e w = e.2
tally_loaded loaded index₀ index₁ tally None e w = clash w e

-- question 21 by the numbers that stand behind the first four: they are the last two of the B record
pub stored_loaded : (loaded : List ℤ) (tally : List ℕ) (counted : Bool) → counted ≡ stores_counts loaded tally → (all (is_whole in_list) (loaded_lines loaded) ≡ true → tally ≡ tally_from no_tally (loaded_lines loaded)) → CountedAs in_list (loaded_lines loaded) counted
stored_loaded loaded tally counted e t w b =
    e ∙ rw (t w, tally_is 2 (omega arith) (omega arith) (loaded_lines loaded), tally_is 3 (omega arith) (omega arith) (loaded_lines loaded)) (sym (stored_counts_lem loaded w b))
