-- The survey of a book's lines, carried on over the imported lines, is that of the longer book: its first line differs in u and in the counts alone.
use Prim.Native.Nat.{ℕ, ◌+◌}
use mathlib.Core.Path.{◌≡◌, refl, sym, ap, ◌∙◌}
use mathlib.Core.Bool.{true}
use mathlib.Core.List.{List, [], ◌∷◌, ◌++◌}
use native.Mathlib.Omega.{arith}
use lib.IntN.{ℤ}
use lib.ListN.{get_or}
use Rattle.laws.specs.Bits.{one}
use Rattle.laws.specs.Lists.{all, count}
use Rattle.laws.proofs.Lists.{count_cons}
use Rattle.laws.proofs.Tests.{both}
use Rattle.meaning.specs.Book.{in_list, number_at, is_score, is_in_range, is_counted, order_of, is_gram, with_counts}
use Rattle.meaning.proofs.Ranges.{Passed}
use Rattle.meaning.proofs.Revised.{b_record, passed_ind}
use Rattle.lines.specs.Kinds.{kind_of}
use Rattle.book.specs.declared.survey.Survey.{Survey}
use Rattle.book.specs.Survey.{fresh, with_line, survey_from, no_tally, with_kind, tally_from, gram_count}
use Rattle.book.specs.Grams.{with_gram, grams_from}
use Rattle.book.proofs.Counts.{grams_counted}
use Rattle.loading.specs.Loaded.{WholeAs}
use Rattle.arpa.specs.File.{is_arpa}
use Rattle.arpa.specs.Import.{imported_lines, longer_lines}
use Rattle.arpa.proofs.Longer.{unseen_of, longer}
use Rattle.arpa.proofs.Asked.{first_ranged, first_counted}

-- ---- lines behind others

survey_++ : (acc : Survey) (xs ys : List (List ℤ)) → survey_from acc (xs ++ ys) ≡ survey_from (survey_from acc xs) ys
unfolding survey_from
survey_++ acc [] ys = refl
survey_++ acc (x ∷ xs) ys = survey_++ (with_line acc x) xs ys

pub tally_++ : (tally : List ℕ) (xs ys : List (List ℤ)) → tally_from tally (xs ++ ys) ≡ tally_from (tally_from tally xs) ys
unfolding tally_from
tally_++ tally [] ys = refl
tally_++ tally (x ∷ xs) ys = tally_++ (with_kind tally x) xs ys

grams_++ : (index : List ℕ) (n : ℕ) (xs ys : List (List ℤ)) → grams_from index n (xs ++ ys) ≡ grams_from (grams_from index n xs) (n + count is_gram xs) ys
unfolding grams_from
grams_++ index n [] ys = let e : n + 0 ≡ n = omega arith in rw e
grams_++ index n (x ∷ xs) ys =
    let e : n + one (is_gram x) + count is_gram xs ≡ n + count is_gram (x ∷ xs) = omega (arith, count_cons is_gram x xs) in
    grams_++ (with_gram index n x) (n + one (is_gram x)) xs ys ∙ rw e refl

-- ---- the first line

module _ (d eta u v : ℤ) (rest others : List (List ℤ)) where
  same_first : is_in_range (b_record d eta u rest) ≡ true → is_score v ≡ true → with_line fresh (b_record d eta u rest) ≡ with_line fresh (b_record d eta v others)
  unfolding with_line
  same_first r h = rw (r, first_ranged d eta u v rest others r h)

module _ (d eta u v : ℤ) (rest more : List (List ℤ)) where
  surveys : is_in_range (b_record d eta u rest) ≡ true → is_score v ≡ true
      → survey_from (survey_from fresh (b_record d eta u rest ∷ rest)) more ≡ survey_from fresh (b_record d eta v (rest ++ more) ∷ (rest ++ more))
  unfolding survey_from
  surveys r h = ap (λ (a : Survey). survey_from (survey_from a rest) more) (same_first d eta u v rest (rest ++ more) r h) ∙ sym (survey_++ (with_line fresh (b_record d eta v (rest ++ more))) rest more)

  tallies : tally_from (tally_from no_tally (b_record d eta u rest ∷ rest)) more ≡ tally_from no_tally (b_record d eta v (rest ++ more) ∷ (rest ++ more))
  unfolding tally_from with_kind kind_of
  tallies = sym (tally_++ (with_kind no_tally (b_record d eta v (rest ++ more))) rest more)

  gathers : (index : List ℕ) → grams_from (grams_from index 0 (b_record d eta u rest ∷ rest)) (gram_count (tally_from no_tally (b_record d eta u rest ∷ rest))) more ≡ grams_from index 0 (b_record d eta v (rest ++ more) ∷ (rest ++ more))
  unfolding grams_from with_gram is_gram order_of
  gathers index =
      let e : count is_gram rest ≡ 0 + count is_gram rest = omega arith in
      ap (λ (n : ℕ). grams_from (grams_from index 0 rest) n more) (grams_counted (b_record d eta u rest ∷ rest) ∙ e)
      ∙ sym (grams_++ index 0 rest more)

-- ---- the longer book

-- what was surveyed of the lines of a book, and then of the imported ones
pub record Joined (lines more : List (List ℤ)) (index₀ index tally : List ℕ) (s : Survey) : Type 0 where
  pub surveyed : s ≡ survey_from (survey_from fresh lines) more
  pub tallied : tally ≡ tally_from (tally_from no_tally lines) more
  pub gathered : index ≡ grams_from (grams_from index₀ 0 lines) (gram_count (tally_from no_tally lines)) more

module _ (text list : List ℕ) (arpa : is_arpa text ≡ true) (index₀ index tally : List ℕ) (s : Survey) where
  -- it is the survey of the longer book, whose counts are right
  pub joined_whole : (lines : List (List ℤ)) → Passed in_list lines → is_score (unseen_of text list (number_at (get_or lines 0 []) 3)) ≡ true → Joined lines (imported_lines text list) index₀ index tally s
      → WholeAs in_list (with_counts (longer_lines text list lines)) index₀ index tally s × (is_counted in_list (with_counts (longer_lines text list lines)) ≡ true)
  unfolding longer_lines
  joined_whole lines p = passed_ind Q of lines p
    where
      more : List (List ℤ)
      more = imported_lines text list

      Q : List (List ℤ) → Type 0
      Q lines = is_score (unseen_of text list (number_at (get_or lines 0 []) 3)) ≡ true → Joined lines more index₀ index tally s
          → WholeAs in_list (with_counts (longer_lines text list lines)) index₀ index tally s × (is_counted in_list (with_counts (longer_lines text list lines)) ≡ true)

      of : (d eta u : ℤ) (rest : List (List ℤ)) → Passed in_list (b_record d eta u rest ∷ rest) → Q (b_record d eta u rest ∷ rest)
      of d eta u rest p score j = (
        record {
          whole = (longer text list arpa (b_record d eta u rest ∷ rest) p).whole;
          surveyed = j.surveyed ∙ surveys d eta u (unseen_of text list u) rest more (both (is_in_range (b_record d eta u rest)) (all is_in_range rest) p.ranged).0 score;
          tallied = j.tallied ∙ tallies d eta u (unseen_of text list u) rest more;
          gathered = j.gathered ∙ gathers d eta u (unseen_of text list u) rest more index₀;
        },
        first_counted d eta (unseen_of text list u) (rest ++ more),
      )
