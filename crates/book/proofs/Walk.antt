-- A survey's walk: what is known of the lines passed, with the lines that are left, is what is known of all lines.
use Rattle.std.specs.declared.option.Option.TheVariants.{Some}
use Prim.Native.Nat.{ℕ, ◌+◌, ◌≤◌}
use native.Mathlib.Omega.{arith}
use mathlib.Core.Path.{◌≡◌, refl, sym, ◌∙◌, ap}
use mathlib.Core.List.{List, [], ◌∷◌}
use lib.IntN.{ℤ}
use lib.ListN.{length, take, drop, drop_of_length-le}
use Rattle.laws.specs.Lists.{all}
use Rattle.meaning.specs.Book.{in_list, is_whole, loaded_lines}
use Rattle.book.specs.declared.survey.Survey.{Survey}
use Rattle.book.specs.Survey.{fresh, with_line, survey_from, tally_size, no_tally, with_kind, tally_from, gram_count, Few}
use Rattle.book.specs.Loaded.{SurveyOf}
use Rattle.book.specs.Grams.{with_gram, grams_from}
use Rattle.book.proofs.Counts.{gram_counted, few_none, few_line, few_more}
use Rattle.book.proofs.Gathered.{gram_long}
use Rattle.book.proofs.Cuts.{LineAt, lines_end}

-- ---- the lines one after the other, of a text or of a loaded list

-- the lines before `rest` were noted in `acc`, `tally` and `index`
pub record Seen (lines rest : List (List ℤ)) (index₀ : List ℕ) (acc : Survey) (tally index : List ℕ) : Type 0 where
  pub surveyed : survey_from acc rest ≡ survey_from fresh lines
  pub tallied : tally_from tally rest ≡ tally_from no_tally lines
  pub gathered : grams_from index (gram_count tally) rest ≡ grams_from index₀ 0 lines

pub seen_none : (lines : List (List ℤ)) (index : List ℕ) → Seen lines lines index fresh no_tally index
seen_none lines index = record { surveyed = refl; tallied = refl; gathered = refl }

module _ {lines rest : List (List ℤ)} {index₀ tally index : List ℕ} {acc : Survey} (s : Seen lines rest index₀ acc tally index) where
  pub seen_next : {line : List ℤ} {after : List (List ℤ)} → length tally ≡ tally_size → rest ≡ line ∷ after → Seen lines after index₀ (with_line acc line) (with_kind tally line) (with_gram index (gram_count tally) line)
  unfolding survey_from tally_from grams_from
  seen_next {line} long e = record {
    surveyed = sym (ap (survey_from acc) e) ∙ s.surveyed;
    tallied = sym (ap (tally_from tally) e) ∙ s.tallied;
    gathered = rw (gram_counted tally line long) (sym (ap (grams_from index (gram_count tally)) e) ∙ s.gathered);
  }

  pub seen_all : rest ≡ [] → (acc ≡ survey_from fresh lines) × (tally ≡ tally_from no_tally lines) × (index ≡ grams_from index₀ 0 lines)
  unfolding survey_from tally_from grams_from
  seen_all e = (sym (ap (survey_from acc) e) ∙ s.surveyed, sym (ap (tally_from tally) e) ∙ s.tallied, sym (ap (grams_from index (gram_count tally)) e) ∙ s.gathered)

-- ---- a loaded list

-- the invariant: the lines before `at` were noted
pub record Walked (loaded : List ℤ) (index₀ : List ℕ) (acc : Survey) (tally index : List ℕ) (at : ℕ) : Type 0 where
  pub inside : at ≤ length loaded
  pub few : Few acc tally at
  pub long : length index ≡ length index₀
  pub seen : Seen (loaded_lines loaded) (loaded_lines (drop at loaded)) index₀ acc tally index
  pub asked : all (is_whole in_list) (loaded_lines (drop at loaded)) ≡ all (is_whole in_list) (loaded_lines loaded)

pub walk_start : (loaded : List ℤ) (index : List ℕ) → Walked loaded index fresh no_tally index 0
walk_start loaded index = record { inside = omega arith; few = few_none; long = refl; seen = seen_none (loaded_lines loaded) index; asked = refl }

pub walk_next : {loaded : List ℤ} {index₀ tally index : List ℕ} {acc : Survey} {at size : ℕ} → Walked loaded index₀ acc tally index at → LineAt loaded at size
    → Walked loaded index₀ (with_line acc (take size (drop at loaded))) (with_kind tally (take size (drop at loaded))) (with_gram index (gram_count tally) (take size (drop at loaded))) (at + size)
walk_next {loaded} {index₀} {tally} {index} {acc} {at} {size} w l =
    record {
      inside = l.inside;
      few = few_more (few_line acc tally (take size (drop at loaded)) at w.few) (omega (arith, l.some));
      long = gram_long index (take size (drop at loaded)) (gram_count tally) ∙ w.long;
      seen = seen_next w.seen w.few.each_kind l.lines;
      asked = sym (ap (all (is_whole in_list)) l.lines ∙ rw l.whole) ∙ w.asked;
    }

pub walk_end : {loaded : List ℤ} {index₀ tally index : List ℕ} {acc : Survey} {at : ℕ} → Walked loaded index₀ acc tally index at → length loaded ≤ at → SurveyOf loaded index₀ index tally (Some acc)
walk_end {loaded} {index₀} {tally} {index} {acc} {at} w h =
    let none : loaded_lines (drop at loaded) ≡ [] = ap loaded_lines (drop_of_length-le loaded h) ∙ lines_end in
    let all_seen = seen_all w.seen none in
    (sym w.asked ∙ ap (all (is_whole in_list)) none, all_seen.0, all_seen.1, all_seen.2)
