-- A round's answers as the sheet's writer finds them: they fit, and their rows are those of the directions decoded alone.
use Prim.Native.Nat.{ℕ, suc, ◌+◌, ◌*◌, ◌≤◌, ◌<◌}
use native.Mathlib.Omega.{arith}
use mathlib.Core.Path.{◌≡◌, refl, sym, ap, ◌∙◌, subst}
use mathlib.Core.List.{List, [], ◌∷◌, map}
use lib.IntN.{ℤ, pos}
use lib.ListN.{length, get_or, drop}
use lib.Seq.{get_or-take, get_or-drop}
use Rattle.laws.specs.Integers.{nat_of}
use Rattle.laws.specs.Lists.{numbers_from}
use Rattle.meaning.specs.Reply.{Reply, refused, done, decode}
use Rattle.meaning.specs.Round.{alone, answer_numbers, by_parts}
use Rattle.meaning.specs.Sheet.{row_of, rows_of}
use Rattle.meaning.specs.declared.Answer.{Answer}
use Rattle.meaning.proofs.Lengths.{answer_nine}
use Rattle.meaning.proofs.Parts.{part_of, parts_at, parts_long}
use Rattle.meaning.proofs.Sheets.{row_answer, row_score, row_words}
use Rattle.sheet.specs.Rows.{number_at, row_at, rows_in, RowFits, Fits}

-- ════ the nine numbers of a direction

answer_first : (r : Reply Answer) → get_or (answer_numbers r) 0 (pos 0) ≡ pos (row_of r).answer
answer_first (done a) = refl
answer_first (refused k) = refl

score_second : (r : Reply Answer) → get_or (answer_numbers r) 1 (pos 0) ≡ (row_of r).score
score_second (done a) = refl
score_second (refused k) = refl

words_fourth : (r : Reply Answer) → get_or (answer_numbers r) 3 (pos 0) ≡ pos (row_of r).words
words_fourth (done a) = refl
words_fourth (refused k) = refl

-- a number by its place among the nine
place_is : (answers : List ℤ) (k place : ℕ) → place < 9 → number_at answers place k ≡ get_or (part_of 9 k answers) place (pos 0)
place_is answers k place h = sym (get_or-take 9 (drop (9 * k) answers) place (pos 0) h ∙ get_or-drop (9 * k) answers place (pos 0))

-- ════ those of a round

module _ (loaded : List ℤ) (width : ℤ) (store₀ : List ℤ) (ds : List (List ℕ)) (answers₀ : List ℤ) (few : length ds ≤ 64) (room : 9 * length ds ≤ length answers₀) where
  abbrev each : List ℕ → List ℤ → List ℤ
  each d old = answer_numbers (decode loaded d width (alone store₀))

  nine : (d : List ℕ) (xs : List ℤ) → length xs ≡ 9 → length (each d xs) ≡ 9
  nine d xs l = answer_nine (decode loaded d width (alone store₀))

  abbrev after : List ℤ
  after = by_parts 9 each ds answers₀

  -- what direction k is answered
  abbrev said : ℕ → Reply Answer
  said k = decode loaded (get_or ds k []) width (alone store₀)

  at : (k place : ℕ) → k < length ds → place < 9 → number_at after place k ≡ get_or (answer_numbers (said k)) place (pos 0)
  at k place l h = place_is after k place h ∙ ap (λ (xs : List ℤ). get_or xs place (pos 0)) (parts_at 9 each nine ds answers₀ k [] l room)

  row_there : (k : ℕ) → k < length ds → row_at after k ≡ row_of (said k)
  row_there k l =
      let a = at k 0 l (omega arith) ∙ answer_first (said k) in
      let s = at k 1 l (omega arith) ∙ score_second (said k) in
      let w = at k 3 l (omega arith) ∙ words_fourth (said k) in
      λ j. record { answer = nat_of (a j); score = s j; words = nat_of (w j) }

  pub round_fits : Fits after (length ds)
  round_fits = record {
    few = few;
    long = omega (arith, parts_long 9 each nine ds answers₀ room);
    rows = λ k l. subst RowFits (sym (row_there k l)) (fits k);
    answer = λ k l. let e = at k 0 l (omega arith) ∙ answer_first (said k) in e ∙ sym (ap (λ (z : ℤ). pos (nat_of z)) e);
    words = λ k l. let e = at k 3 l (omega arith) ∙ words_fourth (said k) in e ∙ sym (ap (λ (z : ℤ). pos (nat_of z)) e);
  }
    where
      fits : (k : ℕ) → RowFits (row_of (said k))
      fits k = record { answer = row_answer loaded (get_or ds k []) width (alone store₀); score = row_score loaded (get_or ds k []) width (alone store₀); words = row_words loaded (get_or ds k []) width (alone store₀) }

  -- by numbers and by elements
  by_elements : {A B : Type 0} (f : ℕ → B) (g : A → B) (from : ℕ) (xs : List A) (x : A) → ((k : ℕ) → k < length xs → f (from + k) ≡ g (get_or xs k x)) → map f (numbers_from from (length xs)) ≡ map g xs
  by_elements f g from [] x h = refl
  by_elements f g from (y ∷ xs) x h =
      let e : from + 0 ≡ from = omega arith in
      let first : f from ≡ g y = ap f (sym e) ∙ h 0 (omega arith) in
      let rest = by_elements f g (suc from) xs x (λ k l. let m : suc from + k ≡ from + suc k = omega arith in ap f m ∙ h (suc k) (omega arith)) in
      λ j. first j ∷ rest j

  pub round_rows_lem : rows_in after (length ds) ≡ rows_of loaded ds width (length store₀)
  unfolding rows_in rows_of
  round_rows_lem = by_elements (row_at after) (λ d. row_of (decode loaded d width (alone store₀))) 0 ds [] (λ k l. let e : 0 + k ≡ k = omega arith in ap (row_at after) e ∙ row_there k l)
