-- Ticket 8, the lines of a sheet, said of its own lines and for every list of rows. Its parts are the N lines, the E lines and the Z line (`n_lines_lem`, `e_lines_lem`, `z_line`);
-- the N lines are the rows in their order (`sheet_direction`); the E lines are of the answers that occurred (`sheet_occurred`, `sheet_answered`), rising (`sheet_rising`), each with
-- its count (`sheet_counts`), and the counts add up (`sheet_adds_up`); the Z line is the N lines' number and sums (`sheet_total`).
use Prim.Native.Nat.{ℕ, zero, suc, ◌+◌, ◌≤◌, ◌<◌}
use native.Mathlib.Omega.{arith}
use mathlib.Core.Path.{◌≡◌, refl, sym, ap, subst, ◌∙◌}
use mathlib.Core.Bool.{Bool, false}
use mathlib.Core.Logic.{◌↔◌}
use mathlib.Core.List.{List, [], ◌∷◌, ◌++◌, map, map-map, append-nil, Memᴰ}
use borrow.Author.Tests.{eqb-true, eq-eqb, ltb-true, lt-ltb}
use lib.Dec.{eqb, ltb}
use lib.IntN.{ℤ, pos}
use lib.ListN.{length, get_or}
use Rattle.laws.specs.Bits.{one}
use Rattle.laws.specs.Integers.{eqℤ}
use Rattle.laws.specs.Lists.{count, keep, numbers_from, sumℤ}
use Rattle.laws.proofs.Lists.{get_d_mem, keep_++, keep_mem, mem_keep, mem_numbers, numbers_mem, count_cons}
use Rattle.laws.proofs.Tests.{by_test, if_ind}
use Rattle.meaning.specs.Sheet.{Row, Line, direction_line, direction_lines, count_of, largest, occurred, answer_line, total_line, sheet_lines}
use Rattle.sheet_theorems.proofs.Totals.{total, total_is, total_two, total_keep, one_once}

-- ════ the parts of a sheet

-- the lines with a letter
abbrev pub lines_with : ℕ → List Line → List Line
lines_with letter lines = keep (λ line. eqb line.letter letter) lines

-- the N lines, the E lines and the Z lines of a sheet
abbrev pub n_lines : List Row → List Line
n_lines rows = lines_with 78 (sheet_lines rows)

abbrev pub e_lines : List Row → List Line
e_lines rows = lines_with 69 (sheet_lines rows)

abbrev pub z_lines : List Row → List Line
z_lines rows = lines_with 90 (sheet_lines rows)

-- a line's number at a place, from 0
abbrev pub number_in : ℕ → Line → ℤ
number_in k line = get_or line.numbers k (pos 0)

-- "`N,number,answer,score,words`"
abbrev pub answer_in : Line → ℤ
answer_in line = number_in 1 line

abbrev pub score_in : Line → ℤ
score_in line = number_in 2 line

abbrev pub words_in : Line → ℤ
words_in line = number_in 3 line

-- "`E,answer,count`"
abbrev pub answer_of : Line → ℤ
answer_of line = number_in 0 line

abbrev pub count_in : Line → ℤ
count_in line = number_in 1 line

n_of_n : (number : ℕ) (rows : List Row) → lines_with 78 (direction_lines number rows) ≡ direction_lines number rows
n_of_n number [] = refl
n_of_n number (row ∷ rows) = ap (λ (lines : List Line). direction_line number row ∷ lines) (n_of_n (suc number) rows)

none_of_n : (letter number : ℕ) (rows : List Row) → eqb 78 letter ≡ false → lines_with letter (direction_lines number rows) ≡ []
none_of_n letter number [] f = refl
none_of_n letter number (row ∷ rows) f = rw (f, none_of_n letter (suc number) rows f)

e_of_e : (rows : List Row) (answers : List ℕ) → lines_with 69 (map (answer_line rows) answers) ≡ map (answer_line rows) answers
e_of_e rows [] = refl
e_of_e rows (k ∷ answers) = ap (λ (lines : List Line). answer_line rows k ∷ lines) (e_of_e rows answers)

none_of_e : (letter : ℕ) (rows : List Row) (answers : List ℕ) → eqb 69 letter ≡ false → lines_with letter (map (answer_line rows) answers) ≡ []
none_of_e letter rows [] f = refl
none_of_e letter rows (k ∷ answers) f = rw (f, none_of_e letter rows answers f)

three_parts : (letter : ℕ) (ns es zs : List Line) → lines_with letter (ns ++ es ++ zs) ≡ lines_with letter ns ++ lines_with letter es ++ lines_with letter zs
three_parts letter ns es zs =
    let test : Line → Bool = λ line. eqb line.letter letter in
    keep_++ test (ns ++ es) zs ∙ ap (λ (lines : List Line). lines ++ lines_with letter zs) (keep_++ test ns es)

module _ (rows : List Row) where
  abbrev counted : List Line
  counted = map (answer_line rows) (occurred rows)

  -- "one line per direction, `N,..`, .. then `E,..`, .. then `Z,..`"
  pub n_lines_lem : n_lines rows ≡ direction_lines 1 rows
  unfolding sheet_lines
  n_lines_lem = three_parts 78 (direction_lines 1 rows) counted (total_line rows ∷ []) ∙ rw (n_of_n 1 rows, none_of_e 78 rows (occurred rows) refl) (append-nil (direction_lines 1 rows ++ []) ∙ append-nil (direction_lines 1 rows))

  pub e_lines_lem : e_lines rows ≡ map (answer_line rows) (occurred rows)
  unfolding sheet_lines
  e_lines_lem = three_parts 69 (direction_lines 1 rows) counted (total_line rows ∷ []) ∙ rw (none_of_n 69 1 rows refl, e_of_e rows (occurred rows)) (append-nil counted)

  pub z_line : z_lines rows ≡ total_line rows ∷ []
  unfolding sheet_lines
  z_line = three_parts 90 (direction_lines 1 rows) counted (total_line rows ∷ []) ∙ rw (none_of_n 90 1 rows refl, none_of_e 90 rows (occurred rows) refl)

-- ════ the N lines

lines_long : (number : ℕ) (rows : List Row) → length (direction_lines number rows) ≡ length rows
lines_long number [] = refl
lines_long number (row ∷ rows) = ap suc (lines_long (suc number) rows)

line_at : (number : ℕ) (rows : List Row) (k : ℕ) (line : Line) (row : Row) → k < length rows → get_or (direction_lines number rows) k line ≡ direction_line (number + k) (get_or rows k row)
line_at number [] k line row l = absurd (omega arith)
line_at number (first ∷ rows) zero line row l = let z : number ≡ number + 0 = omega arith in ap (λ (n : ℕ). direction_line n first) z
line_at number (first ∷ rows) (suc k) line row l =
    let z : suc number + k ≡ number + suc k = omega arith in line_at (suc number) rows k line row (omega arith) ∙ ap (λ (n : ℕ). direction_line n (get_or rows k row)) z

module _ (rows : List Row) where
  -- "one line per direction"
  pub sheet_directions : length (n_lines rows) ≡ length rows
  sheet_directions = ap length (n_lines_lem rows) ∙ lines_long 1 rows

  -- line k says number k + 1, and what is said of direction k, both counted from 0
  pub sheet_direction : (k : ℕ) (line : Line) (row : Row) → k < length rows → get_or (n_lines rows) k line ≡ direction_line (suc k) (get_or rows k row)
  sheet_direction k line row l = let z : 1 + k ≡ suc k = omega arith in ap (λ (lines : List Line). get_or lines k line) (n_lines_lem rows) ∙ line_at 1 rows k line row l ∙ ap (λ (n : ℕ). direction_line n (get_or rows k row)) z

-- ════ the counts

-- the N lines with an answer are as many as the rows with it
count_lines : (number : ℕ) (rows : List Row) (answer : ℕ) → count (λ line. eqℤ (answer_in line) (pos answer)) (direction_lines number rows) ≡ count_of rows answer
unfolding count_of
count_lines number [] answer = refl
count_lines number (row ∷ rows) answer = by_test (eqb row.answer answer) (λ t. rw (t, count_lines (suc number) rows answer)) (λ f. rw f (count_lines (suc number) rows answer))

pub mem_map : {A B : Type 0} (f : A → B) (xs : List A) {y : B} → Memᴰ y (map f xs) → (x : A) × Memᴰ x xs × (f x ≡ y)
mem_map f [] m = elim m [ ]
mem_map f (x ∷ xs) (Memᴰ.head e) = (x, Memᴰ.head refl, sym e)
mem_map f (x ∷ xs) (Memᴰ.tail m) = let r = mem_map f xs m in (r.0, Memᴰ.tail r.1, r.2)

map_mem : {A B : Type 0} (f : A → B) (xs : List A) {x : A} → Memᴰ x xs → Memᴰ (f x) (map f xs)
map_mem f [] m = elim m [ ]
map_mem f (y ∷ xs) (Memᴰ.head e) = Memᴰ.head (ap f e)
map_mem f (y ∷ xs) (Memᴰ.tail m) = Memᴰ.tail (map_mem f xs m)

module _ (rows : List Row) where
  -- "Each count is that of the N lines with its answer"
  pub sheet_counts : (line : Line) → Memᴰ line (e_lines rows) → count_in line ≡ pos (count (λ n. eqℤ (answer_in n) (answer_of line)) (n_lines rows))
  sheet_counts line m =
      let r = mem_map (answer_line rows) (occurred rows) (subst (λ (lines : List Line). Memᴰ line lines) (e_lines_lem rows) m) in
      rw (sym r.2, n_lines_lem rows) (ap pos (sym (count_lines 1 rows r.0)))

-- ════ the answers that occurred

abbrev pub is_counted : List Row → ℕ → Bool
is_counted rows answer = ltb 0 (count_of rows answer)

-- no row is above the largest
largest_above : (rows : List Row) (row : Row) → Memᴰ row rows → row.answer ≤ largest rows
largest_above [] row m = elim m [ ]
largest_above (first ∷ rows) row (Memᴰ.head e) = let a = ap (λ (r : Row). r.answer) e in omega arith
largest_above (first ∷ rows) row (Memᴰ.tail m) = let h = largest_above rows row m in omega arith

-- a row with an answer is counted, and where one is counted there is such a row
row_counts : (rows : List Row) (row : Row) → Memᴰ row rows → 0 < count_of rows row.answer
unfolding count_of
row_counts [] row m = elim m [ ]
row_counts (first ∷ rows) row (Memᴰ.head e) = let t = eq-eqb first.answer row.answer (ap (λ (r : Row). r.answer) (sym e)) in rw t (omega arith)
row_counts (first ∷ rows) row (Memᴰ.tail m) =
    let h = row_counts rows row m in by_test (eqb first.answer row.answer) (λ t. rw t (omega arith)) (λ f. rw f h)

counts_row : (rows : List Row) (answer : ℕ) → 0 < count_of rows answer → (row : Row) × Memᴰ row rows × (row.answer ≡ answer)
unfolding count_of
counts_row [] answer l = absurd (omega arith)
counts_row (first ∷ rows) answer l =
    by_test (eqb first.answer answer) (λ t. (first, Memᴰ.head refl, eqb-true first.answer answer t))
    (λ f. let r = counts_row rows answer (rw f at l) in (r.0, Memᴰ.tail r.1, r.2))

-- each is below those behind it
abbrev pub Rising : List ℕ → Type 0
Rising xs = (i j : ℕ) → i < j → j < length xs → get_or xs i 0 < get_or xs j 0

-- one that is below all of them, before them
rising_first : (x : ℕ) (xs : List ℕ) → ((k : ℕ) → k < length xs → x < get_or xs k 0) → Rising xs → Rising (x ∷ xs)
rising_first x xs below r i zero l h = absurd (omega arith)
rising_first x xs below r zero (suc j) l h = below j (omega arith)
rising_first x xs below r (suc i) (suc j) l h = r i j (omega arith) (omega arith)

keep_rises : (test : ℕ → Bool) (from many : ℕ) → Rising (keep test (numbers_from from many))
keep_rises test from zero = λ i j l h. absurd (omega arith)
keep_rises test from (suc many) =
    let later = numbers_from (suc from) many in let rest = keep test later in let r = keep_rises test (suc from) many in
    if_ind (test from) Rising (λ t. rising_first from rest (λ k l. omega (arith, numbers_mem (suc from) many (get_or rest k 0) (keep_mem test later (get_d_mem rest k 0 l)).0)) r) (λ f. r)

-- the N lines' answers are the rows'
lines_answers : (number : ℕ) (rows : List Row) → map answer_in (direction_lines number rows) ≡ map (λ row. pos row.answer) rows
lines_answers number [] = refl
lines_answers number (row ∷ rows) = ap (λ (zs : List ℤ). pos row.answer ∷ zs) (lines_answers (suc number) rows)

module _ (rows : List Row) where
  -- the E lines' answers are these
  pub e_answers : map answer_of (e_lines rows) ≡ map pos (occurred rows)
  e_answers = ap (map answer_of) (e_lines_lem rows) ∙ map-map answer_of (answer_line rows) (occurred rows)

  -- and these are the rows' answers: each is one, and one that is none is not there
  pub sheet_occurred : (answer : ℕ) → Memᴰ answer (occurred rows) ↔ ((row : Row) × Memᴰ row rows × (row.answer ≡ answer))
  unfolding occurred
  sheet_occurred answer = (
    λ m. counts_row rows answer (ltb-true 0 (count_of rows answer) (keep_mem (is_counted rows) (numbers_from 0 (suc (largest rows))) m).1),
    λ r. mem_keep (is_counted rows) (numbers_from 0 (suc (largest rows)))
        (subst (λ (k : ℕ). Memᴰ k (numbers_from 0 (suc (largest rows)))) (omega (arith, r.2)) (mem_numbers 0 (suc (largest rows)) r.0.answer (omega (arith, largest_above rows r.0 r.1))))
        (lt-ltb 0 (count_of rows answer) (subst (λ (k : ℕ). 0 < count_of rows k) r.2 (row_counts rows r.0 r.1))),
  )

  -- "for each answer that occurred": an E line has it exactly where an N line has it
  pub sheet_answered : (z : ℤ) → Memᴰ z (map answer_of (e_lines rows)) ↔ Memᴰ z (map answer_in (n_lines rows))
  sheet_answered z =
      let ns : map answer_in (n_lines rows) ≡ map (λ row. pos row.answer) rows = ap (map answer_in) (n_lines_lem rows) ∙ lines_answers 1 rows in (
        λ m.
            let k = mem_map pos (occurred rows) (subst (λ (zs : List ℤ). Memᴰ z zs) e_answers m) in let r = (sheet_occurred k.0).0 k.1 in
            rw ns (subst (λ (y : ℤ). Memᴰ y (map (λ row. pos row.answer) rows)) (ap pos r.2 ∙ k.2) (map_mem (λ row. pos row.answer) rows r.1)),
        λ m.
            let r = mem_map (λ row. pos row.answer) rows (subst (λ (zs : List ℤ). Memᴰ z zs) ns m) in
            rw e_answers (subst (λ (y : ℤ). Memᴰ y (map pos (occurred rows))) r.2 (map_mem pos (occurred rows) ((sheet_occurred r.0.answer).1 (r.0, r.1, refl)))),
      )

  -- "rising": so none is there twice
  pub sheet_rising : Rising (occurred rows)
  unfolding occurred
  sheet_rising = keep_rises (is_counted rows) 0 (suc (largest rows))

-- ════ sums

-- each row is counted once
pub rows_counted : (rows : List Row) (most : ℕ) → largest rows ≤ most → total (count_of rows) (numbers_from 0 (suc most)) ≡ length rows
unfolding count_of
rows_counted [] most l = none (numbers_from 0 (suc most))
  where
    none : (xs : List ℕ) → total (λ x. 0) xs ≡ 0
    none [] = refl
    none (x ∷ xs) = omega (arith, none xs)
rows_counted (row ∷ rows) most l =
    let a = one_once row.answer 0 (suc most) (omega arith) (omega arith) in
    total_two (count_of (row ∷ rows)) (λ x. one (eqb row.answer x)) (count_of rows) (numbers_from 0 (suc most)) (λ x. count_cons (λ r. eqb r.answer x) row rows)
    ∙ omega (arith, a, rows_counted rows most (omega arith))

-- the N lines' words and scores are the rows'
lines_words : (number : ℕ) (rows : List Row) → map words_in (direction_lines number rows) ≡ map (λ row. pos row.words) rows
lines_words number [] = refl
lines_words number (row ∷ rows) = ap (λ (zs : List ℤ). pos row.words ∷ zs) (lines_words (suc number) rows)

lines_scores : (number : ℕ) (rows : List Row) → map score_in (direction_lines number rows) ≡ map (λ row. row.score) rows
lines_scores number [] = refl
lines_scores number (row ∷ rows) = ap (λ (zs : List ℤ). row.score ∷ zs) (lines_scores (suc number) rows)

module _ (rows : List Row) where
  -- the counts add up to the number of the directions
  pub sheet_adds_up : sumℤ (map count_in (e_lines rows)) ≡ pos (length rows)
  unfolding occurred
  sheet_adds_up =
      ap (λ (lines : List Line). sumℤ (map count_in lines)) (e_lines_lem rows) ∙ ap sumℤ (map-map count_in (answer_line rows) (occurred rows)) ∙ total_is (count_of rows) (occurred rows)
      ∙ ap pos (total_keep (count_of rows) (numbers_from 0 (suc (largest rows))) ∙ rows_counted rows (largest rows) (omega arith))

  -- "`Z,directions,words,score`"; "Z gives their number and the sums of their words and scores": those of the N lines
  pub sheet_total : z_lines rows ≡ record { letter = 90; numbers = pos (length (n_lines rows)) ∷ sumℤ (map words_in (n_lines rows)) ∷ sumℤ (map score_in (n_lines rows)) ∷ [] } ∷ []
  sheet_total = z_line rows ∙ rw (n_lines_lem rows, lines_long 1 rows, lines_words 1 rows, lines_scores 1 rows)
