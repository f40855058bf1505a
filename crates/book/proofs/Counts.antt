-- A survey of lines holds what questions 3 to 5 ask of them: its tests are the lines' tests, and its tally has the lines' counts.
use Prim.Native.Nat.{ℕ, zero, suc, ◌+◌, ◌≤◌, ◌<◌}
use native.Mathlib.Omega.{arith}
use mathlib.Core.Path.{◌≡◌, refl, sym, ◌∙◌, ap}
use mathlib.Core.Bool.{Bool, true, false, not, cond, ◌&&◌, and_assoc}
use mathlib.Core.List.{List, [], ◌∷◌, map}
use borrow.Author.Tests.{eqb-true, eqb-false, eq-eqb, ne_eqb}
use lib.Dec.{eqb, leb}
use lib.IntN.{ℤ, pos}
use lib.ListN.{length, get_or, drop, replicate, length-set, length-drop}
use lib.Seq.{get_or-set_same, get_or-set_other}
use Rattle.laws.specs.Bits.{one}
use Rattle.laws.specs.Integers.{eqℤ}
use Rattle.laws.specs.Lists.{all, any, count, numbers_from}
use Rattle.laws.proofs.Lists.{count_cons, count_none, drop_next}
use Rattle.laws.proofs.Order.{yes_≡}
use Rattle.laws.proofs.Tests.{same_test, by_test}
use Rattle.meaning.specs.Questions.{◌unless◌, ◌orelse◌}
use Rattle.meaning.specs.Book.{Form, Kind, kinds, is_kind, is_b, is_t, is_u, is_d, is_whole, are_few, is_one_bFirst, is_in_range, is_not_too_long, is_counted, is_no_triple_twice, is_no_shorter_twice, lines_refusal, number_at, order_of, is_gram}
use Rattle.lines.specs.Kinds.{kind_of}
use Rattle.lines.proofs.Lines.{row_known, kind_row}
use Rattle.book.specs.declared.survey.Survey.{Survey}
use Rattle.book.specs.Survey.{fresh, with_line, survey_from, tally_size, no_tally, with_kind, tally_from, gram_count, are_all_few, survey_refusal, Few}

-- ---- the tally

-- a line lists an n-gram where it is a T, a U or a D line
gram_one : (line : List ℤ) → one (is_gram line) ≡ one (is_t line) + (one (is_u line) + one (is_d line))
unfolding is_gram order_of
gram_one line = of (number_at line 0)
  where
    of : (z : ℤ) → one (leb 1 (cond (eqℤ z (pos 1)) 0 (cond (eqℤ z (pos 2)) 0 (cond (eqℤ z (pos 3)) 3 (cond (eqℤ z (pos 4)) 1 (cond (eqℤ z (pos 5)) 2 0)))))) ≡ one (eqℤ z (pos 3)) + (one (eqℤ z (pos 4)) + one (eqℤ z (pos 5)))
    of z =
        by_test (eqℤ z (pos 1)) (λ t. rw (yes_≡ z (pos 1) t))
        (λ b. by_test (eqℤ z (pos 2)) (λ t. rw (yes_≡ z (pos 2) t))
        (λ p. by_test (eqℤ z (pos 3)) (λ t. rw (yes_≡ z (pos 3) t))
        (λ t. by_test (eqℤ z (pos 4)) (λ t. rw (yes_≡ z (pos 4) t))
        (λ u. by_test (eqℤ z (pos 5)) (λ t. rw (yes_≡ z (pos 5) t)) (λ d. rw (b, p, t, u, d))))))

-- each line adds one to the count of its kind
module _ (tally : List ℕ) (line : List ℤ) (long : length tally ≡ tally_size) where
  pub kind_long : length (with_kind tally line) ≡ tally_size
  unfolding with_kind
  kind_long = length-set tally (kind_of line) (get_or tally (kind_of line) 0 + 1) ∙ long

  counted_here : get_or (with_kind tally line) (kind_of line) 0 ≡ get_or tally (kind_of line) 0 + 1
  unfolding with_kind
  counted_here = get_or-set_same tally (kind_of line) (get_or tally (kind_of line) 0 + 1) 0 (omega (arith, row_known line))

  counted_else : (k : ℕ) → (kind_of line ≡ k → ⊥) → get_or (with_kind tally line) k 0 ≡ get_or tally k 0
  unfolding with_kind
  counted_else k n = get_or-set_other tally (kind_of line) k (get_or tally (kind_of line) 0 + 1) 0 (λ e. n (sym e))

  pub kind_counted : (k : ℕ) → 1 ≤ k → k ≤ length kinds → get_or (with_kind tally line) k 0 ≡ get_or tally k 0 + one (is_kind k line)
  kind_counted k a b =
      by_test (eqb (kind_of line) k)
      (λ t. let e = eqb-true (kind_of line) k t in rw (kind_row line k a b, t) (rw e at counted_here))
      (λ f. let h = counted_else k (eqb-false (kind_of line) k f) in rw (kind_row line k a b, f) (omega arith))

  -- and no count grows by more
  kind_grows : (k : ℕ) → get_or (with_kind tally line) k 0 ≤ get_or tally k 0 + 1
  kind_grows k =
      by_test (eqb (kind_of line) k)
      (λ t. let e = eqb-true (kind_of line) k t in let h = counted_here in omega (arith, rw e at h))
      (λ f. let h = counted_else k (eqb-false (kind_of line) k f) in omega arith)

  -- the lines of n-grams
  pub gram_counted : gram_count (with_kind tally line) ≡ gram_count tally + one (is_gram line)
  gram_counted =
      omega (arith, kind_counted 3 (omega arith) (omega arith), kind_counted 4 (omega arith) (omega arith), kind_counted 5 (omega arith) (omega arith), gram_one line)

tally_from_lem : (k : ℕ) → 1 ≤ k → k ≤ length kinds → (tally : List ℕ) (lines : List (List ℤ)) → length tally ≡ tally_size → get_or (tally_from tally lines) k 0 ≡ get_or tally k 0 + count (is_kind k) lines
unfolding tally_from
tally_from_lem k a b tally [] l = omega arith
tally_from_lem k a b tally (line ∷ lines) l =
    omega (arith, tally_from_lem k a b (with_kind tally line) lines (kind_long tally line l), kind_counted tally line l k a b, count_cons (is_kind k) line lines)

tally_none : (k : ℕ) → get_or no_tally k 0 ≡ 0
tally_none = by tally_size
  where
    by : (n k : ℕ) → get_or {A = ℕ} (replicate n 0) k 0 ≡ 0
    by zero k = refl
    by (suc n) zero = refl
    by (suc n) (suc k) = by n k

-- the count of each row's lines
pub tally_is : (k : ℕ) → 1 ≤ k → k ≤ length kinds → (lines : List (List ℤ)) → get_or (tally_from no_tally lines) k 0 ≡ count (is_kind k) lines
tally_is k a b lines = omega (arith, tally_from_lem k a b no_tally lines refl, tally_none k)

pub grams_counted : (lines : List (List ℤ)) → gram_count (tally_from no_tally lines) ≡ count is_gram lines
grams_counted lines =
    omega (arith, tally_is 3 (omega arith) (omega arith) lines, tally_is 4 (omega arith) (omega arith) lines, tally_is 5 (omega arith) (omega arith) lines, by lines)
  where
    by : (lines : List (List ℤ)) → count is_gram lines ≡ count is_t lines + (count is_u lines + count is_d lines)
    by [] = refl
    by (line ∷ lines) = omega (arith, count_cons is_gram line lines, count_cons is_t line lines, count_cons is_u line lines, count_cons is_d line lines, gram_one line, by lines)

-- ---- the ranges

survey_ranged : (acc : Survey) (lines : List (List ℤ)) → (survey_from acc lines).ranged ≡ acc.ranged && all is_in_range lines
unfolding survey_from with_line
survey_ranged acc [] = and_true' acc.ranged
  where
    and_true' : (b : Bool) → b ≡ b && true
    and_true' true = refl
    and_true' false = refl
survey_ranged acc (line ∷ lines) = survey_ranged (with_line acc line) lines ∙ and_assoc acc.ranged (is_in_range line) (all is_in_range lines)

-- ---- the first line

survey_first : (acc : Survey) (n : ℕ) (lines : List (List ℤ)) → acc.lines ≡ suc n → (survey_from acc lines).headed ≡ acc.headed
unfolding survey_from with_line
survey_first acc n [] e = refl
survey_first acc n (line ∷ lines) e = survey_first (with_line acc line) (suc n) lines (omega arith) ∙ (let n : eqb acc.lines 0 ≡ false = ne_eqb acc.lines 0 (omega arith) in rw n)

pub survey_one : (lines : List (List ℤ)) → (survey_from fresh lines).headed && eqb (get_or (tally_from no_tally lines) 1 0) 1 ≡ is_one_bFirst lines
unfolding survey_from with_line is_one_bFirst
survey_one [] = refl
survey_one (line ∷ lines) =
    rw (survey_first (with_line fresh line) 0 lines refl, tally_is 1 (omega arith) (omega arith) (line ∷ lines), count_cons is_b line lines) (by (is_b line) (count is_b lines) (any is_b lines) (count_none is_b lines))
  where
    by : (b : Bool) (n : ℕ) (more : Bool) → eqb n 0 ≡ not more → b && eqb (one b + n) 1 ≡ b && not more
    by false n more e = refl
    by true n more e =
        same_test
        (λ t. eq-eqb n 0 (let h : 1 + n ≡ 1 = eqb-true (1 + n) 1 t in omega arith))
        (λ t. eq-eqb (1 + n) 1 (let h : n ≡ 0 = eqb-true n 0 t in omega arith))
        ∙ e

-- ---- the questions

orelse_assoc : (j k m : ℕ) → (j orelse k) orelse m ≡ j orelse k orelse m
orelse_assoc zero k m = refl
orelse_assoc (suc j) k m = refl

-- question 5, row by row: `most` has what the rows allow from number k on
few_rows : (most tally : List ℕ) (lines : List (List ℤ)) (k : ℕ) (rows : List Kind) → drop k most ≡ map (λ row. row.most) rows
    → ((j : ℕ) → k ≤ j → j < k + length rows → get_or tally j 0 ≡ count (is_kind j) lines) → all (λ j. leb (get_or tally j 0) (get_or most j 0)) (numbers_from k (length rows)) ≡ are_few lines k rows
few_rows most tally lines k [] e h = refl
few_rows most tally lines k (row ∷ rows) e h =
    let there : k < length most = omega (arith, ap length e, length-drop k most) in
    let here = sym (drop_next most k 0 there) ∙ e in
    let z : k + 1 ≡ suc k = omega arith in
    let c : get_or tally k 0 ≡ count (is_kind k) lines = h k (omega arith) (omega arith) in
    let m : get_or most k 0 ≡ row.most = ap (λ xs. get_or xs 0 0) here in
    let rest = few_rows most tally lines (suc k) rows (rw z at (ap (drop 1) here)) (λ j a b. h j (omega arith) (omega arith)) in
    rw (c, m, rest)

survey_few : (lines : List (List ℤ)) → are_all_few (tally_from no_tally lines) ≡ is_not_too_long lines
unfolding is_not_too_long
survey_few lines = few_rows (0 ∷ map (λ row. row.most) kinds) (tally_from no_tally lines) lines 2 (drop 1 kinds) refl (λ j a b. tally_is j (omega arith) (omega arith) lines)

-- questions 6 and 20, and 21 before them
abbrev pub repeats_refusal : List (List ℤ) → ℕ
repeats_refusal lines = 6 unless is_no_triple_twice lines orelse 20 unless is_no_shorter_twice lines

abbrev pub last_refusal : Form → List (List ℤ) → ℕ
last_refusal form lines = 21 unless is_counted form lines orelse repeats_refusal lines

pub survey_refusal_lem : (form : Form) (lines : List (List ℤ)) → all (is_whole form) lines ≡ true → lines_refusal form lines ≡ survey_refusal (survey_from fresh lines) (tally_from no_tally lines) orelse last_refusal form lines
unfolding lines_refusal survey_refusal
survey_refusal_lem form lines w =
    rw (w, survey_one lines, survey_ranged fresh lines, survey_few lines)
    (sym (orelse_assoc (3 unless is_one_bFirst lines) (4 unless all is_in_range lines orelse 5 unless is_not_too_long lines) (last_refusal form lines)
    ∙ ap (λ (m : ℕ). 3 unless is_one_bFirst lines orelse m) (orelse_assoc (4 unless all is_in_range lines) (5 unless is_not_too_long lines) (last_refusal form lines))))

-- a line that is not whole
pub broken_refusal : (form : Form) (lines : List (List ℤ)) → all (is_whole form) lines ≡ false → lines_refusal form lines ≡ 2
unfolding lines_refusal
broken_refusal form lines w = rw w

-- ---- one line more is one more of each count at most

pub few_none : Few fresh no_tally 0
few_none = record { few_lines = omega arith; few_each = λ k. omega (arith, tally_none k); each_kind = refl }

pub few_line : (acc : Survey) (tally : List ℕ) (line : List ℤ) (n : ℕ) → Few acc tally n → Few (with_line acc line) (with_kind tally line) (n + 1)
unfolding with_line
few_line acc tally line n f = record {
  few_lines = omega (arith, f.few_lines);
  few_each = λ k. omega (arith, f.few_each k, kind_grows tally line f.each_kind k);
  each_kind = kind_long tally line f.each_kind;
}

pub few_more : {acc : Survey} {tally : List ℕ} {m n : ℕ} → Few acc tally m → m ≤ n → Few acc tally n
few_more f h = record { few_lines = omega (arith, f.few_lines); few_each = λ k. omega (arith, f.few_each k); each_kind = f.each_kind }
