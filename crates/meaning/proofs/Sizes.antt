-- How long a line and a book can be: a line has four to 20 numbers, and a book that 2 to 6 pass has no more than 28,673 lines.
use Prim.Native.Nat.{ℕ, ◌≤◌, ◌<◌}
use mathlib.Core.Path.{◌≡◌, refl, ap, ◌∙◌}
use mathlib.Core.Bool.{Bool, true, false, not, ◌&&◌, and-false}
use mathlib.Core.List.{List, [], ◌∷◌}
use native.Mathlib.Omega.{arith}
use borrow.Author.Tests.{eqb-true, ne_eqb}
use lib.Dec.{eqb}
use lib.IntN.{ℤ, pos, negsuc}
use lib.ListN.{length, drop}
use lib.Signed.{le_z}
use Rattle.laws.specs.Bits.{one}
use Rattle.laws.specs.Integers.{nat_of}
use Rattle.laws.specs.Lists.{all, any, count, is_empty}
use Rattle.laws.proofs.Lists.{count_cons, count_none}
use Rattle.laws.proofs.Tests.{if_ind, both, clash}
use Rattle.laws.proofs.Linear.{signed}
use Rattle.meaning.specs.Book.{Form, in_text, in_list, size_b, number_at, is_phrase_length, phrase_size, kinds, is_b, size_of, is_whole, is_one_bFirst, is_not_too_long}
use Rattle.meaning.proofs.Table.{by_kind_ind, counted, allowed, few_allowed, counted_next}
use Rattle.meaning.proofs.Ranges.{Passed}

-- ════ a line

eight : (z : ℤ) → is_phrase_length z ≡ true → nat_of z ≤ 8
eight (pos n) e = let h : le_z (pos n) (pos 8) ≡ true = (both (le_z (pos 1) (pos n)) (le_z (pos n) (pos 8)) e).1 in omega (arith, signed)
eight (negsuc n) e = omega arith

phrase_to : (line : List ℤ) → phrase_size line ≤ 20
phrase_to line =
    if_ind (is_phrase_length (number_at line 1) && is_phrase_length (number_at line 2)) (λ (n : ℕ). n ≤ 20)
    (λ t. let h = both (is_phrase_length (number_at line 1)) (is_phrase_length (number_at line 2)) t in
    omega (arith, eight (number_at line 1) h.0, eight (number_at line 2) h.1)) (λ t. omega arith)

b_size : (form : Form) → (4 ≤ size_b form) × (size_b form ≤ 20)
b_size in_text = (omega arith, omega arith)
b_size in_list = (omega arith, omega arith)

pub size_to : (form : Form) (line : List ℤ) → size_of form line ≤ 20
unfolding size_of
size_to form line = by_kind_ind (λ row. row.size form line) line (λ (n : ℕ). n ≤ 20) 1 kinds (omega arith) ((b_size form).1, (phrase_to line, (omega arith, (omega arith, (omega arith, tt)))))

-- a size is 0, or four at least
abbrev From : ℕ → Type 0
From n = (n ≡ 0 → ⊥) → 4 ≤ n

phrase_from : (line : List ℤ) → From (phrase_size line)
phrase_from line = if_ind (is_phrase_length (number_at line 1) && is_phrase_length (number_at line 2)) From (λ t h. omega arith) (λ t h. absurd (h refl))

pub size_from : (form : Form) (line : List ℤ) → (size_of form line ≡ 0 → ⊥) → 4 ≤ size_of form line
unfolding size_of
size_from form line = by_kind_ind (λ row. row.size form line) line From 1 kinds (λ h. absurd (h refl)) ((λ h. (b_size form).0), (phrase_from line, ((λ h. omega arith), ((λ h. omega arith), ((λ h. omega arith), tt)))))

-- a whole line has as many numbers as its kind takes, and so four at least
pub whole_size : (form : Form) (line : List ℤ) → is_whole form line ≡ true → length line ≡ size_of form line
unfolding is_whole
whole_size form line w = eqb-true (length line) (size_of form line) (both (not (is_empty line)) (eqb (length line) (size_of form line)) w).1

whole_some : (form : Form) (line : List ℤ) → is_whole form line ≡ true → size_of form line ≡ 0 → ⊥
unfolding is_whole
whole_some form [] w z = clash w refl
whole_some form (a ∷ line) w z = let e = whole_size form (a ∷ line) w in omega arith

pub four_numbers : (form : Form) (line : List ℤ) → is_whole form line ≡ true → 4 ≤ length line
four_numbers form line w = let e = whole_size form line w in let s = size_from form line (whole_some form line w) in omega arith

-- a row of 20 places serves every line: one of more numbers has the size of no kind, so question 2 refuses it
pub too_long : (form : Form) (line : List ℤ) → 20 < length line → is_whole form line ≡ false
unfolding is_whole
too_long form line h =
    let s = size_to form line in
    ap (λ x. not (is_empty line) && x) (ne_eqb (length line) (size_of form line) (λ e. omega arith)) ∙ and-false (not (is_empty line))

-- ════ all lines

-- a whole line is of one of the kinds
known : (form : Form) (lines : List (List ℤ)) → all (is_whole form) lines ≡ true → length lines ≤ counted lines 1 kinds
unfolding size_of
known form [] w = omega arith
known form (line ∷ lines) w =
    let h = both (is_whole form line) (all (is_whole form) lines) w in
    omega (arith, counted_next (λ row. row.size form line) line lines 1 kinds (whole_some form line h.0), known form lines h.1)

one_b : (lines : List (List ℤ)) → is_one_bFirst lines ≡ true → count is_b lines ≤ 1
unfolding is_one_bFirst
one_b [] e = clash e refl
one_b (line ∷ lines) e =
    let h = both (is_b line) (not (any is_b lines)) e in
    let z : count is_b lines ≡ 0 = eqb-true (count is_b lines) 0 (count_none is_b lines ∙ h.1) in
    omega (arith, count_cons is_b line lines, one_most (is_b line))
  where
    one_most : (b : Bool) → one b ≤ 1
    one_most true = omega arith
    one_most false = omega arith

-- lines that 2 to 6 pass: as many as the table allows
pub passed_few : (form : Form) (lines : List (List ℤ)) → Passed form lines → length lines ≤ allowed kinds
unfolding is_not_too_long
passed_few form lines p = omega (arith, known form lines p.whole, one_b lines p.one_b, few_allowed lines 2 (drop 1 kinds) p.short)
