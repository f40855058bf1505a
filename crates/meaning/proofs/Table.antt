-- The table of kinds, row by row: what holds of each row holds of every line, and a book has no more lines than its rows allow.
use Prim.Native.Nat.{ℕ, suc, ◌+◌, ◌≤◌}
use native.Mathlib.Omega.{arith}
use mathlib.Core.Path.{◌≡◌, refl}
use mathlib.Core.Bool.{true}
use mathlib.Core.List.{List, [], ◌∷◌}
use borrow.Author.Tests.{leb-true}
use lib.Dec.{leb}
use lib.IntN.{ℤ}
use Rattle.laws.specs.Bits.{one}
use Rattle.laws.specs.Lists.{count}
use Rattle.laws.proofs.Lists.{count_cons}
use Rattle.laws.proofs.Tests.{by_test, if_ind, both}
use Rattle.meaning.specs.Book.{Kind, is_kind, by_kind_from, are_few}

-- Q of each of the rows: a fact for each row of the table, and `tt` at its end
abbrev pub Each : (Kind → Type 0) → List Kind → Type 0
Each Q [] = Unit {0}
Each Q (row ∷ rows) = Q row × Each Q rows

-- what holds of each row, and of no row, holds of the line's
pub by_kind_ind : {A : Type 0} {none : A} (says : Kind → A) (line : List ℤ) (Q : A → Type 0) (k : ℕ) (rows : List Kind) → Q none → Each (λ row. Q (says row)) rows → Q (by_kind_from none says line k rows)
by_kind_ind says line Q k [] n e = n
by_kind_ind says line Q k (row ∷ rows) n e = if_ind (is_kind k line) Q (λ t. e.0) (λ f. by_kind_ind says line Q (suc k) rows n e.1)

-- ════ how many lines there are

-- the lines of the kinds from k on, and those that their rows allow
abbrev pub counted : List (List ℤ) → ℕ → List Kind → ℕ
counted lines k [] = 0
counted lines k (row ∷ rows) = count (is_kind k) lines + counted lines (suc k) rows

abbrev pub allowed : List Kind → ℕ
allowed [] = 0
allowed (row ∷ rows) = row.most + allowed rows

pub few_allowed : (lines : List (List ℤ)) (k : ℕ) (rows : List Kind) → are_few lines k rows ≡ true → counted lines k rows ≤ allowed rows
few_allowed lines k [] e = omega arith
few_allowed lines k (row ∷ rows) e =
    let h = both (leb (count (is_kind k) lines) row.most) (are_few lines (suc k) rows) e in
    omega (arith, leb-true (count (is_kind k) lines) row.most h.0, few_allowed lines (suc k) rows h.1)

-- a line is counted where its row says what no row does not
counted_more : (line : List ℤ) (lines : List (List ℤ)) (k : ℕ) (rows : List Kind) → counted lines k rows ≤ counted (line ∷ lines) k rows
counted_more line lines k [] = omega arith
counted_more line lines k (row ∷ rows) = omega (arith, count_cons (is_kind k) line lines, counted_more line lines (suc k) rows)

pub counted_next : {A : Type 0} {none : A} (says : Kind → A) (line : List ℤ) (lines : List (List ℤ)) (k : ℕ) (rows : List Kind)
    → (by_kind_from none says line k rows ≡ none → ⊥) → counted lines k rows + 1 ≤ counted (line ∷ lines) k rows
counted_next says line lines k [] h = absurd (h refl)
counted_next {none = none} says line lines k (row ∷ rows) h =
    by_test (is_kind k line)
    (λ t. let o : one (is_kind k line) ≡ 1 = rw t in omega (arith, count_cons (is_kind k) line lines, counted_more line lines (suc k) rows))
    (λ f. omega (arith, count_cons (is_kind k) line lines, counted_next {none = none} says line lines (suc k) rows (λ e. h (rw f e))))
