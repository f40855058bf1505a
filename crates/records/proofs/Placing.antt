-- Laws of a round's steps as plain numbers: each is put in its place, one after the other.
use Prim.Native.Nat.{ℕ, zero, suc, ◌<◌, ◌≤◌}
use native.Mathlib.Omega.{arith}
use mathlib.Core.Path.{◌≡◌, refl, sym, ap, ◌∙◌}
use mathlib.Core.List.{List, [], ◌∷◌, ◌++◌}
use lib.ListN.{length, get_or, set, length-set, length-append}
use Rattle.meaning.specs.Derivation.{no_step}
use Rattle.meaning.specs.declared.Step.{Step}
use Rattle.records.specs.Rows.{row_in, rows_to, unless_none, step_over, put_over}

-- what a first position says
pub none_there : (k : ℕ) (new old : Step) → k ≡ 0 → old ≡ unless_none k new old
none_there k new old e = ap (λ (j : ℕ). unless_none j new old) (sym e)

pub one_there : (k : ℕ) (new old : Step) → (k ≡ 0 → ⊥) → new ≡ unless_none k new old
one_there zero new old differs = absurd (differs refl)
one_there (suc k) new old differs = refl

-- a list with the first k steps put over it, one after the other
abbrev pub put_to : List ℕ → ℕ → List Step → List Step
put_to numbers zero ys = ys
put_to numbers (suc k) ys = set (put_to numbers k ys) k (step_over (row_in numbers k) (get_or (put_to numbers k ys) k no_step))

pub put_to_length : (numbers : List ℕ) (k : ℕ) (ys : List Step) → length (put_to numbers k ys) ≡ length ys
put_to_length numbers zero ys = refl
put_to_length numbers (suc k) ys = length-set (put_to numbers k ys) k _ ∙ put_to_length numbers k ys

-- there are as many steps as are counted
pub count_rows : (numbers : List ℕ) (k : ℕ) → length (rows_to numbers k) ≡ k
count_rows numbers zero = refl
count_rows numbers (suc k) = length-append (rows_to numbers k) (row_in numbers k ∷ []) ∙ omega (arith, count_rows numbers k)

-- one step more is put
over_more : (xs ys : List Step) (x d : Step) → length xs < length ys
    → set (put_over xs ys) (length xs) (step_over x (get_or (put_over xs ys) (length xs) d)) ≡ put_over (xs ++ (x ∷ [])) ys
over_more [] [] x d l = absurd (omega arith)
over_more [] (y ∷ ys) x d l = refl
over_more (a ∷ xs) [] x d l = absurd (omega arith)
over_more (a ∷ xs) (y ∷ ys) x d l = ap (λ (zs : List Step). step_over a y ∷ zs) (over_more xs ys x d (omega arith))

pub put_all_over : (numbers : List ℕ) (k : ℕ) (ys : List Step) → k ≤ length ys → put_to numbers k ys ≡ put_over (rows_to numbers k) ys
put_all_over numbers zero ys l = refl
put_all_over numbers (suc k) ys l =
    let c = count_rows numbers k in
    ap (λ (zs : List Step). set zs k (step_over (row_in numbers k) (get_or zs k no_step))) (put_all_over numbers k ys (omega arith))
    ∙ ap (λ (j : ℕ). set (put_over (rows_to numbers k) ys) j (step_over (row_in numbers k) (get_or (put_over (rows_to numbers k) ys) j no_step))) (sym c)
    ∙ over_more (rows_to numbers k) ys (row_in numbers k) no_step (omega arith)
