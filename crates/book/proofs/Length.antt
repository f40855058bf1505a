-- A book that 2 to 6 pass is short: at most 20 numbers for each of 12,289 lines.
use Prim.Native.Nat.{ℕ, zero, suc, ◌+◌, ◌*◌, ◌≤◌, ◌<◌, ◌^◌}
use native.Mathlib.Omega.{arith}
use mathlib.Core.Path.{◌≡◌, refl, sym, ◌∙◌, ap}
use mathlib.Core.Bool.{true}
use mathlib.Core.List.{List}
use lib.Dec.{leb}
use lib.IntN.{ℤ}
use lib.ListN.{length, take, drop}
use borrow.Author.Tests.{leb-true, leb-false}
use Rattle.laws.specs.Lists.{all}
use Rattle.laws.proofs.Tests.{both, by_test}
use Rattle.meaning.specs.Book.{in_list, is_whole, loaded_lines, book_refusal}
use Rattle.meaning.proofs.Ranges.{lines_passed}
use Rattle.meaning.proofs.Sizes.{size_to, passed_few}
use Rattle.book.specs.Loaded.{size_at}
use Rattle.book.proofs.Cuts.{LineAt, line_here}

-- the numbers from `at` on, by the lines that stand there
lines_cover : (fuel : ℕ) (loaded : List ℤ) (at : ℕ) → length loaded ≤ at + fuel → all (is_whole in_list) (loaded_lines (drop at loaded)) ≡ true
    → length loaded ≤ at + 20 * length (loaded_lines (drop at loaded))
lines_cover zero loaded at h w = omega arith
lines_cover (suc fuel) loaded at h w =
    by_test (leb (length loaded) at)
    (λ t. let l = leb-true (length loaded) at t in omega arith)
    (λ f.
    let lt = leb-false (length loaded) at f in
    let size = size_at loaded at in
    let l : LineAt loaded at size = line_here loaded at size w (omega arith) refl in
    let rest : all (is_whole in_list) (loaded_lines (drop (at + size) loaded)) ≡ true = (both (is_whole in_list (take size (drop at loaded))) _ (sym (ap (all (is_whole in_list)) l.lines) ∙ w)).1 in
    let ih = lines_cover fuel loaded (at + size) (let s = l.some in omega arith) rest in
    omega (arith, ih, ap length l.lines, l.size_is, size_to in_list (drop at loaded)))

-- so each place in it is a small number
pub loaded_short : (loaded : List ℤ) → book_refusal loaded ≡ 0 → length loaded < 2 ^ 31
unfolding book_refusal
loaded_short loaded e =
    let p = lines_passed in_list (loaded_lines loaded) e in
    omega (arith, lines_cover (length loaded) loaded 0 (omega arith) p.whole, passed_few in_list (loaded_lines loaded) p)
