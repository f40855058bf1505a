-- Steps as numbers: the number gives the step back, and two numbers are in the order of their steps.
use Prim.Native.Nat.{ℕ, ◌+◌, ◌*◌, ◌/◌, ◌%◌, ◌<◌, ◌≤◌}
use native.Mathlib.Omega.{arith}
use mathlib.Core.Path.{◌≡◌, sym, ◌∙◌, ap}
use mathlib.Core.Bool.{true, false}
use borrow.Author.Tests.{ltb-true, ltb-false, lt-ltb, le-ltb}
use lib.Dec.{ltb}
use Rattle.laws.proofs.Orders.{weak_irrefl}
use Rattle.laws.proofs.Tests.{by_test}
use Rattle.meaning.specs.Derivation.{step_before}
use Rattle.meaning.specs.declared.Step.{Step}
use Rattle.meaning.proofs.Order.{step_weak}
use Rattle.ways.specs.Codes.{code_of, step_of}

pub code_back : (step : Step) → step.last < 64 → step.entry < 65_536 → step_of (code_of step) ≡ step
unfolding code_of step_of
code_back step h k =
    let f : (step.first * 4_194_304 + step.last * 65_536 + step.entry) / 4_194_304 ≡ step.first = omega arith in
    let l : (step.first * 4_194_304 + step.last * 65_536 + step.entry) / 65_536 % 64 ≡ step.last = omega arith in
    let e : (step.first * 4_194_304 + step.last * 65_536 + step.entry) % 65_536 ≡ step.entry = omega arith in
    λ i. record { first = f i; last = l i; entry = e i }

code_less : (i j : ℕ) → i < j → step_before (step_of i) (step_of j) ≡ true
unfolding step_before step_of
code_less i j h =
    by_test (ltb (i / 4_194_304) (j / 4_194_304))
    (λ t. rw t)
    (λ f.
    let f' : j / 4_194_304 ≤ i / 4_194_304 = ltb-false (i / 4_194_304) (j / 4_194_304) f in
    let g : ltb (j / 4_194_304) (i / 4_194_304) ≡ false = le-ltb (j / 4_194_304) (i / 4_194_304) (omega arith) in
    by_test (ltb (i / 65_536 % 64) (j / 65_536 % 64))
    (λ t. rw (f, g, t))
    (λ u.
    let u' : j / 65_536 % 64 ≤ i / 65_536 % 64 = ltb-false (i / 65_536 % 64) (j / 65_536 % 64) u in
    let v : ltb (j / 65_536 % 64) (i / 65_536 % 64) ≡ false = le-ltb (j / 65_536 % 64) (i / 65_536 % 64) (omega arith) in
    let w : ltb (i % 65_536) (j % 65_536) ≡ true = lt-ltb (i % 65_536) (j % 65_536) (omega arith) in
    rw (f, g, u, v, w)))

pub codes_ordered : (i j : ℕ) → step_before (step_of i) (step_of j) ≡ ltb i j
codes_ordered i j =
    by_test (ltb i j)
    (λ t. code_less i j (ltb-true i j t) ∙ sym t)
    (λ f. by_test (ltb j i)
    (λ t. step_weak.asym (step_of j) (step_of i) (code_less j i (ltb-true j i t)) ∙ sym f)
    (λ g. let e : i ≡ j = omega (arith, ltb-false i j f, ltb-false j i g) in ap (λ (k : ℕ). step_before (step_of i) (step_of k)) (sym e) ∙ weak_irrefl step_weak (step_of i) ∙ sym f))
