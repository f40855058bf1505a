-- A run of bytes that pass a test: one byte further, its end, and what stands behind it.
use Prim.Native.Nat.{ℕ, ◌+◌, ◌≤◌, ◌<◌}
use mathlib.Core.Path.{◌≡◌, sym, ap, ◌∙◌}
use mathlib.Core.Bool.{Bool, true, false}
use mathlib.Core.List.{List, [], ◌∷◌}
use native.Mathlib.Omega.{arith}
use lib.ListN.{length, drop, get_or, length-drop}
use lib.Seq.{get_or-drop}
use Rattle.laws.proofs.Tests.{by_test}
use Rattle.laws.proofs.Lists.{drop_next}
use Rattle.tokens.specs.Scan.{run_length}

module _ (test : ℕ → Bool) where
  pub run_within : (t : List ℕ) → run_length test t ≤ length t
  run_within [] = omega arith
  run_within (b ∷ t) = let ih = run_within t in by_test (test b) (λ e. rw e (omega arith)) (λ e. rw e (omega arith))

  run_stops : (t : List ℕ) → run_length test t < length t → test (get_or t (run_length test t) 0) ≡ false
  run_stops [] h = absurd (omega arith)
  run_stops (b ∷ t) h =
      by_test (test b) (λ e. rw e (run_stops t (omega (arith, rw e at h)))) (λ e. rw e e)

  -- in a text, from the place i on
  module _ (t : List ℕ) (i : ℕ) where
    pub run_on : i < length t → test (get_or t i 0) ≡ true → i + 1 + run_length test (drop (i + 1) t) ≡ i + run_length test (drop i t)
    run_on h e = rw (drop_next t i 0 h, e) (omega arith)

    pub run_inside : i ≤ length t → i + run_length test (drop i t) ≤ length t
    run_inside h = omega (arith, run_within (drop i t), length-drop i t)

    -- the byte behind the run does not pass
    pub run_behind : i + run_length test (drop i t) < length t → test (get_or t (i + run_length test (drop i t)) 0) ≡ false
    run_behind h = ap test (sym (get_or-drop i t (run_length test (drop i t)) 0)) ∙ run_stops (drop i t) (omega (arith, length-drop i t))
