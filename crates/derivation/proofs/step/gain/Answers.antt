-- Each term is small, so no sum and no product leaves 64 bits.
use borrow.Author.Rules.{rules}
use Prim.Native.Nat.{ℕ, ◌+◌, ◌*◌, ◌≤◌}
use mathlib.Core.Path.{◌≡◌, sym, subst}
use native.Mathlib.Omega.{arith}
use lib.IntN.{ℤ, pos, ◌+ℤ◌, ◌*ℤ◌}
use mir.Syntax.{w64}
use mir.Val.{to_z}
use Rattle.laws.specs.Integers.{Within}
use Rattle.laws.proofs.Got.{Got, i32, i64, held, nat, add, mul, fits, kept}
use Rattle.meaning.specs.State.{gain_bound}
use Rattle.meaning.specs.Bounds.{score_most, penalty_most, words_bound}
use Rattle.derivation.specs.Next.{gain_by}
use Rattle.derivation.proofs.step.gain.Goals as goal

module _ (g eta words : ℤ) (far : ℕ) (g_is : i64 g ≡ g) (eta_is : i64 eta ≡ eta) (words_is : i32 words ≡ words) (eta_within : Within penalty_most eta)
    (rest : Within score_most g × ((far ≤ 32) × Within words_bound words)) where
  penalty : Got (penalty_most * 32) (i64 eta *ℤ to_z w64 far) (eta *ℤ pos far)
  penalty = mul (held eta_is eta_within) (nat w64 (omega arith) rest.1.0)

  first_two : Got (score_most + penalty_most * 32) (i64 g +ℤ i64 (i64 eta *ℤ to_z w64 far)) (g +ℤ eta *ℤ pos far)
  first_two = add (held g_is rest.0) (kept w64 penalty (omega arith))

  -- the narrow sum, widened
  widened : Got words_bound (i32 words) words
  widened = held words_is rest.1.1

  all_three : Got (score_most + penalty_most * 32 + words_bound) (i64 (i64 g +ℤ i64 (i64 eta *ℤ to_z w64 far)) +ℤ i64 (i32 words)) (g +ℤ eta *ℤ pos far +ℤ words)
  all_three = add (kept w64 first_two (omega arith)) (kept w64 widened (omega arith))

pub overflow_add-result-2 : goal.overflow_add-result-2
overflow_add-result-2 c = fits (all_three c.args.p.g c.args.t.eta c.args.row.score c.args.far (search rules) (search rules) (search rules) c.requires.0 c.requires.1) (omega arith)

pub returns : goal.returns
unfolding gain_by
returns c =
    let k = kept w64 (all_three c.args.p.g c.args.t.eta c.args.row.score c.args.far (search rules) (search rules) (search rules) c.requires.0 c.requires.1) (omega arith) in
    (k.is, subst (Within gain_bound) (sym k.is) k.within)
