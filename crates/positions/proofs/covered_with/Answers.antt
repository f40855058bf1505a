-- The mask is a difference of two powers of 2, the larger one first.
use Rattle.std.proofs.Common.{ℕ, ◌*◌, ◌%◌, ◌^◌, ◌≤◌, ◌<◌, arith}
use Rattle.std.proofs.lemmas.Nat.{one_shl}
use lib.Pow.{pow_mono}
use Rattle.positions.proofs.covered_with.Goals as goal

shifted_mono : (i j : ℕ) → i ≤ j → j < 64 → (1 * 2 ^ i) % 2 ^ 64 ≤ (1 * 2 ^ j) % 2 ^ 64
shifted_mono i j h k = rw (one_shl i 64 (omega arith), one_shl j 64 k) (pow_mono h)

pub overflow_sub-mask-2 : goal.overflow_sub-mask-2
overflow_sub-mask-2 c = shifted_mono _ _ (omega arith) (omega arith)
