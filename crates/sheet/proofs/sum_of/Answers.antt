-- The sum of the directions passed, with the next number, as code has it.
use Prim.Native.Nat.{ℕ, ◌+◌, ◌*◌, ◌<◌, ◌≤◌}
use native.Mathlib.Omega.{arith}
use mathlib.Core.Path.{◌≡◌, refl, sym, ◌∙◌}
use mathlib.Core.List.{List, map}
use lib.IntN.{ℤ, ◌+ℤ◌}
use mir.Syntax.{w64}
use Rattle.laws.specs.Lists.{numbers_from, sumℤ, Each}
use Rattle.laws.proofs.Got.{Got, i64, held, add, kept, fits}
use Rattle.meaning.specs.State.{score_bound}
use Rattle.sheet.specs.Rows.{number_at}
use Rattle.sheet.proofs.Going.{sum_more}
use Rattle.sheet.proofs.Sums.{sums_within, number_within}
use Rattle.sheet.proofs.sum_of.Goals as goal

summed : (answers : List ℤ) (place k count : ℕ) {sum : ℤ} → sum ≡ sumℤ (map (number_at answers place) (numbers_from 0 k)) → k < count → count ≤ 64
    → Each score_bound (map (number_at answers place) (numbers_from 0 count))
    → Got (64 * score_bound + score_bound) (sum +ℤ i64 (number_at answers place k)) (sumℤ (map (number_at answers place) (numbers_from 0 k)) +ℤ number_at answers place k)
summed answers place k count e lt few each =
    add (held e (sums_within answers place k count (omega arith) few each))
    (kept w64 (held refl (number_within answers place k count each (omega arith))) (omega arith))

pub overflow_add-sum-in-loop-k : goal.overflow_add-sum-in-loop-k
overflow_add-sum-in-loop-k c =
    fits (summed c.args.answers.now c.args.place c.loop-k.k c.args.count c.loop-k.invariant c.loop-k-test.true c.requires.fits.few c.requires.each) (omega arith)

pub loop-k-preserved : goal.loop-k-preserved
loop-k-preserved c =
    (kept w64 (summed c.args.answers.now c.args.place c.loop-k.k c.args.count c.loop-k.invariant c.loop-k-test.true c.requires.fits.few c.requires.each) (omega arith)).is
    ∙ sym (sum_more c.args.answers.now c.args.place c.loop-k.k)
