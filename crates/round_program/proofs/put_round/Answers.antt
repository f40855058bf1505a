-- The lists that are lent are long enough; a round that is refused leaves `out` as it was.
use native.Mathlib.Omega.{arith}
use Prim.Native.Nat.{ℕ}
use lib.IntN.{ℤ, pos}
use lib.ListN.{replicate, length-replicate}
use Rattle.printing.proofs.Lengths.{refusal_short}
use Rattle.round_program.proofs.Sheets.{sheet_put, sheet_refused}
use Rattle.round_program.proofs.put_round.Goals as goal

pub put_refusal-requires : goal.put_refusal-requires
put_refusal-requires c = omega (arith, refusal_short c.in-Err.refusal)

pub returns-in-Ok : goal.returns-in-Ok
returns-in-Ok c =
    let k = c.round_sheet-told in
    sheet_put _ _ _ (replicate 6_144 0) (replicate 16_384 0) (replicate 4_096 (pos 0)) (replicate 576 (pos 0)) (length-replicate {A = ℕ} _ 0) (length-replicate {A = ℕ} _ 0) (length-replicate {A = ℤ} _ (pos 0)) (length-replicate {A = ℤ} _ (pos 0)) _ _ c.requires c.in-Ok.n (rw c.in-Ok.is at k.ensures.result_value) k.ensures.sheet_after k.auto.sheet

pub returns-in-Err : goal.returns-in-Err
returns-in-Err c =
    let k = c.round_sheet-told in
    sheet_refused _ _ _ (replicate 6_144 0) (replicate 16_384 0) (replicate 4_096 (pos 0)) (replicate 576 (pos 0)) (length-replicate {A = ℕ} _ 0) (length-replicate {A = ℕ} _ 0) (length-replicate {A = ℤ} _ (pos 0)) (length-replicate {A = ℤ} _ (pos 0)) _ _ c.requires c.in-Err.refusal (rw c.in-Err.is at k.ensures.result_value) k.ensures.sheet_after c.put_refusal.ensures
