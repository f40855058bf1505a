-- A digit more (Fields), which is read of at most 999,999.
use Prim.Native.Nat.{◌-◌, ◌<◌}
use mathlib.Core.Path.{◌≡◌}
use mathlib.Core.Bool.{true, ◌&&◌}
use native.Mathlib.Omega.{arith}
use lib.ListN.{get_or, length}
use Rattle.std.proofs.lemmas.Grind.{common_steps}
use Rattle.laws.proofs.Tests.{both, between}
use Rattle.meaning.specs.Numerals.{is_digit}
use Rattle.fields.specs.Scan.{more_digits}
use Rattle.fields.proofs.Fields.{on_more, on_digit}
use Rattle.fields.proofs.read_digits.Goals as goal

pub loop-b-preserved : goal.loop-b-preserved
loop-b-preserved c =
    let t = c.args.text.now in
    let l = c.loop-b in
    let h : l.end < length t = grind (arith, common_steps) in
    let s : get_or t l.end 0 - 48 ≡ c.from.result = grind (arith, common_steps) in
    let e : is_digit (get_or t l.end 0) && more_digits l.value ≡ true = grind (arith, common_steps) in
    let d = both (is_digit (get_or t l.end 0)) (more_digits l.value) e in
    let more = between 1 999999 l.value d.1 in
    let digit = between 48 57 (get_or t l.end 0) d.0 in
    record {
      on = λ book minus. on_more (l.invariant.on book minus) (rw s at (on_digit book t l.end h minus l.value e));
      small = omega arith;
      place = omega arith;
    }
