-- No digit of 0 is 1, so nothing is covered.
use mathlib.Core.Path.{refl, ap}
use mathlib.Core.Bool.{Bool}
use mathlib.Core.List.{List}
use Rattle.laws.proofs.Bits.{bits_zero}
use Rattle.meaning.specs.State.{Key, key_of, start}
use Rattle.meaning.proofs.State.start.Statement.{statement}
use Rattle.meaning.proofs.State.start.Tie as tie

-- src/lib.rt:38:5
returns : tie.Need-returns
unfolding key_of start
returns c =
    record {
      key_is = λ n. ap {B = Key} (λ (bits : List Bool). record { word1 = 0; word2 = 0; covered = bits; r = 0 }) (bits_zero n);
      score_is = refl;
    }

pub start_spec : {M : Type 1} → statement M
start_spec = tie.close (tie.spec returns)
