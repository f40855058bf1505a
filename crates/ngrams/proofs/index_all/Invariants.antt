-- What the records before i answer goes into the answer of those up to i.
use Prim.Native.Nat.{ℕ}
use mathlib.Core.List.{List}
use mathlib.Core.Path.{◌≡◌}
use Rattle.std.proofs.Common.{Option}
use Rattle.meaning.specs.declared.Refusal.{Refusal}
use Rattle.ngrams.specs.Parts.{KeptRecords}
use Rattle.ngrams.specs.Grams.{repeat_refusal, number_or0, Room, Indexed}
use Rattle.ngrams.proofs.index_all.Given as goal

-- the first i records are indexed, and `found` is their answer
pub record Built (index₀ index : List ℕ) (count : ℕ) (found : Option Refusal) (i : ℕ) : Type 0 where
  pub indexed : Indexed index i
  pub room : Room index count
  pub kept : KeptRecords index₀ index
  pub answer : number_or0 found ≡ repeat_refusal index i

abbrev pub invariant-loop-i : goal.invariant-loop-i
invariant-loop-i l = Built l.initial.index l.index l.count l.found l.i
