-- The fields from k on hold the word where all do.
use Prim.Native.Nat.{◌+◌, ◌-◌}
use mathlib.Core.Path.{◌≡◌}
use Rattle.ngram_lines.proofs.Places.{is_among}
use Rattle.ngram_lines.proofs.has_word.Given as goal

abbrev pub invariant-loop-k : goal.invariant-loop-k
invariant-loop-k l = is_among l.text l.places l.word l.k ((l.fn.at.order + 1) - l.k) ≡ is_among l.text l.places l.word 1 l.fn.at.order
