-- The list is filled with the numbers of the entry's target words, as words, from its front.
use Rattle.std.proofs.Common.{map, drop}
use Rattle.laws.proofs.Fill.{Filled}
use Rattle.derivation.specs.Model.{word_of}
use Rattle.judging.proofs.copy_words.Given as goal

abbrev pub invariant-loop-j : goal.invariant-loop-j
invariant-loop-j l = Filled l.initial.words l.words l.j (map word_of (drop l.j l.x-items)) (map word_of l.x-items)
