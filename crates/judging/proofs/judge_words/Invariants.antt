-- What is left of the words, added to the counts so far, makes the counts of all; after i words there are i in all.
use Rattle.std.proofs.Common.{◌≡◌}
use Rattle.meaning.specs.Derivation.{in_all}
use Rattle.ngrams.specs.Grams.{grams_in}
use Rattle.judging.proofs.Counts.{nothing, left}
use Rattle.judging.proofs.judge_words.Given as goal

abbrev pub invariant-loop-word : goal.invariant-loop-word
invariant-loop-word l = record {
  counted : in_all l.s ≡ l.word-index;
  left_of : left (grams_in l.index l.t.model.count) l.words l.s l.v l.w l.word-index ≡ left (grams_in l.index l.t.model.count) l.words nothing 0 0 0;
}
