-- What is left of the words, added to the row so far, makes the whole row; after j words the sum is within j times triple_bound.
use Rattle.std.proofs.Common.{◌≡◌, ◌*◌, map, drop}
use Rattle.laws.specs.Integers.{Within}
use Rattle.meaning.specs.Bounds.{triple_bound}
use Rattle.derivation.specs.Model.{word_of, empty_row, with_words}
use Rattle.derivation.proofs.model.row_of.Given as goal

abbrev pub invariant-loop-x : goal.invariant-loop-x
invariant-loop-x l = record {
  within : Within (l.x-index * triple_bound) l.row.score;
  left : with_words l.index l.t l.row (map word_of (drop l.x-index l.x-items)) ≡ with_words l.index l.t (empty_row l.word1 l.word2) (map word_of l.x-items);
}
