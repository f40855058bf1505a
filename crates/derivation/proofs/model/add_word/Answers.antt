-- The score of the new triple is within triple_bound and the sum with it within words_bound, far below what 32 bits hold.
use borrow.Author.Rules.{rules}
use Prim.Native.Nat.{◌+◌, ◌-◌}
use mathlib.Core.Path.{◌≡◌, ap, ◌∙◌}
use native.Mathlib.Omega.{arith}
use lib.IntN.{ℤ, ◌+ℤ◌}
use mir.Syntax.{w32}
use Rattle.laws.proofs.Got.{Got, i32, i64, held, add, fits, kept}
use Rattle.meaning.specs.Bounds.{triple_bound, words_bound}
use Rattle.derivation.specs.Model.{model_score, with_word}
use Rattle.derivation.specs.declared.Row.{Row}
use Rattle.derivation.proofs.model.add_word.Goals as goal
use Rattle.derivation.proofs.model.add_word.Goals.{After-triple_score-triple, Start}

module _ (c : After-triple_score-triple) where
  -- the score of the new triple
  triple : Got triple_bound (i64 c.triple_score-triple.result) (model_score c.args.index.now c.args.t c.args.s.word1 c.args.s.word2 c.args.y)
  unfolding model_score
  triple = let e : i64 c.triple_score-triple.result ≡ c.triple_score-triple.result = search rules in held (e ∙ c.triple_score-triple.ensures) (c.requires.model.scores_within c.args.s.word1 c.args.s.word2 c.args.y)

  -- and the sum so far
  sum : Got (words_bound - triple_bound + triple_bound) (i32 c.args.s.score +ℤ i32 (i64 c.triple_score-triple.result)) (c.args.s.score +ℤ model_score c.args.index.now c.args.t c.args.s.word1 c.args.s.word2 c.args.y)
  sum = let e : i32 c.args.s.score ≡ c.args.s.score = search rules in add (held e c.requires.within) (kept w32 triple (omega arith))

pub overflow_cast-result : goal.overflow_cast-result
overflow_cast-result c = fits (triple (goal.at.overflow_cast-result c).After-triple_score-triple) (omega arith)

pub overflow_add-result : goal.overflow_add-result
overflow_add-result c = fits (sum (goal.at.overflow_add-result c).After-triple_score-triple) (omega arith)

pub returns : goal.returns
unfolding with_word
returns c = ap {B = Row} (λ (z : ℤ). record { score = z; word1 = c.args.s.word2; word2 = c.args.y }) (kept w32 (sum (goal.at.returns c).After-triple_score-triple) (omega arith)).is
