-- A number that is not negative is its own size, and any other counts as 0.
use Rattle.std.proofs.Common.{ℕ, ◌%◌, ap, ◌∙◌}
use Rattle.laws.proofs.Integers.{nat_back}
use Rattle.meaning.specs.Bounds.{word_span}
use Rattle.derivation.specs.Model.{word_of}
use Rattle.derivation.proofs.model.word_of.Goals as goal

pub returns : goal.returns
unfolding word_of
returns c = ap (λ (n : ℕ). n % word_span) (c.natural.ensures ∙ nat_back c.ranges.x)
