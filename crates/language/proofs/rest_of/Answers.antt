-- The other words: one of a pair, or two of a triple.
use mathlib.Core.Path.{◌∙◌}
use Rattle.language.proofs.Scores.{pair_rest, triple_rest}
use Rattle.language.proofs.rest_of.Goals as goal

pub returns-then-key-eq2 : goal.returns-then-key-eq2
returns-then-key-eq2 c = c.word.ensures ∙ pair_rest c.requires c.if-key-eq2.true

pub returns-else-key-eq2 : goal.returns-else-key-eq2
returns-else-key-eq2 c = c.pair.ensures ∙ triple_rest c.requires c.if-key-eq2.false
