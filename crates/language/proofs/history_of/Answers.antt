-- A pair's first word, or a triple's first two.
use mathlib.Core.Path.{◌∙◌}
use Rattle.language.proofs.Scores.{pair_history, triple_history}
use Rattle.language.proofs.history_of.Goals as goal

pub returns-then-key-eq2 : goal.returns-then-key-eq2
returns-then-key-eq2 c = c.word.ensures ∙ pair_history c.requires c.if-key-eq2.true

pub returns-else-key-eq2 : goal.returns-else-key-eq2
returns-else-key-eq2 c = c.pair.ensures ∙ triple_history c.requires c.if-key-eq2.false
