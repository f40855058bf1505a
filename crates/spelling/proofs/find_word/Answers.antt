-- The first `count` lines are all.
use mathlib.Core.Path.{◌∙◌}
use Rattle.spelling.proofs.Words.{before_all, or_zero}
use Rattle.spelling.proofs.find_word.Goals as goal

pub returns : goal.returns
returns c = c.unwrap_or.ensures ∙ or_zero _ _ c.find.ensures ∙ before_all c.args.list.now c.args.count c.args.word.now c.requires.all
