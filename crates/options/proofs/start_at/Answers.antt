-- A start is a number in two halves.
use Rattle.options.specs.Options.{start_at}
use Rattle.options.proofs.start_at.Goals as goal

pub returns : goal.returns
unfolding start_at
returns c = c.whole_at.ensures.0
