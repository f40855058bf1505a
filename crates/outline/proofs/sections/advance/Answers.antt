-- A section whose lines are all read gives way to the next; in another one stands an n-gram.
use mathlib.Core.Path.{refl}
use Rattle.outline.proofs.sections.advance.Goals as goal

pub returns : goal.returns
returns c fields lines f = c.pass_gram.ensures c.args.counts.now fields lines refl c.requires.proper f
