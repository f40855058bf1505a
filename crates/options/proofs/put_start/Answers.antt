-- The start is put in two halves, which touch no other start and no option.
use Rattle.options.proofs.Listing.{start_put}
use Rattle.options.proofs.put_start.Goals as goal

pub returns : goal.returns
returns c = rw c.put_whole.ensures (start_put c.args.options.now c.args.i c.args.start c.requires.i_bound.0 c.requires.i_bound.1)
