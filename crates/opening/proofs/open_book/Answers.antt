-- What 2 to 6 and 20 answer; where they pass, the places of the entries are put behind what loading left.
use Rattle.opening.proofs.Starting.{opened}
use Rattle.opening.proofs.open_book.Goals as goal

pub returns : goal.returns
returns c = opened c.in_ok-grams.ensures c.find_entries-phrases.ensures
