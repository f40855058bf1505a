-- The outline opens the text, and the word list is indexed.
use Rattle.longer.proofs.Judging.{opened}
use Rattle.importing.proofs.import_outlined.Goals as goal

pub import_model-requires-clause-opened : goal.import_model-requires-clause-opened
import_model-requires-clause-opened c = opened c.requires.outlines
