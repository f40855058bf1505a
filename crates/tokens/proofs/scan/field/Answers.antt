-- The part of the text is the definition's.
use mathlib.Core.Path.{refl}
use Rattle.tokens.specs.Scan.{field_at}
use Rattle.tokens.proofs.scan.field.Goals as goal

pub returns : goal.returns
unfolding field_at
returns c = refl
