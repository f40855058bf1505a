-- The option stands behind the starts.
use mathlib.Core.Path.{refl}
use Rattle.options.specs.Options.{option_in}
use Rattle.options.proofs.option_at.Goals as goal

pub returns : goal.returns
unfolding option_in
returns c = refl
