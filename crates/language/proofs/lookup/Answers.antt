-- What the search finds is one of the records, so its score stands in the list.
use mathlib.Core.Path.{ap, ◌∙◌}
use native.Mathlib.Omega.{arith}
use mir.Facts.{to_z-of_z}
use mir.Syntax.{w64}
use Rattle.std.proofs.Common.{Some, option_map}
use Rattle.laws.proofs.Linear.{told}
use Rattle.ngrams.specs.Grams.{score_at}
use Rattle.language.specs.Language.{latest_score}
use Rattle.language.proofs.Scores.{found_lt}
use Rattle.language.proofs.lookup.Goals as goal

pub returns-in_err-k : goal.returns-in_err-k
unfolding latest_score
returns-in_err-k c = c.from_residual.ensures ∙ ap (option_map (score_at c.args.index.now)) c.in_err-k.ensures

pub score_at-requires : goal.score_at-requires
score_at-requires c = omega (arith, found_lt c.args.index.now c.args.count c.args.key c.in_ok-k.ensures, c.requires.room.parts)

pub returns : goal.returns
unfolding latest_score
returns c = ap Some (to_z-of_z {w = w64} (told {w = w64} c.score_at.type_inv) ∙ c.score_at.ensures) ∙ ap (option_map (score_at c.args.index.now)) c.in_ok-k.ensures
