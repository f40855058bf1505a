-- The two sums fit, and are put as a line.
use native.Mathlib.Omega.{arith}
use mathlib.Core.Path.{ap}
use Rattle.meaning.specs.Render.{printed_line}
use Rattle.decimals.proofs.Laws.{put_is}
use Rattle.sheet.proofs.Sums.{each_score, each_words, each_more}
use Rattle.sheet.proofs.Totals.{total_held, total_fits}
use Rattle.sheet.proofs.put_total.Goals as goal

pub sum_of-words-requires-clause-each : goal.sum_of-words-requires-clause-each
sum_of-words-requires-clause-each c = each_more (omega arith) (each_words c.requires.fits)

pub sum_of-score-requires-clause-each : goal.sum_of-score-requires-clause-each
sum_of-score-requires-clause-each c = each_score c.requires.fits

pub put_line-requires : goal.put_line-requires
put_line-requires c = let f = c.requires.fits in
    rw (total_held f c.sum_of-words.ensures c.sum_of-score.ensures) (omega (arith, total_fits f))

pub returns : goal.returns
returns c = put_is (ap (printed_line 90) (total_held c.requires.fits c.sum_of-words.ensures c.sum_of-score.ensures)) c.put_line.ensures
