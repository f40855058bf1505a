-- The lines before the walk's place are noted, and with those that are left they are all lines.
use mathlib.Core.Path.{◌≡◌}
use Rattle.book.proofs.Walk.{Walked}
use Rattle.book.proofs.loaded.survey_loaded.Given as goal

abbrev pub invariant-loop-at : goal.invariant-loop-at
invariant-loop-at l = (l.at-iterator.book.now ≡ l.book) × (l.end ≡ l.at-iterator.at) × Walked l.book l.initial.index l.acc l.tally l.index l.at-iterator.at
