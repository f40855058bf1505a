-- The lines before i are indexed.
use Rattle.spelling.specs.Index.{Indexed}
use Rattle.spelling.proofs.index_lines.Given as goal

abbrev pub invariant-loop-i : goal.invariant-loop-i
invariant-loop-i l = Indexed l.list l.index l.starts l.i
