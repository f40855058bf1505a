-- The lines before i have their starts, and line i, if there is one, starts at `at`.
use Rattle.spelling.proofs.Lines.{Read}
use Rattle.spelling.proofs.find_lines.Given as goal

abbrev pub invariant-loop-i : goal.invariant-loop-i
invariant-loop-i l = Read l.list l.starts l.at l.i
