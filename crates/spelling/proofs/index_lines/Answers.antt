-- The lines before i are indexed.
use native.Mathlib.Omega.{arith}
use Rattle.spelling.proofs.Index.{index_none}
use Rattle.spelling.proofs.index_lines.Goals as goal

pub loop-i-init : goal.loop-i-init
loop-i-init c = index_none c.requires.lined.lines (omega (arith, c.requires.index_size_in_bounds, c.clear.auto.index)) c.clear.ensures
