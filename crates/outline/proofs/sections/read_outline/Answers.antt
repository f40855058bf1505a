-- The counts as they are read and the lines behind them decide as those of the text do (Judged).
use mathlib.Core.Path.{sym, ◌∙◌}
use native.Mathlib.Omega.{arith}
use Rattle.outline.proofs.Judged.{broken_counts, broken_sections, outlined}
use Rattle.outline.proofs.sections.read_outline.Goals as goal

pub returns-then-top-eq0 : goal.returns-then-top-eq0
returns-then-top-eq0 c = broken_counts c.find_data-data.ensures.data_found c.read_counts-counted.ensures.counts_read c.if-top-eq0.true

pub returns-then-not-are_sections : goal.returns-then-not-are_sections
returns-then-not-are_sections c =
    let d = c.find_data-data.ensures.data_found in
    let k = c.read_counts-counted.ensures.counts_read in
    broken_sections d k (omega arith) (omega arith) (sym (c.if-not-are_sections.true) ∙ c.are_sections.ensures)

pub returns : goal.returns
returns c =
    let d = c.find_data-data.ensures.data_found in
    let k = c.read_counts-counted.ensures.counts_read in
    outlined d k (omega arith) (omega arith) (sym (c.if-not-are_sections.false) ∙ c.are_sections.ensures)
