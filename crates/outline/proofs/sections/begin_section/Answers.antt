-- Behind a section that is not the last comes the mark of the next.
use mathlib.Core.Path.{sym, ◌∙◌}
use Rattle.outline.proofs.Steps.{no_section, section_begins}
use Rattle.outline.proofs.sections.begin_section.Goals as goal

pub returns-then-not-is_section : goal.returns-then-not-is_section
returns-then-not-is_section c fields lines f = no_section c.requires.proper fields lines c.requires.left_value c.requires.more (sym (c.if-not-is_section.true) ∙ c.is_section.ensures fields f)

pub returns : goal.returns
returns c fields lines f = section_begins c.requires.proper fields lines c.requires.left_value c.requires.more (sym (c.if-not-is_section.false) ∙ c.is_section.ensures fields f)
