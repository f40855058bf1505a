-- What is left of the sections decides at each line what the whole does (Walking).
use Rattle.outline.proofs.Noted.{none_read, read_fields}
use Rattle.outline.proofs.Steps.{walking_none, walking_end}
use Rattle.outline.proofs.sections.are_sections.Goals as goal

pub returns-then-counts-cursor : goal.returns-then-counts-cursor
returns-then-counts-cursor c =
    let r = c.in-Some.ensures.line_read in
    walking_end c.loop-line.invariant r c.if-cursor-eq0.true c.if-counts-cursor.true (c.is_mark.ensures r.fields (read_fields r))

pub returns : goal.returns
returns c = walking_none c.loop-line.invariant (none_read c.args.text.now c.loop-line.at c.read_line.new.places c.read_line.result c.in_default.not-Some c.read_line.ensures.line_read)
