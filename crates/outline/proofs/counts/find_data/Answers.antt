-- No line passed is `\data\` (Looking).
use mathlib.Core.Path.{sym, ◌∙◌}
use Rattle.outline.proofs.Noted.{none_read, read_fields}
use Rattle.outline.proofs.Found.{looking_start, looking_on, found_none, found_here}
use Rattle.outline.proofs.counts.find_data.Goals as goal

pub loop-line-init : goal.loop-line-init
loop-line-init c = looking_start c.args.text.now

pub returns-then-is_mark-clause-data_found : goal.returns-then-is_mark-clause-data_found
returns-then-is_mark-clause-data_found c =
    let r = c.in-Some.ensures.line_read in
    found_here c.loop-line.invariant r (sym (c.is_mark.ensures r.fields (read_fields r)) ∙ c.if-is_mark.true)

pub loop-line-preserved : goal.loop-line-preserved
loop-line-preserved c =
    let r = c.in-Some.ensures.line_read in
    looking_on c.loop-line.invariant r (sym (c.is_mark.ensures r.fields (read_fields r)) ∙ c.if-is_mark.false)

pub returns-clause-data_found : goal.returns-clause-data_found
returns-clause-data_found c = found_none c.loop-line.invariant (none_read c.args.text.now c.loop-line.at c.read_line.new.places c.read_line.result c.in_default.not-Some c.read_line.ensures.line_read)
