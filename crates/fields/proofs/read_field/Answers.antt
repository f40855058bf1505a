-- A line begins with its letter, and a number stands behind a comma.
use Rattle.fields.proofs.read_field.Goals as goal

pub returns-else-line : goal.returns-else-line
returns-else-line c = rw c.if-line.false (c.read_number.ensures c.args.book)
