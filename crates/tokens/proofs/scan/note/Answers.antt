-- The two stores are the definition's.
use borrow.Author.Tests.{lt-ltb, le-ltb}
use Rattle.tokens.specs.Scan.{note_at}
use Rattle.tokens.proofs.scan.note.Goals as goal

pub returns-then-k-lt5 : goal.returns-then-k-lt5
unfolding note_at
returns-then-k-lt5 c = rw (lt-ltb _ _ c.if-k-lt5.true)

pub returns-else-k-lt5 : goal.returns-else-k-lt5
unfolding note_at
returns-else-k-lt5 c = rw (le-ltb _ _ c.if-k-lt5.false)
