-- What an import puts into the B record.
use Rattle.std.specs.Prelude.{List, ℤ, pos, set, unwrap_or}
use Rattle.meaning.specs.Book.{number_at}
use Rattle.longer.specs.declared.Longer.{Longer}

-- a list with u and the count of the T lines in its B record
unfoldable pub with_model : Longer → List ℤ → List ℤ
with_model l book = set (set book 3 (unwrap_or l.unseen (number_at book 3))) 5 (pos l.triples)
