-- The entry's line stands at its place, and each number is read where the line has it.
use borrow.Author.Rules.{rules}
use Prim.Native.Nat.{◌-◌}
use native.Mathlib.Omega.{arith}
use mathlib.Core.Path.{◌≡◌, ◌∙◌}
use lib.ListN.{get_or}
use Rattle.laws.proofs.Got.{i32, i64}
use Rattle.meaning.specs.Book.{book_of}
use Rattle.meaning.specs.Derivation.{no_entry, entry_at}
use Rattle.book.specs.Entries.{EntryAt}
use Rattle.derivation.proofs.Entries.{entry_stands}
use Rattle.derivation.proofs.places.phrase_at.Goals as goal
use Rattle.derivation.proofs.places.phrase_at.Goals.{After-entry_place-at}

entry : (c : After-entry_place-at) → EntryAt c.args.book.now c.entry_place-at.result (get_or (book_of c.args.book.now).entries (c.args.k - 1) no_entry)
entry c = rw c.entry_place-at.ensures (c.requires.entries_at.each (c.args.k - 1) (let h = c.requires.le_k in omega arith))

pub returns : goal.returns
unfolding entry_at
returns c =
    let p : i32 c.number_at-g.result ≡ c.number_at-g.result = search rules in
    entry_stands (entry (goal.at.returns c).After-entry_place-at) c.natural_at-long.result c.natural_at-count.result _
    c.natural_at-long.ensures c.natural_at-count.ensures (let q : i64 c.number_at-g.result ≡ c.number_at-g.result = search rules in rw p (q ∙ c.number_at-g.ensures))
