-- A P line's place is put where the caller has room for it; any other line changes nothing.
use mathlib.Core.Path.{sym, ◌∙◌}
use Rattle.book.proofs.Places.{place_put, place_not}
use Rattle.book.proofs.entries.put_place.Goals as goal

pub returns-then-is_entry_at-clause-index_after : goal.returns-then-is_entry_at-clause-index_after
returns-then-is_entry_at-clause-index_after c = let s = c.args in
    let put = place_put s.book.now s.at s.index.now s.count (sym c.is_entry_at.ensures ∙ c.if-is_entry_at.true) in
    c.put_whole.ensures ∙ put.1

pub returns-else-is_entry_at-clause-index_after : goal.returns-else-is_entry_at-clause-index_after
returns-else-is_entry_at-clause-index_after c = (place_not c.args.book.now c.args.at c.args.index.now c.args.count (sym c.is_entry_at.ensures ∙ c.if-is_entry_at.false)).1
