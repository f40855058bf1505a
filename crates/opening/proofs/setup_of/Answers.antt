-- The B line is the first, so its numbers are the first of the list.
use borrow.Author.Rules.{rules}
use mathlib.Core.Path.{◌∙◌}
use mir.Syntax.{w32, w64}
use Rattle.laws.proofs.Integers.{back}
use Rattle.opening.proofs.Starting.{setup_is}
use Rattle.opening.proofs.setup_of.Goals as goal

pub returns : goal.returns
returns c =
    let e = c.number_at-eta in
    let u = c.number_at-unseen in
    setup_is c.args.book.now c.requires c.args.n c.args.counts _ _ _ c.natural_at-limit.ensures
    (back w64 c.from.result (search rules) ∙ c.from.ensures ∙ back w32 e.result (search rules) ∙ e.ensures)
    (back w64 c.from-2.result (search rules) ∙ c.from-2.ensures ∙ back w32 u.result (search rules) ∙ u.ensures)
