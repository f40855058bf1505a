-- The line at the front of what is left, if all of it is there.
use mathlib.Core.Path.{refl, ap, ◌∙◌}
use Rattle.laws.proofs.Lists.{part_rest}
use Rattle.meaning.specs.Book.{in_list, size_of}
use Rattle.book.proofs.Cuts.{size_fits, size_passes}
use Rattle.book.proofs.loaded.size_at.Goals as goal

pub returns-then-size-book-clause-value : goal.returns-then-size-book-clause-value
returns-then-size-book-clause-value c = size_fits c.args.book.now c.args.at c.size_of-size.result (c.size_of-size.ensures in_list refl ∙ ap (size_of in_list) (part_rest c.args.book.now c.args.at)) c.if-size-book.true

pub returns-else-size-book-clause-value : goal.returns-else-size-book-clause-value
returns-else-size-book-clause-value c = size_passes c.args.book.now c.args.at c.size_of-size.result (c.size_of-size.ensures in_list refl ∙ ap (size_of in_list) (part_rest c.args.book.now c.args.at)) c.if-size-book.false
