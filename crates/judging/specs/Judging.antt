-- The four counts with one word more.
use Rattle.std.specs.Prelude.{◌+◌}
use Rattle.meaning.specs.declared.Supplier.{Supplier}
use Rattle.meaning.specs.declared.Supplier.TheVariants.{Triple, Pair, Word, Unseen}
use Rattle.meaning.specs.declared.Supplied.{Supplied}

abbrev pub with_supplier : Supplied → Supplier → Supplied
with_supplier s Triple = record { triples = s.triples + 1; pairs = s.pairs; words = s.words; unseen = s.unseen }
with_supplier s Pair = record { triples = s.triples; pairs = s.pairs + 1; words = s.words; unseen = s.unseen }
with_supplier s Word = record { triples = s.triples; pairs = s.pairs; words = s.words + 1; unseen = s.unseen }
with_supplier s Unseen = record { triples = s.triples; pairs = s.pairs; words = s.words; unseen = s.unseen + 1 }
