-- Counts that a signed 64-bit number holds, so that a report can have them.
use Rattle.std.specs.Prelude.{◌<◌}
use Rattle.meaning.specs.declared.Supplied.{Supplied}
use Rattle.meaning.specs.declared.Answer.{Answer}

pub record FewSupplied (s : Supplied) : Type 0 where
  pub triples : s.triples < 9_223_372_036_854_775_808
  pub pairs : s.pairs < 9_223_372_036_854_775_808
  pub words : s.words < 9_223_372_036_854_775_808
  pub unseen : s.unseen < 9_223_372_036_854_775_808

pub record Countable (a : Answer) : Type 0 where
  pub steps : a.steps < 9_223_372_036_854_775_808
  pub words : a.words < 9_223_372_036_854_775_808
  pub states : a.states < 9_223_372_036_854_775_808
  pub supplied : FewSupplied a.supplied
