-- The largest answer of the directions.
use mathlib.Core.Path.{ap, sym, ◌∙◌}
use native.Mathlib.Omega.{arith}
use borrow.Author.Tests.{tests}
use Prim.Native.Nat.{ℕ}
use Rattle.std.proofs.Common.{rules, Option}
use Rattle.std.specs.Option.{unwrap_or}
use Rattle.std.proofs.lemmas.Iterator.{YieldsList-from_range, YieldsList-from_map}
use Rattle.std.proofs.lemmas.Iterator.Adapters.{option_map_id}
use Rattle.std.proofs.lemmas.Iterator.Consumers.{max_from_yields_List}
use Rattle.sheet.proofs.Rows.{answer_of, largest_is}
use Rattle.sheet.proofs.largest_of.Goals as goal

pub returns : goal.returns
returns c =
    let a = c.args in
    let most =
    max_from_yields_List c.map.result c.max.result c.max.ensures.ran
    (YieldsList-from_map _ (answer_of a.answers.now) (YieldsList-from_range 0 a.count a.count c.map.ensures.source (omega arith)) c.map.ensures.closure (λ x r q k. search (rules, tests))) in
    c.unwrap_or.ensures ∙ ap (λ (o : Option ℕ). unwrap_or o 0) (sym (option_map_id c.max.result) ∙ most) ∙ largest_is a.answers.now a.count
