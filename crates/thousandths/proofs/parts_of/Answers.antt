-- The point is found by an iterator.
use Rattle.std.proofs.Common.{◌≡◌, sym, ◌∙◌, rules, tests}
use Rattle.std.specs.List.{position}
use Rattle.std.proofs.lemmas.Iterator.{YieldsList-from_slice}
use Rattle.std.proofs.lemmas.Iterator.Search.{position_from_yields_List}
use Rattle.thousandths.proofs.Parts.{is_point, no_point, at_point}
use Rattle.thousandths.proofs.parts_of.Goals as goal

pub returns-in-Some : goal.returns-in-Some
returns-in-Some c =
    let t = c.args.number.now in
    let p : c.position.result ≡ position is_point t = position_from_yields_List is_point _ _ c.position.result c.position.ensures.ran (YieldsList-from_slice t c.iter.ensures.rest) (λ x b q k. search (rules, tests)) in
    at_point t c.in-Some.end (sym p ∙ c.in-Some.is)

pub returns-in-None : goal.returns-in-None
returns-in-None c =
    let t = c.args.number.now in
    let p : c.position.result ≡ position is_point t = position_from_yields_List is_point _ _ c.position.result c.position.ensures.ran (YieldsList-from_slice t c.iter.ensures.rest) (λ x b q k. search (rules, tests)) in
    no_point t (sym p ∙ c.in-None.is)
