-- The store is empty before the search; where it overflows or the search is over, it is cleared.
use mathlib.Core.Path.{refl, ◌∙◌}
use Rattle.decoder.proofs.Deciding.{too_small, large_enough, places_fit, places_lack}
use Rattle.decoder.proofs.decode.search_for_best.Goals as goal

pub returns-in-Err-clause-searched : goal.returns-in-Err-clause-searched
returns-in-Err-clause-searched c = let long = c.search.auto.store ∙ c.sweep.auto.store in let o = c.in-Err.ensures in
    too_small _ _ _ _ (places_lack _ _ _ (rw long at o)) _ _ _ (c.refused.ensures, refl)

pub returns-in-Ok-clause-searched : goal.returns-in-Ok-clause-searched
returns-in-Ok-clause-searched c = let long = c.search.auto.store ∙ c.sweep.auto.store in let start = c.in-Ok.ensures in
    large_enough _ _ _ _ (rw long at (places_fit _ _ _ start)) _ _ _ c.conclude.ensures.concluded
