-- The order of steps, by first, then last, then entry, and that of derivations, step by step, are total orders.
use mathlib.Core.Path.{◌≡◌}
use mathlib.Core.Bool.{false}
use mathlib.Core.List.{List}
use lib.Dec.{ltb}
use lib.ListN.{get_or}
use Rattle.laws.proofs.Orders.{Weak, ltb_weak, ltb_total}
use Rattle.search_theory.proofs.Lexical.{before_asym, before_ntrans, before_total}
use Rattle.meaning.specs.Derivation.{order_numbers, step_before, comes_before}
use Rattle.meaning.specs.declared.Step.{Step}

pub step_weak : Weak step_before
unfolding step_before
step_weak =
    record {
      asym = λ a b. before_asym ltb ltb_weak (order_numbers a) (order_numbers b);
      ntrans = λ a b c. before_ntrans ltb ltb_weak (order_numbers a) (order_numbers b) (order_numbers c);
    }

pub step_total : (a b : Step) → step_before a b ≡ false → step_before b a ≡ false → a ≡ b
unfolding step_before
step_total a b e f =
    let h : order_numbers a ≡ order_numbers b = before_total ltb ltb_weak ltb_total (order_numbers a) (order_numbers b) e f in
    λ i. record { first = get_or (h i) 0 0; last = get_or (h i) 1 0; entry = get_or (h i) 2 0 }

-- ════ the order of derivations: "compare step by step"

-- none comes before itself, not both of two come before the other, and "does not come before" is transitive
pub derivation_weak : Weak comes_before
unfolding comes_before
derivation_weak = record { asym = before_asym step_before step_weak; ntrans = before_ntrans step_before step_weak }

-- the order is total: of two derivations of which neither comes before the other the steps are the same
pub derivation_total : (a b : List Step) → comes_before a b ≡ false → comes_before b a ≡ false → a ≡ b
unfolding comes_before
derivation_total = before_total step_before step_weak step_total
