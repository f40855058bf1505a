-- The steps of a round as numbers: each direction's 96 numbers stay 96.
use Prim.Native.Nat.{ℕ, ◌*◌}
use native.Mathlib.Omega.{arith}
use mathlib.Core.Path.{◌≡◌, ◌∙◌}
use mathlib.Core.List.{List, [], ◌∷◌}
use lib.IntN.{ℤ}
use lib.ListN.{length}
use Rattle.meaning.specs.Book.{book_of}
use Rattle.meaning.specs.Search.{answer}
use Rattle.meaning.specs.Reply.{decode_refusal, answer_steps}
use Rattle.meaning.specs.Round.{alone}
use Rattle.meaning.specs.declared.Step.{Step}
use Rattle.meaning.proofs.Lengths.{found_room, written_long}
use Rattle.lists.specs.Steps.{numbers_of, decoded_numbers}

-- three numbers a step
pub numbers_long : (steps : List Step) → length (numbers_of steps) ≡ 3 * length steps
numbers_long [] = omega arith
numbers_long (step ∷ steps) = let h = numbers_long steps in omega arith

module _ (loaded : List ℤ) (width : ℤ) (store : List ℤ) where
  -- a decode on 96 numbers leaves 96
  pub numbers_keep : (d : List ℕ) (numbers : List ℕ) → length numbers ≡ 96 → length (decoded_numbers loaded d width (alone store) numbers) ≡ 96
  unfolding decoded_numbers
  numbers_keep d numbers e = written_long (decode_refusal loaded d width (alone store)) (numbers_of found) numbers (λ z. let r = (found_room loaded d width (alone store) z).0 in let n = numbers_long found in omega arith) ∙ e
    where
      found : List Step
      found = answer_steps (answer (book_of loaded) d width)
