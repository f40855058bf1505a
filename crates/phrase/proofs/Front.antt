-- The reply to a proposed list is the reply to its first 33 steps, whatever the book and the direction.
use Rattle.std.specs.declared.result.Result.{Result}
use Rattle.meaning.specs.declared.Refusal.{Refusal}
use Prim.Native.Nat.{ℕ, zero, suc}
use mathlib.Core.Path.{◌≡◌, refl, ap, ◌∙◌}
use mathlib.Core.List.{List}
use lib.IntN.{ℤ}
use lib.ListN.{take}
use Rattle.meaning.specs.Questions.{◌orelse◌}
use Rattle.meaning.specs.Book.{book_refusal, book_of}
use Rattle.meaning.specs.Direction.{word_count, direction_refusal}
use Rattle.meaning.specs.State.{start}
use Rattle.meaning.specs.Reply.{Reply, reply, steps_refusal, proposal_refusal, totals_of, score_proposal, reply_of}
use Rattle.meaning.specs.declared.Step.{Step}
use Rattle.meaning.specs.declared.Totals.{Totals}
use Rattle.meaning.proofs.Demands.{direction_to}
use Rattle.proposal.proofs.Long.{front_decides}
use Rattle.records.specs.declared.Plain.{Plain}
use Rattle.records.specs.Plain.{steps_of, Gathered}

module _ (loaded : List ℤ) (direction : List ℕ) where
  -- a refusal by the book or the direction does not look at the steps; else the first 33 decide
  pub front_same : (steps : List Step) → score_proposal loaded direction (take 33 steps) ≡ score_proposal loaded direction steps
  unfolding score_proposal proposal_refusal
  front_same steps = by (book_refusal loaded) (direction_refusal direction) refl refl
    where
      -- the reply after the book's and the direction's refusal
      after : ℕ → ℕ → List Step → Reply Totals
      after b d xs = reply (b orelse d orelse steps_refusal (book_of loaded) direction (start (word_count direction)) xs) (totals_of (book_of loaded) xs)

      by : (b d : ℕ) → book_refusal loaded ≡ b → direction_refusal direction ≡ d → after b d (take 33 steps) ≡ after b d steps
      by zero zero p q = front_decides (book_of loaded) direction (totals_of (book_of loaded)) (direction_to direction q) steps
      by zero (suc d) p q = refl
      by (suc b) d p q = refl

  -- so what is said of the gathered steps is said of the list
  pub gathered_decide : (steps : List Step) (plain : Plain) (y : Result Totals Refusal) → Gathered plain steps → reply_of y ≡ score_proposal loaded direction (steps_of plain)
      → reply_of y ≡ score_proposal loaded direction steps
  gathered_decide steps plain y e said = said ∙ ap (score_proposal loaded direction) e.0 ∙ front_same steps
