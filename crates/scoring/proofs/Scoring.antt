-- The reply once the book and the direction were asked.
use Prim.Native.Nat.{ℕ}
use mathlib.Core.Path.{◌≡◌}
use mathlib.Core.List.{List}
use lib.IntN.{ℤ}
use Rattle.meaning.specs.Questions.{◌orelse◌, number}
use Rattle.meaning.specs.Book.{book_refusal, book_of}
use Rattle.meaning.specs.Direction.{word_count, direction_refusal}
use Rattle.meaning.specs.State.{start}
use Rattle.meaning.specs.Reply.{refused, reply, steps_refusal, totals_of, proposal_refusal, score_proposal}
use Rattle.meaning.specs.declared.Step.{Step}
use Rattle.meaning.specs.declared.Refusal.{Refusal}
use Rattle.meaning.proofs.Numbered.{refused_before_all, refused_reply}

module _ (loaded : List ℤ) (direction : List ℕ) (steps : List Step) where
  -- where the book and the direction pass, 16 to 19 give the reply
  pub asked_last : book_refusal loaded ≡ 0 → direction_refusal direction ≡ 0
      → reply (steps_refusal (book_of loaded) direction (start (word_count direction)) steps) (totals_of (book_of loaded) steps) ≡ score_proposal loaded direction steps
  unfolding score_proposal proposal_refusal
  asked_last b d = rw (b, d)

  -- where one of them is refused, that is the reply
  pub refused_before : (refusal : Refusal) → (book_refusal loaded orelse direction_refusal direction) ≡ number refusal → refused (number refusal) ≡ score_proposal loaded direction steps
  unfolding score_proposal proposal_refusal
  refused_before refusal e = refused_reply refusal _ (totals_of (book_of loaded) steps) (refused_before_all refusal (book_refusal loaded) (direction_refusal direction) _ e)
