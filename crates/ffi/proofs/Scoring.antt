-- The counts of a scoring fit a signed number: 33 steps have no more than 264 target words.
use Prim.Native.Nat.{ℕ, ◌≤◌}
use native.Mathlib.Omega.{arith}
use mathlib.Core.Path.{◌≡◌, sym, ap, ◌∙◌}
use mathlib.Core.List.{List}
use lib.IntN.{ℤ}
use lib.ListN.{length}
use Rattle.meaning.specs.Book.{book_refusal, book_of}
use Rattle.meaning.specs.Derivation.{target_words, in_all}
use Rattle.meaning.specs.Reply.{done, proposal_refusal, totals_of, score_proposal}
use Rattle.meaning.specs.declared.Step.{Step}
use Rattle.meaning.specs.declared.Totals.{Totals}
use Rattle.meaning.proofs.Chains.{first_passes, done_passes}
use Rattle.meaning.proofs.Ranges.{loaded_ranged}
use Rattle.meaning.proofs.Judging.{supplied_all}
use Rattle.meaning.proofs.Demands.{scored_totals}
use Rattle.meaning.proofs.Lengths.{words_few}
use Rattle.lists.specs.Report.{FewSupplied}

pub few_supplied : (loaded : List ℤ) (direction : List ℕ) (steps : List Step) (t : Totals) → length steps ≤ 33 → score_proposal loaded direction steps ≡ done t → FewSupplied t.supplied
unfolding score_proposal proposal_refusal
few_supplied loaded direction steps t few e =
    let p : proposal_refusal loaded direction steps ≡ 0 = done_passes (proposal_refusal loaded direction steps) (totals_of (book_of loaded) steps) t e in
    let w = words_few (book_of loaded) (loaded_ranged loaded (first_passes (book_refusal loaded) _ p)) steps in
    let n : in_all t.supplied ≡ length (target_words (book_of loaded) steps) = ap (λ (x : Totals). in_all x.supplied) (sym (scored_totals loaded direction steps t e)) ∙ supplied_all (book_of loaded) steps in
    record { triples = omega arith; pairs = omega arith; words = omega arith; unseen = omega arith }
