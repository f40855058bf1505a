-- The steps that code reads are those that the plain numbers stand for, and each of those that pass has an entry of the book.
use Prim.Native.Nat.{ℕ, zero, suc, ◌+◌, ◌*◌, ◌≤◌, ◌<◌}
use native.Mathlib.Omega.{arith}
use mathlib.Core.Path.{◌≡◌, refl, sym, ◌∙◌, ap, subst}
use mathlib.Core.Bool.{true, ◌&&◌}
use mathlib.Core.List.{List, [], ◌∷◌, ◌++◌, map, map-append}
use lib.IntN.{ℤ}
use Rattle.laws.specs.Lists.{all, numbers_from}
use Rattle.laws.proofs.Lists.{numbers_next, all_at}
use Rattle.laws.proofs.Tests.{both}
use Rattle.meaning.specs.Book.{Book, book_of}
use Rattle.meaning.specs.Direction.{word_count}
use Rattle.meaning.specs.Derivation.{no_step, fits, is_valid, score_of, supplied_of}
use Rattle.meaning.specs.State.{start}
use Rattle.meaning.specs.Questions.{number}
use Rattle.meaning.specs.Reply.{Reply, refused, done, reply, steps_refusal, totals_of}
use Rattle.meaning.specs.declared.Refusal.{Refusal}
use Rattle.meaning.specs.declared.Supplied.{Supplied}
use Rattle.meaning.proofs.Chains.{done_passes, done_is, refused_is, reply_done}
use Rattle.meaning.proofs.Numbered.{refused_reply}
use Rattle.meaning.specs.declared.Step.{Step}
use Rattle.meaning.proofs.Steps.{fits_facts}
use Rattle.meaning.proofs.Valid.{proposal_valid}
use Rattle.book.specs.Entries.{EntriesAt}
use Rattle.proposal.specs.Proposal.{step_in, steps_in}
use Rattle.records.specs.declared.Plain.{Plain}
use Rattle.records.specs.Plain.{step_in as recordIn, steps_to, steps_of}
use Rattle.records.proofs.Laws.{count_steps, step_at}

-- one step, whichever way its places are counted
same_place : (numbers : List ℕ) (p : Plain) (i : ℕ) → p.numbers ≡ numbers → step_in numbers i ≡ recordIn p i
same_place numbers p i e = let z : 3 * i ≡ i * 3 = omega arith in rw (e, z)

-- one step more
next_in : (numbers : List ℕ) (k : ℕ) → steps_in numbers (suc k) ≡ steps_in numbers k ++ (step_in numbers k ∷ [])
unfolding steps_in
next_in numbers k =
    let z : suc k ≡ k + 1 = omega arith in
    let y : 0 + k ≡ k = omega arith in
    ap (λ (m : ℕ). map (step_in numbers) (numbers_from 0 m)) z
    ∙ ap (map (step_in numbers)) (numbers_next 0 k ∙ ap (λ (m : ℕ). numbers_from 0 k ++ (m ∷ [])) y)
    ∙ map-append (step_in numbers) (numbers_from 0 k) (k ∷ [])

-- the first k steps, by the places 3 * i and by the places i * 3
steps_to_lem : (p : Plain) (k : ℕ) → steps_in p.numbers k ≡ steps_to p k
unfolding steps_in
steps_to_lem p zero = refl
steps_to_lem p (suc k) =
    next_in p.numbers k
    ∙ ap (λ (xs : List Step). xs ++ (step_in p.numbers k ∷ [])) (steps_to_lem p k)
    ∙ ap (λ (s : Step). steps_to p k ++ (s ∷ [])) (same_place p.numbers p k refl)

-- all of them
pub steps_same : (p : Plain) → steps_in p.numbers p.count ≡ steps_of p
steps_same p = steps_to_lem p p.count

-- each step of a list that passes 16 to 19 has an entry of the book
pub entries_in : {loaded : List ℤ} {index : List ℕ} {phrases : ℕ} → EntriesAt loaded index phrases → (direction : List ℕ) (p : Plain)
    → steps_refusal (book_of loaded) direction (start (word_count direction)) (steps_of p) ≡ 0
    → (k : ℕ) → k < p.count → (1 ≤ (recordIn p k).entry) × ((recordIn p k).entry ≤ phrases)
unfolding is_valid
entries_in {loaded} A direction p e k h =
    let v = (proposal_valid (book_of loaded) direction (steps_of p)).0 e in
    let each = (both (all (fits (book_of loaded) direction) (steps_of p)) _ (both (all (fits (book_of loaded) direction) (steps_of p) && _) _ v).0).0 in
    let l = count_steps p p.count in
    let z = step_at p p.count k no_step h in
    let f = subst (λ (s : Step). fits (book_of loaded) direction s ≡ true) z (all_at (fits (book_of loaded) direction) (steps_of p) no_step each k (omega arith)) in
    let g = fits_facts (book_of loaded) direction (recordIn p k) f in
    let m = A.counted in
    let to = g.entry_to in
    (g.entry_from, omega arith)

-- ════ the reply, once the steps are asked and their score is summed up

module _ (book : Book) (direction : List ℕ) (p : Plain) where
  abbrev asked : ℕ
  asked = steps_refusal book direction (start (word_count direction)) (steps_of p)

  -- what was said of the steps that code reads
  pub said : {y : Reply ℤ} → y ≡ reply (steps_refusal book direction (start (word_count direction)) (steps_in p.numbers p.count)) (score_of book (steps_in p.numbers p.count)) → y ≡ reply asked (score_of book (steps_of p))
  said e = e ∙ ap (λ (steps : List Step). reply (steps_refusal book direction (start (word_count direction)) steps) (score_of book steps)) (steps_same p)

  pub said_passes : (z : ℤ) → done z ≡ reply asked (score_of book (steps_of p)) → asked ≡ 0
  said_passes z e = done_passes asked (score_of book (steps_of p)) z (sym e)

  pub totalled : {z w : ℤ} {s : Supplied} → w ≡ z → s ≡ supplied_of book (steps_of p) → done z ≡ reply asked (score_of book (steps_of p)) → done (record { score = w; supplied = s }) ≡ reply asked (totals_of book (steps_of p))
  totalled {z} back u e =
      let score_is = back ∙ sym (done_is asked (score_of book (steps_of p)) z (sym e)) in
      (λ i. done (record { score = score_is i; supplied = u i })) ∙ sym (reply_done asked (totals_of book (steps_of p)) (said_passes z e))

  pub turned_down : (refusal : Refusal) → refused (number refusal) ≡ reply asked (score_of book (steps_of p)) → refused (number refusal) ≡ reply asked (totals_of book (steps_of p))
  turned_down refusal e = refused_reply refusal asked (totals_of book (steps_of p)) (refused_is asked (number refusal) (score_of book (steps_of p)) (sym e))
