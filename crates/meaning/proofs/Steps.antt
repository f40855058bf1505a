-- The steps that the search tries are exactly the steps that fit.
use Prim.Native.Nat.{ℕ, ◌+◌, ◌-◌, ◌≤◌}
use native.Mathlib.Omega.{arith}
use mathlib.Core.Path.{◌≡◌, sym, ◌∙◌, subst}
use mathlib.Core.Bool.{true, ◌&&◌}
use mathlib.Core.List.Memᴰ
use mathlib.Core.List.{List, map, Memᴰ}
use borrow.Author.Tests.{leb-true}
use lib.Dec.{leb, eqb}
use lib.ListN.{length}
use lib.Seq.{slice, length-slice}
use Rattle.laws.specs.Lists.{keep, eq_list, one_to}
use Rattle.laws.proofs.Tests.{both}
use Rattle.laws.proofs.Lists.{mem_keep, keep_mem, mem_concat, concat_mem, mem_one_to, eq_list_length}
use Rattle.meaning.specs.Questions.{within}
use Rattle.meaning.specs.Book.{Book}
use Rattle.meaning.specs.Direction.{word_count}
use Rattle.meaning.specs.Derivation.{is_entry, entry_at, words_from_to, fits}
use Rattle.meaning.specs.Search.{step_at, fitting_steps}
use Rattle.meaning.specs.declared.Step.{Step}

-- what the test `fits` says
pub record Fits (book : Book) (direction : List ℕ) (step : Step) : Type 0 where
  pub entry_from : 1 ≤ step.entry
  pub entry_to : step.entry ≤ length book.entries
  pub first_from : 1 ≤ step.first
  pub first_to : step.first ≤ step.last
  pub last_to : step.last ≤ length direction
  pub words_same : eq_list eqb (entry_at book step.entry).source (slice (step.first - 1) step.last direction) ≡ true

pub fits_facts : (book : Book) (direction : List ℕ) (step : Step) → fits book direction step ≡ true → Fits book direction step
unfolding fits is_entry words_from_to word_count
fits_facts book direction step e =
    let a = both (within 1 (length book.entries) step.entry && leb 1 step.first && leb step.first step.last && leb step.last (length direction)) _ e in
    let b = both (within 1 (length book.entries) step.entry && leb 1 step.first && leb step.first step.last) _ a.0 in
    let c = both (within 1 (length book.entries) step.entry && leb 1 step.first) _ b.0 in
    let d = both (within 1 (length book.entries) step.entry) _ c.0 in
    let k = both (leb 1 step.entry) (leb step.entry (length book.entries)) d.0 in
    record {
      entry_from = leb-true _ _ k.0;
      entry_to = leb-true _ _ k.1;
      first_from = leb-true _ _ d.1;
      first_to = leb-true _ _ c.1;
      last_to = leb-true _ _ b.1;
      words_same = a.1;
    }

module _ (book : Book) (direction : List ℕ) (step : Step) where
  -- a step that fits takes as many positions as its entry has source words
  pub fits_size : Fits book direction step → length (entry_at book step.entry).source ≡ step.last + 1 - step.first
  fits_size h =
      eq_list_length eqb (entry_at book step.entry).source (slice (step.first - 1) step.last direction) h.words_same ∙ length-slice (step.first - 1) step.last direction h.last_to
      ∙ (let a = h.first_from in let b = h.first_to in omega arith)

  same_step : Fits book direction step → step ≡ step_at book step.first step.entry
  same_step h =
      let last_is : step.last ≡ step.first + length (entry_at book step.entry).source - 1 =
      (let z = fits_size h in let a = h.first_from in let b = h.first_to in omega arith) in
      λ i. record { first = step.first; last = last_is i; entry = step.entry }

  -- the entries at one first position
  abbrev at : ℕ → List Step
  at first = keep (fits book direction) (map (step_at book first) (one_to (length book.entries)))

  pub fits_listed : fits book direction step ≡ true → Memᴰ step (fitting_steps book direction)
  unfolding fitting_steps word_count
  fits_listed e =
      let h = fits_facts book direction step e in
      mem_concat (map at (one_to (length direction)))
      (Memᴰ.map at (mem_one_to (length direction) step.first h.first_from (let a = h.first_to in let b = h.last_to in omega arith)))
      (mem_keep (fits book direction) _
      (Memᴰ.cast (same_step h) (Memᴰ.map (step_at book step.first) (mem_one_to (length book.entries) step.entry h.entry_from h.entry_to))) e)

  pub listed_fits : Memᴰ step (fitting_steps book direction) → fits book direction step ≡ true
  unfolding fitting_steps
  listed_fits m =
      let w = concat_mem (map at (one_to (word_count direction))) m in
      let v = Memᴰ.of_map at (one_to (word_count direction)) w.1 in
      (keep_mem (fits book direction) (map (step_at book v.0) (one_to (length book.entries))) (subst (Memᴰ step) (sym v.2) w.2)).1
