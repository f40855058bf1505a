-- The best state of the store is the answer of the search.
use Prim.Native.Nat.{ℕ, zero, suc, ◌/◌, ◌≤◌, ◌<◌}
use native.Mathlib.Omega.{arith}
use mathlib.Core.Path.{◌≡◌, refl, sym, ◌∙◌, ap, subst}
use mathlib.Core.Bool.{Bool, true}
use mathlib.Core.List.{List, [], ◌∷◌}
use mathlib.Core.Option.{Option as MathOption, none}
use borrow.Author.Tests.{le-leb, lt-leb}
use lib.IntN.{ℤ}
use lib.ListN.{length, get_or}
use Rattle.search_theory.specs.Search.{run, upto}
use Rattle.search_theory.specs.Loops.{pick}
use Rattle.search_theory.specs.Statements.{Allowed}
use Rattle.search_theory.proofs.Sound.{upto_legal}
use Rattle.laws.proofs.Lists.{get_d_mem}
use Rattle.meaning.specs.Book.{Book}
use Rattle.meaning.specs.Direction.{word_count}
use Rattle.meaning.specs.Derivation.{no_step, fits}
use Rattle.meaning.specs.State.{Key, Hyp, start, words_covered, is_better, next_key}
use Rattle.meaning.specs.Search.{search, answer, entered}
use Rattle.meaning.specs.declared.Step.{Step}
use Rattle.meaning.specs.declared.Refusal.TheVariants.{StoreTooSmall}
use Rattle.meaning.proofs.Instance.{may_fits}
use Rattle.std.specs.Prelude.{Option}
use Rattle.states.specs.Answer.{no_close, picked}
use Rattle.states.specs.Ghost.{Starting}
use Rattle.states.specs.Shows.{Lists}
use Rattle.ways.specs.Back.{nobody}
use Rattle.ways.specs.Ties.{Walked}
use Rattle.states.proofs.Back.{start_chains, start_short}
use Rattle.states.proofs.Ghost.{best_read, search_ends}
use Rattle.answer.specs.declared.PlainReply.{PlainReply}
use Rattle.answer.specs.Told.{Ends, Told}
use Rattle.decoder.specs.Decodes.{refused_by, Concluded, SearchedIf, Searched}

module _ (book : Book) (direction : List ℕ) (width : ℤ) {st : List ℤ} {count : ℕ} (B : Starting book direction width (word_count direction) st count) where
  -- steps that may be taken one after another fit
  steps_fit : (key : Key) (steps : List Step) → Allowed (search book direction width) key steps → (i : ℕ) → i < length steps → fits book direction (get_or steps i no_step) ≡ true
  steps_fit key [] a i h = absurd (omega arith)
  steps_fit key (step ∷ steps) a zero h = may_fits book direction key step a.1
  steps_fit key (step ∷ steps) a (suc i) h = steps_fit (next_key book key step) steps a.2 i (omega arith)

  -- the place k holds a state of the search
  pub last_ends : (k : ℕ) → k < count → Ends book direction st k (get_or (entered book direction width) k nobody)
  unfolding entered run
  last_ends k h =
      record {
        list = upto (search book direction width) (word_count direction);
        chains = start_chains book direction width B;
        inside = (let l = B.long in omega arith);
        is = refl;
        shown = B.held.each k (let l = B.long in omega arith);
        short = start_short book direction width B k h;
        fitting = steps_fit (start (word_count direction)) (get_or (upto (search book direction width) (word_count direction)) k nobody).steps
            (upto_legal (search book direction width) (word_count direction) _ (get_d_mem (upto (search book direction width) (word_count direction)) k nobody (let l = B.long in omega arith))).allowed;
      }

  pub entered_count : count ≡ length (entered book direction width)
  unfolding entered
  entered_count = sym (search_ends book direction width B).0

  pub told_all : {q : Hyp} {words₀ words₁ : List ℕ} {r : PlainReply} → Told book q count words₀ words₁ r → Told book q (length (entered book direction width)) words₀ words₁ r
  told_all {q} {words₀} {words₁} {r} T = subst (λ (m : ℕ). Told book q m words₀ words₁ r) entered_count T

  -- what was found is the answer
  pub found_is : {n : ℕ} → n ≡ word_count direction → (result : Option ℕ)
      → ((l : List Hyp) → Walked st l → Lists n st count l → pick words_covered n no_close is_better none l ≡ picked l result) → {r : Option ℕ} → result ≡ r
      → answer book direction width ≡ picked (entered book direction width) r
  unfolding answer entered
  found_is e result f z =
      best_read book direction width B result (subst (λ (m : ℕ). (l : List Hyp) → Walked st l → Lists m st count l → pick words_covered m no_close is_better none l ≡ picked l result) e f)
      ∙ ap (picked (run (search book direction width))) z

  pub concluded_by : {o : MathOption Hyp} → answer book direction width ≡ o → (words₀ words₁ : List ℕ) (r : PlainReply)
      → Concluded o book width (length (entered book direction width)) words₀ words₁ r
      → Concluded (answer book direction width) book width (length (entered book direction width)) words₀ words₁ r
  concluded_by e words₀ words₁ r C = subst (λ (o : MathOption Hyp). Concluded o book width (length (entered book direction width)) words₀ words₁ r) (sym e) C

-- ════ question 13

module _ (book : Book) (direction : List ℕ) (width : ℤ) (places : ℕ) where
  pub too_small : places < length (entered book direction width) → (words₀ words₁ : List ℕ) (r : PlainReply) → (r ≡ refused_by StoreTooSmall) × (words₁ ≡ words₀)
      → Searched book direction width places words₀ words₁ r
  too_small h words₀ words₁ r u = subst (λ (b : Bool). SearchedIf b book direction width words₀ words₁ r) (sym (lt-leb (length (entered book direction width)) places h)) u

  pub large_enough : length (entered book direction width) ≤ places → (words₀ words₁ : List ℕ) (r : PlainReply)
      → Concluded (answer book direction width) book width (length (entered book direction width)) words₀ words₁ r → Searched book direction width places words₀ words₁ r
  large_enough h words₀ words₁ r u = subst (λ (b : Bool). SearchedIf b book direction width words₀ words₁ r) (sym (le-leb (length (entered book direction width)) places h)) u

-- the store's places, from the search's end and from its overflow
pub places_fit : (book : Book) (direction : List ℕ) (width : ℤ) {st : List ℤ} {count : ℕ} → Starting book direction width (word_count direction) st count → length (entered book direction width) ≤ length st / 8
unfolding entered
places_fit book direction width B = (search_ends book direction width B).1

pub places_lack : (book : Book) (direction : List ℕ) (width : ℤ) {places : ℕ} → places < length (run (search book direction width)) → places < length (entered book direction width)
unfolding entered
places_lack book direction width h = h
