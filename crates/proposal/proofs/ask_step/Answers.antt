-- 16, 17 and 18 are asked in their order, each by a test that says what the notes say; then the next state is the notes'.
use Prim.Native.Nat.{ℕ, ◌+◌, ◌-◌, ◌≤◌}
use lib.Dec.{leb}
use mathlib.Core.List.{List}
use lib.IntN.{ℤ}
use lib.ListN.{get_or}
use native.Mathlib.Omega.{arith}
use mathlib.Core.Path.{◌≡◌, sym, ◌∙◌}
use mathlib.Core.Bool.{Bool, true}
use borrow.Author.Tests.{lt-leb}
use Rattle.meaning.specs.Book.{Book, book_of}
use Rattle.meaning.specs.Direction.{word_count}
use Rattle.meaning.specs.Derivation.{fits, jump, entry_at}
use Rattle.meaning.specs.State.{Key, is_free, key_of}
use Rattle.meaning.specs.declared.Step.{Step}
use Rattle.meaning.proofs.Steps.{fits_facts}
use Rattle.derivation.proofs.Rows.{next_by}
use Rattle.meaning.specs.declared.State.{State}
use Rattle.positions.specs.Runs.{RunsFrom}
use Rattle.derivation.specs.declared.Setup.{Setup}
use Rattle.derivation.specs.Prepared.{Prepared}
use Rattle.proposal.specs.Proposal.{step_of, Bounded}
use Rattle.proposal.proofs.Asking.{asked_17, asked_18, free_is, direction_few, last_inside, can_next, follows}
use Rattle.proposal.proofs.ask_step.Goals as goal
use Rattle.proposal.proofs.ask_step.Goals.{Else-not-is_fitting, Else-t-jump}

module _ (book : List ℤ) (direction index : List ℕ) (t : Setup) (s : State) (first last entry : ℕ) (P : Prepared book direction index t) where
  abbrev theBook : Book
  theBook = book_of book

  abbrev theStep : Step
  theStep = step_of first last entry

  abbrev theKey : Key
  theKey = key_of (word_count direction) s

  n-few : t.n ≤ 32
  unfolding word_count
  n-few = let d = direction_few direction P.directed in let n = P.n_is in omega arith

  -- 17
  free : (R : Bounded direction s) (fit : fits theBook direction theStep ≡ true) (run : List ℕ) (b : Bool)
      → RunsFrom run t.n s.covered 0 → b ≡ leb (last + 1 - first) (get_or run (first - 1) 0) → b ≡ is_free theStep 1 theKey.covered
  free R fit run b r e =
      let f = fits_facts theBook direction theStep fit in
      e ∙ free_is theStep run (word_count direction) s (rw P.n_is at r) f.first_from f.first_to (last_inside book direction index t P s theStep R fit)

-- 16
fitting : (c : Else-not-is_fitting) → fits (book_of c.args.book.now) c.args.direction.now (step_of c.args.first c.args.last c.args.entry) ≡ true
fitting c = sym c.is_fitting.ensures ∙ c.if-not-is_fitting.false

-- 18
near : (c : Else-t-jump) → jump (key_of (word_count c.args.direction.now) c.args.s).r (step_of c.args.first c.args.last c.args.entry) ≤ (book_of c.args.book.now).limit
unfolding jump key_of
near c = let l = c.requires.prepared.limit_is in let j = c.jump.ensures in let h = c.if-t-jump.false in omega (arith, l, j, h)

pub free_runs-runs-requires : goal.free_runs-runs-requires
free_runs-runs-requires c = n-few c.args.book.now c.args.direction.now c.args.index.now c.args.t c.args.s c.args.first c.args.last c.args.entry c.requires.prepared

pub is_free-requires : goal.is_free-requires
is_free-requires c =
    let f = fits_facts (book_of c.args.book.now) c.args.direction.now (step_of c.args.first c.args.last c.args.entry) (fitting (goal.at.is_free-requires c).Else-not-is_fitting) in
    let d = (direction_few c.args.direction.now c.requires.prepared.directed).1 in
    let g = f.first_to in
    let l = f.last_to in
    (f.first_from, (omega arith, omega arith))

pub returns-then-not-is_free : goal.returns-then-not-is_free
returns-then-not-is_free c = λ rest.
    asked_17 (book_of c.args.book.now) c.args.direction.now (step_of c.args.first c.args.last c.args.entry) (key_of (word_count c.args.direction.now) c.args.s) rest (fitting (goal.at.returns-then-not-is_free c).Else-not-is_fitting) (sym (free c.args.book.now c.args.direction.now c.args.index.now c.args.t c.args.s c.args.first c.args.last c.args.entry c.requires.prepared c.requires.bounded (fitting (goal.at.returns-then-not-is_free c).Else-not-is_fitting) c.free_runs-runs.result.run c.is_free.result c.free_runs-runs.ensures c.is_free.ensures) ∙ c.if-not-is_free.true)

pub returns-then-t-jump : goal.returns-then-t-jump
unfolding jump key_of
returns-then-t-jump c = λ rest.
    let far : c.args.t.limit ≡ (book_of c.args.book.now).limit = c.requires.prepared.limit_is in
    let j = c.jump.ensures in
    let h = c.if-t-jump.true in
    asked_18 (book_of c.args.book.now) c.args.direction.now (step_of c.args.first c.args.last c.args.entry) (key_of (word_count c.args.direction.now) c.args.s) rest (fitting (goal.at.returns-then-t-jump c).Else-not-is_fitting) (sym (free c.args.book.now c.args.direction.now c.args.index.now c.args.t c.args.s c.args.first c.args.last c.args.entry c.requires.prepared c.requires.bounded (fitting (goal.at.returns-then-t-jump c).Else-not-is_fitting) c.free_runs-runs.result.run c.is_free.result c.free_runs-runs.ensures c.is_free.ensures) ∙ c.if-not-is_free.false)
    (lt-leb (jump (key_of (word_count c.args.direction.now) c.args.s).r (step_of c.args.first c.args.last c.args.entry)) (book_of c.args.book.now).limit (omega (arith, far, j, h)))

pub phrase_at-p-requires-clause-le_k : goal.phrase_at-p-requires-clause-le_k
phrase_at-p-requires-clause-le_k c = let f = fits_facts (book_of c.args.book.now) c.args.direction.now (step_of c.args.first c.args.last c.args.entry) (fitting (goal.at.phrase_at-p-requires-clause-le_k c).Else-not-is_fitting) in
    let n = c.requires.prepared.entries_at.counted in
    let e = f.entry_to in
    (f.entry_from, omega arith)

pub next_state-requires-clause-can_next : goal.next_state-requires-clause-can_next
next_state-requires-clause-can_next c = let p = c.phrase_at-p.ensures in
    can_next c.args.book.now c.args.direction.now c.args.index.now c.args.t c.requires.prepared c.args.s (step_of c.args.first c.args.last c.args.entry) c.requires.bounded (fitting (goal.at.next_state-requires-clause-can_next c).Else-not-is_fitting)
    (sym (free c.args.book.now c.args.direction.now c.args.index.now c.args.t c.args.s c.args.first c.args.last c.args.entry c.requires.prepared c.requires.bounded (fitting (goal.at.next_state-requires-clause-can_next c).Else-not-is_fitting) c.free_runs-runs.result.run c.is_free.result c.free_runs-runs.ensures c.is_free.ensures) ∙ c.if-not-is_free.false) (near (goal.at.next_state-requires-clause-can_next c).Else-t-jump)

pub returns : goal.returns
returns c =
    let p = c.phrase_at-p in
    rw (next_by c.args.index.now c.args.t p.result (entry_at (book_of c.args.book.now) c.args.entry) c.args.first c.args.last c.args.s c.next_state.result c.row_of-row.result (c.row_of-row.ensures.value (entry_at (book_of c.args.book.now) c.args.entry) p.ensures) c.next_state.ensures)
    (follows c.args.book.now c.args.direction.now c.args.index.now c.args.t c.requires.prepared c.args.s (step_of c.args.first c.args.last c.args.entry) c.requires.bounded (fitting (goal.at.returns c).Else-not-is_fitting)
    (sym (free c.args.book.now c.args.direction.now c.args.index.now c.args.t c.args.s c.args.first c.args.last c.args.entry c.requires.prepared c.requires.bounded (fitting (goal.at.returns c).Else-not-is_fitting) c.free_runs-runs.result.run c.is_free.result c.free_runs-runs.ensures c.is_free.ensures) ∙ c.if-not-is_free.false) (near (goal.at.returns c).Else-t-jump) p.result p.ensures)
