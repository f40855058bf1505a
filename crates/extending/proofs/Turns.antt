-- One option of a state: where it may extend it, and what is added then.
use Prim.Native.Nat.{ℕ, zero, suc, ◌+◌, ◌-◌, ◌≤◌, ◌<◌}
use native.Mathlib.Omega.{arith}
use mathlib.Core.Path.{◌≡◌, refl, sym, ◌∙◌, ap, subst}
use mathlib.Core.Bool.{Bool, true, false, and-true, and-false}
use mathlib.Core.List.{List, Memᴰ}
use native.Mathlib.Numerals.{add-one}
use borrow.Author.Tests.{le-leb, lt-leb}
use lib.Dec.{leb}
use lib.IntN.{ℤ}
use lib.ListN.{length, drop}
use Rattle.std.specs.Prelude.{Result, Ok, Err}
use Rattle.laws.specs.Bits.{bits_of}
use Rattle.laws.proofs.Bits.{bits_length}
use Rattle.laws.proofs.Bounds.{within_mono}
use Rattle.laws.proofs.Lists.{get_d_mem, climbs}
use Rattle.positions.specs.Runs.{free_run}
use Rattle.positions.proofs.Laws.{free_run_lem}
use Rattle.meaning.specs.Book.{Book, book_of}
use Rattle.meaning.specs.Direction.{word_count}
use Rattle.meaning.specs.Derivation.{no_step, entry_at, fits, jump}
use Rattle.meaning.specs.State.{is_free, may_extend, key_of}
use Rattle.meaning.specs.Search.{step_at, fitting_steps}
use Rattle.meaning.specs.declared.Step.{Step}
use Rattle.meaning.proofs.Steps.{Fits, fits_facts, fits_size, listed_fits}
use Rattle.meaning.proofs.Ranges.{loaded_ranged}
use Rattle.derivation.specs.Model.{PhraseOf}
use Rattle.derivation.specs.Next.{jump_from}
use Rattle.derivation.specs.declared.Phrase.{Phrase}
use Rattle.store.specs.Store.{Storable}
use Rattle.states.specs.Ghost.{option_at, Chosen, Growing, Grew, After, NextPlace}
use Rattle.store.specs.declared.Place.{Place}
use Rattle.states.specs.declared.Added.{Added}
use Rattle.states.specs.declared.Added.TheVariants.{Replaced, Kept, Appended}
use Rattle.states.specs.declared.Full.{Full}
use Rattle.states.specs.Order.{Leading}
use Rattle.states.proofs.Ghost.{skipped, went, chosen_score, next_storable, leads}
use Rattle.extending.specs.Extend.{next_place, CanPlace, grown_by, Grows, SpotOf, TurnOf}
use Rattle.extending.specs.declared.task.Task.{Task}
use Rattle.extending.specs.declared.Spot.{Spot}
use Rattle.extending.specs.declared.Turn.{Turn}
use Rattle.options.specs.Options.{options_from, start_at, option_in}
use Rattle.extending.proofs.Placed.{can_place, next_place_lem}

module _ {task : Task} {turn : Turn} (T : TurnOf task turn) {p : Phrase} (of : PhraseOf task.book.now (entry_at (book_of task.book.now) turn.entry) p) where
  abbrev book : Book
  book = book_of task.book.now

  abbrev direction : List ℕ
  direction = task.direction.now

  abbrev n : ℕ
  n = word_count direction

  abbrev x : Place
  x = turn.spot.source.place

  abbrev j : ℕ
  j = turn.spot.source.at

  abbrev first : ℕ
  first = turn.spot.first

  abbrev run : ℕ
  run = turn.spot.run

  abbrev o : ℕ
  o = turn.option

  abbrev k : ℕ
  k = turn.entry

  abbrev step : Step
  step = step_at book first k

  fit : fits book direction step ≡ true
  fit = listed_fits book direction step (subst (λ (s : Step). Memᴰ s (fitting_steps book direction)) T.option_is (get_d_mem (fitting_steps book direction) o no_step T.option_in))

  facts : Fits book direction step
  facts = fits_facts book direction step fit

  -- it overlaps nothing exactly where its words fit into the run
  free_is : is_free step 1 (key_of n x.state).covered ≡ leb p.long run
  unfolding key_of word_count
  free_is =
      let l = facts.last_to in
      let b : length (bits_of n x.state.covered) ≡ n = bits_length n x.state.covered in
      let s = fits_size book direction step facts in
      let m = of.source_at.many_are in
      let z : step.last + 1 - step.first ≡ p.long = omega arith in
      free_run_lem step (bits_of n x.state.covered) facts.first_from facts.first_to (omega arith) ∙ rw (z, T.spot_of.run_is)

  near_is : leb (jump (key_of n x.state).r step) book.limit ≡ true
  unfolding key_of jump
  near_is = le-leb (jump_from x.state.r first) book.limit (let h = T.near in let e = task.searchable.prepared.limit_is in omega arith)

  may_is : (b : Bool) → leb p.long run ≡ b → may_extend book direction (key_of n x.state) (option_at book direction o) ≡ b
  unfolding may_extend
  may_is b e = ap (may_extend book direction (key_of n x.state)) T.option_is ∙ rw (fit, free_is, e, near_is) (and-true b)

  -- the run is too short: nothing is added
  pub turn_skips : {st : List ℤ} {count : ℕ} → Growing book direction task.beam.width x.size j o st count → run < p.long → Growing book direction task.beam.width x.size j (o + 1) st count
  turn_skips G h = skipped book direction task.beam.width T.spot_of.chosen T.option_in G (may_is false (lt-leb p.long run h))

  module _ (h : p.long ≤ run) where
    free : is_free step 1 (key_of n x.state).covered ≡ true
    free = free_is ∙ le-leb p.long run h

    size_to : x.size ≤ n
    size_to = let l = T.spot_of.chosen.low in let e = T.spot_of.chosen.sized in omega arith

    pub turn_can : CanPlace task.beam.setup p turn
    turn_can =
        let N = T.spot_of.chosen.shown.fine.few in
        let s = size_to in
        can_place task.searchable.prepared turn of T.spot_of.chosen.shown.fine fit free T.near
        (within_mono (omega arith) (chosen_score book direction task.beam.width (loaded_ranged task.book.now task.searchable.prepared.passed) T.spot_of.chosen)) s T.entry_to

    pub turn_next : NextPlace book direction x j o (next_place task.index.now task.beam.setup p (entry_at book k) turn)
    turn_next = next_place_lem task.searchable.prepared turn of T.spot_of.chosen.shown.fine fit free T.entry_to T.option_is T.spot_of.chosen.shown.size_is

    -- each answer of add_place goes one option further
    pub turn_grows : (y : Place) → y ≡ next_place task.index.now task.beam.setup p (entry_at book k) turn → {st st' : List ℤ} {count : ℕ} → Growing book direction task.beam.width x.size j o st count
        → (r : Result ℕ Full) → Grows st st' count y r → Grew book direction task.beam.width x.size j (o + 1) st' r
    turn_grows y e {st} {st'} {count} G r g =
        rw g.is (by g.answer
        (went book direction task.beam.width T.spot_of.chosen T.option_in G (may_is true (le-leb p.long run h)) (subst (NextPlace book direction x j o) (sym e) turn_next) st' g.answer g.added g.index))
      where
        by : (a : Result Added Full) → After book direction task.beam.width x.size j (o + 1) st' count a → Grew book direction task.beam.width x.size j (o + 1) st' (grown_by count a)
        by (Ok Replaced) u = u
        by (Ok Kept) u = u
        by (Ok Appended) u = u
        by (Err full) u = u

    pub turn_storable : (y : Place) → y ≡ next_place task.index.now task.beam.setup p (entry_at book k) turn → Storable y
    turn_storable y e = subst Storable (sym e) (next_storable book direction task.beam.width turn_next T.spot_of.place_small)

    pub turn_leads : (y : Place) → y ≡ next_place task.index.now task.beam.setup p (entry_at book k) turn → {st : List ℤ} {count : ℕ} → Growing book direction task.beam.width x.size j o st count → Leading st count y
    turn_leads y e G = leads book direction task.beam.width T.spot_of.chosen T.option_in G (may_is true (le-leb p.long run h)) (subst (NextPlace book direction x j o) (sym e) turn_next)

-- several options that may not extend the state
module _ (bk : Book) (direction : List ℕ) (width : ℤ) (i j : ℕ) (x : Place) (A : Chosen bk direction width i j x) (from : ℕ) (st : List ℤ) (count : ℕ) where
  skip_all : (many : ℕ) → from + many ≤ length (fitting_steps bk direction)
      → ((o : ℕ) → from ≤ o → o < from + many → may_extend bk direction (key_of (word_count direction) x.state) (option_at bk direction o) ≡ false)
      → Growing bk direction width i j from st count → Growing bk direction width i j (from + many) st count
  skip_all zero h never G =
      let e : from ≡ from + zero = omega arith in
      subst (λ (o : ℕ). Growing bk direction width i j o st count) e G
  skip_all (suc many) h never G =
      let F : Growing bk direction width i j (from + many) st count = skip_all many (omega arith) (λ o a b. never o a (omega arith)) G in
      let e : from + many + 1 ≡ from + suc many = omega arith in
      subst (λ (o : ℕ). Growing bk direction width i j o st count) e
      (skipped bk direction width A (omega arith) F (never (from + many) (omega arith) (omega arith)))

-- the options of a position, from where they begin to where the next position's begin
module _ {task : Task} {spot : Spot} (S : SpotOf task spot) where
  abbrev book' : Book
  book' = book_of task.book.now

  abbrev direction' : List ℕ
  direction' = task.direction.now

  abbrev n' : ℕ
  n' = word_count direction'

  abbrev x' : Place
  x' = spot.source.place

  abbrev j' : ℕ
  j' = spot.source.at

  abbrev first' : ℕ
  first' = spot.first

  abbrev from : ℕ
  from = start_at task.options.now (first' - 1)

  abbrev to : ℕ
  to = start_at task.options.now first'

  before_is : first' - 1 + 1 ≡ first'
  before_is = let h = S.first_from in omega arith

  before_in : first' - 1 < n'
  before_in = let h = S.first_from in let l = S.first_to in omega arith

  pub spot_rises : from ≤ to
  spot_rises = rw before_is at (task.searchable.choices.options_of.rising (first' - 1) before_in)

  to_end : to ≤ start_at task.options.now n'
  to_end = let h = S.first_to in
      let z : first' + (n' - first') ≡ n' = omega arith in
      rw z at (climbs (start_at task.options.now) first' (n' - first') (λ k a b. rw add-one at (task.searchable.choices.options_of.rising k (omega arith))))

  -- the options that are read stand in the list
  pub spot_option : (o : ℕ) → o < to → options_from + o < length task.options.now
  spot_option o h = let e = to_end in let r = task.searchable.choices.options_of.room in omega arith

  each : (o : ℕ) → from ≤ o → o < to → option_at book' direction' o ≡ step_at book' first' (option_in task.options.now o)
  each o a b = rw before_is at (task.searchable.choices.options_of.each (first' - 1) o before_in a (rw before_is b))

  step_fits : (o : ℕ) → from ≤ o → o < to → fits book' direction' (step_at book' first' (option_in task.options.now o)) ≡ true
  step_fits o a b =
      let l = task.searchable.choices.options_of.ends in
      let e = to_end in
      listed_fits book' direction' _ (subst (λ (s : Step). Memᴰ s (fitting_steps book' direction')) (each o a b) (get_d_mem (fitting_steps book' direction') o no_step (omega arith)))

  pub spot_turn : jump_from x'.state.r first' ≤ task.beam.setup.limit → (o : ℕ) → from ≤ o → o < to
      → TurnOf task (record { spot = spot; option = o; entry = option_in task.options.now o })
  spot_turn near o a b =
      let e = to_end in
      let l = task.searchable.choices.options_of.ends in
      let m = task.searchable.prepared.entries_at.counted in
      let q = task.searchable.choices.options_of.entries_in o (omega arith) in
      record {
        spot_of = S;
        near = near;
        option_in = omega arith;
        option_is = each o a b;
        entry_from = q.0;
        entry_to = (let z = q.1 in omega arith);
      }

  -- none of them may extend the state
  spot_skips : ((o : ℕ) → from ≤ o → o < to → may_extend book' direction' (key_of n' x'.state) (step_at book' first' (option_in task.options.now o)) ≡ false)
      → {st : List ℤ} {count : ℕ} → Growing book' direction' task.beam.width x'.size j' from st count → Growing book' direction' task.beam.width x'.size j' to st count
  spot_skips never {st} {count} G =
      let e = to_end in
      let l = task.searchable.choices.options_of.ends in
      let r : from ≤ to = spot_rises in
      let z : from + (to - from) ≡ to = omega arith in
      subst (λ (o : ℕ). Growing book' direction' task.beam.width x'.size j' o st count) z
      (skip_all book' direction' task.beam.width x'.size j' x' S.chosen from st count (to - from) (omega arith)
      (λ o a b. ap (may_extend book' direction' (key_of n' x'.state)) (each o a (omega arith)) ∙ never o a (omega arith)) G)

  -- the position is out of reach
  pub far_skips : task.beam.setup.limit < jump_from x'.state.r first'
      → {st : List ℤ} {count : ℕ} → Growing book' direction' task.beam.width x'.size j' from st count → Growing book' direction' task.beam.width x'.size j' to st count
  unfolding may_extend key_of jump
  far_skips far =
      spot_skips (λ o a b.
      let q : leb (jump_from x'.state.r first') book'.limit ≡ false = lt-leb (jump_from x'.state.r first') book'.limit (let e = task.searchable.prepared.limit_is in omega arith) in
      rw (q, and-false) refl)

  -- the position is covered
  pub covered_skips : spot.run ≡ 0
      → {st : List ℤ} {count : ℕ} → Growing book' direction' task.beam.width x'.size j' from st count → Growing book' direction' task.beam.width x'.size j' to st count
  unfolding may_extend key_of word_count
  covered_skips none = spot_skips (λ o a b. by o (step_fits o a b))
    where
      by : (o : ℕ) → fits book' direction' (step_at book' first' (option_in task.options.now o)) ≡ true
          → may_extend book' direction' (key_of n' x'.state) (step_at book' first' (option_in task.options.now o)) ≡ false
      by o fit =
          let step : Step = step_at book' first' (option_in task.options.now o) in
          let F = fits_facts book' direction' step fit in
          let l = F.last_to in
          let b : length (bits_of n' x'.state.covered) ≡ n' = bits_length n' x'.state.covered in
          let q : is_free step 1 (bits_of n' x'.state.covered) ≡ false =
          free_run_lem step (bits_of n' x'.state.covered) F.first_from F.first_to (omega arith)
          ∙ lt-leb (step.last + 1 - step.first) _ (let e : free_run (drop (first' - 1) (bits_of n' x'.state.covered)) ≡ 0 = (sym S.run_is ∙ none) in let f = F.first_to in omega arith) in
          rw (q, and-false) refl

-- no option is done before the first position (`begins`), and all of them after the last
pub all_done : (task : Task) (i : ℕ) → i ≤ task.beam.setup.n → task.beam.setup.n ≤ i → length (fitting_steps (book_of task.book.now) task.direction.now) ≤ start_at task.options.now i
all_done task i a b =
    let n = task.searchable.prepared.n_is in
    let e : i ≡ word_count task.direction.now = omega arith in
    let l = task.searchable.choices.options_of.ends in
    rw e (omega arith)
