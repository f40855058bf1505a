-- The place that the code makes of an option is the one that the search enters.
use Prim.Native.Nat.{ℕ, ◌+◌, ◌-◌, ◌^◌, ◌≤◌, ◌<◌}
use native.Mathlib.Omega.{arith}
use mathlib.Core.Path.{◌≡◌, refl, sym, ◌∙◌, ap, subst}
use mathlib.Core.Bool.{true}
use mathlib.Core.List.{List}
use lib.IntN.{ℤ, ◌+ℤ◌}
use lib.ListN.{length}
use lib.Pow.{pow_mono}
use Rattle.laws.specs.Bits.{bits_of}
use Rattle.laws.specs.Integers.{Within}
use Rattle.laws.specs.Lists.{count}
use Rattle.laws.proofs.Bits.{bits_length}
use Rattle.positions.specs.Runs.{mask_of}
use Rattle.positions.proofs.Laws.{mask_fits, cover_ones}
use Rattle.meaning.specs.Bounds.{penalty_most}
use Rattle.meaning.specs.Book.{Book, book_of}
use Rattle.meaning.specs.Direction.{word_count}
use Rattle.meaning.specs.Derivation.{entry_at, fits}
use Rattle.meaning.specs.State.{words_covered, is_free, cover, next_key, gain, key_of, score_bound}
use Rattle.meaning.specs.declared.State.{State}
use Rattle.meaning.specs.Search.{step_at}
use Rattle.meaning.specs.declared.Step.{Step}
use Rattle.meaning.proofs.Steps.{Fits, fits_facts, fits_size}
use Rattle.meaning.proofs.Ranges.{loaded_ranged}
use Rattle.derivation.specs.Model.{PhraseOf}
use Rattle.derivation.specs.Next.{jump_from, next_state, CanNext}
use Rattle.derivation.specs.Prepared.{Prepared}
use Rattle.derivation.specs.declared.Setup.{Setup}
use Rattle.derivation.specs.declared.Phrase.{Phrase}
use Rattle.derivation.proofs.Next.{next_key_lem, next_score}
use Rattle.states.specs.Shows.{Fine}
use Rattle.states.specs.Ghost.{option_at, NextPlace}
use Rattle.store.specs.declared.Place.{Place}
use Rattle.ways.specs.Codes.{code_of}
use Rattle.ways.proofs.Codes.{code_back}
use Rattle.extending.specs.Extend.{next_place, CanPlace}
use Rattle.extending.specs.declared.Turn.{Turn}

module _ {loaded : List ℤ} {direction : List ℕ} {index : List ℕ} {t : Setup} (R : Prepared loaded direction index t)
    (turn : Turn) {p : Phrase} (of : PhraseOf loaded (entry_at (book_of loaded) turn.entry) p) (fine : Fine (word_count direction) turn.spot.source.place.state) where
  abbrev x : Place
  x = turn.spot.source.place

  abbrev first : ℕ
  first = turn.spot.first

  abbrev k : ℕ
  k = turn.entry

  abbrev book : Book
  book = book_of loaded

  abbrev n : ℕ
  n = word_count direction

  abbrev step : Step
  step = step_at book first k

  module _ (fit : fits book direction step ≡ true) (free : is_free step 1 (key_of n x.state).covered ≡ true) where
    facts : Fits book direction step
    facts = fits_facts book direction step fit

    last_is : step.last ≡ first + p.long - 1
    last_is = let m = of.source_at.many_are in omega arith

    last_to : step.last ≤ n
    unfolding word_count
    last_to = facts.last_to

    small : x.state.covered + mask_of step.first step.last < 2 ^ n
    unfolding key_of
    small = mask_fits step n x.state.covered facts.first_from facts.first_to last_to fine.covered_in free

    pub can_place : jump_from x.state.r first ≤ t.limit → Within score_bound x.state.score → x.size ≤ n → k ≤ t.phrases → CanPlace t p turn
    can_place near within size entry =
        let N = fine.few in
        let l = loaded_ranged loaded R.passed in
        let d = l.limit_to in
        let e = R.limit_is in
        let q = pow_mono {i = n} {j = 32} N in
        let s : x.state.covered + mask_of first step.last < 2 ^ n = small in
        record {
          next = subst (λ (last : ℕ). CanNext t first last x.state) last_is
              (record {
                first_from = facts.first_from;
                first_to = facts.first_to;
                last_to = (let m = last_to in omega arith);
                room = omega arith;
                near = omega arith;
                eta_within = subst (Within penalty_most) (sym R.eta_is) l.eta_within;
                score_within = within;
              });
          size_small = omega arith;
          entry_fits = (let b = R.entries_at.few in omega arith);
        }

    -- the state, with the step's last position
    abbrev after : State
    after = next_state index t p (entry_at book k) first step.last x.state

    state_is : next_state index t p (entry_at book k) first (first + p.long - 1) x.state ≡ after
    state_is = ap (λ (l : ℕ). next_state index t p (entry_at book k) first l x.state) (sym last_is)

    key_is : key_of n after ≡ next_key book (key_of n x.state) step
    unfolding key_of
    key_is = next_key_lem book index t R.scores_are step p n x.state facts.first_from facts.first_to last_to fine.covered_in free

    more : words_covered (next_key book (key_of n x.state) step) ≡ words_covered (key_of n x.state) + p.long
    unfolding words_covered next_key key_of
    more =
        let c : length (bits_of n x.state.covered) ≡ n = bits_length n x.state.covered in
        let l = last_to in
        let s = fits_size book direction step facts in
        let m = of.source_at.many_are in
        let o : count (λ b. b) (cover step 1 (bits_of n x.state.covered)) ≡ count (λ b. b) (bits_of n x.state.covered) + (step.last + 1 - step.first) =
        cover_ones step (bits_of n x.state.covered) facts.first_from facts.first_to (omega arith) free in
        omega arith

    after_fine : Fine n after
    unfolding next_state
    after_fine = record { few = fine.few; covered_in = small; r_in = (let l = last_to in let N = fine.few in omega arith) }

    -- the step's number
    abbrev made : Step
    made = record { first = first; last = first + p.long - 1; entry = k }

    made_step : made ≡ step
    made_step = let e = last_is in λ i. record { first = first; last = sym e i; entry = k }

    pub next_place_lem : k ≤ t.phrases → option_at book direction turn.option ≡ step → x.size ≡ words_covered (key_of n x.state)
        → NextPlace book direction x turn.spot.source.at turn.option (next_place index t p (entry_at book k) turn)
    unfolding next_place code_of
    next_place_lem entry is size =
        let N = fine.few in
        let l = last_to in
        let e = last_is in
        let f = facts.first_to in
        let b = R.entries_at.few in
        let key : key_of n (next_state index t p (entry_at book k) first (first + p.long - 1) x.state) ≡ next_key book (key_of n x.state) step = ap (key_of n) state_is ∙ key_is in
        record {
          key_is = key ∙ ap (next_key book (key_of n x.state)) (sym is);
          score_is = ap (λ (s : State). s.score) state_is ∙ next_score book index t R.scores_are step p n x.state of.g_is R.eta_is
              ∙ ap (λ (s : Step). x.state.score +ℤ gain book (key_of n x.state) s) (sym is);
          size_is = ap (λ (m : ℕ). m + p.long) size ∙ sym more ∙ ap words_covered (sym key);
          fine = subst (Fine n) (sym state_is) after_fine;
          parent_is = refl;
          step_is = code_back made (omega arith) (omega arith) ∙ made_step ∙ sym is;
          step_in = omega arith;
        }
