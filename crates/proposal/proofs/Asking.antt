-- 16, 17 and 18 by the code's numbers, and the state that a step leads to where none of them refuses.
use Prim.Native.Nat.{ℕ, ◌+◌, ◌-◌, ◌*◌, ◌^◌, ◌≤◌, ◌<◌}
use native.Mathlib.Omega.{arith}
use mathlib.Core.Path.{◌≡◌, sym, ◌∙◌, ap, subst}
use mathlib.Core.Bool.{true, false}
use mathlib.Core.List.{List, map}
use borrow.Author.Tests.{le-leb, lt-leb}
use lib.Dec.{leb}
use lib.IntN.{ℤ, pos, ◌+ℤ◌}
use lib.ListN.{length, get_or, length-map}
use lib.Pow.{pow_mono}
use Rattle.laws.specs.Integers.{Within}
use Rattle.laws.specs.Bits.{bits_of}
use Rattle.laws.proofs.Tests.{both_of, between}
use Rattle.laws.proofs.Bits.{bits_length}
use Rattle.laws.proofs.Bounds.{within_+, within_mono}
use Rattle.laws.proofs.Lists.{count_le}
use Rattle.positions.specs.Runs.{RunsFrom, mask_of}
use Rattle.positions.proofs.Laws.{free_run_lem, mask_fits}
use Rattle.meaning.specs.Bounds.{penalty_most}
use Rattle.meaning.specs.Questions.{◌unless◌, within}
use Rattle.meaning.specs.Book.{Book, book_of}
use Rattle.meaning.specs.Direction.{word_count, direction_refusal, numbers_refusal}
use Rattle.meaning.specs.Derivation.{is_entry, entry_at, fits, jump}
use Rattle.meaning.specs.State.{Key, words_covered, is_free, may_extend, next_key, gain, gain_bound, key_of}
use Rattle.meaning.specs.Reply.{step_refusal}
use Rattle.meaning.specs.declared.Step.{Step}
use Rattle.meaning.specs.declared.State.{State}
use Rattle.meaning.proofs.Chains.{first_passes, test_passes}
use Rattle.meaning.proofs.Steps.{Fits, fits_facts}
use Rattle.meaning.proofs.Cover.{cover_adds}
use Rattle.meaning.proofs.Ranges.{Ranged, loaded_ranged}
use Rattle.meaning.proofs.Bounds.{gain_within}
use Rattle.derivation.specs.Model.{PhraseOf}
use Rattle.derivation.specs.Next.{next_state, CanNext}
use Rattle.derivation.specs.Prepared.{Prepared}
use Rattle.proposal.specs.Proposal.{Bounded, Follows}
use Rattle.derivation.specs.declared.Setup.{Setup}
use Rattle.derivation.specs.declared.Phrase.{Phrase}
use Rattle.options.proofs.Fits.{has_words}
use Rattle.derivation.proofs.Next.{next_key_lem, next_score}

-- ════ 16

module _ (book : Book) (direction : List ℕ) (step : Step) where
  pub not_from : step.entry < 1 → false ≡ fits book direction step
  unfolding fits is_entry
  not_from h = rw (lt-leb 1 step.entry h)

  module _ (a : 1 ≤ step.entry) where
    pub not_to : length book.entries < step.entry → false ≡ fits book direction step
    unfolding fits is_entry
    not_to h = rw (le-leb 1 step.entry a, lt-leb step.entry (length book.entries) h)

    pub fits_words : step.entry ≤ length book.entries → has_words (entry_at book step.entry).source direction step.first step.last ≡ fits book direction step
    unfolding fits is_entry word_count
    fits_words h = rw (le-leb 1 step.entry a, le-leb step.entry (length book.entries) h)

  -- the question that refuses
  module _ (k : Key) (rest : ℕ) where
    pub asked_16 : fits book direction step ≡ false → 16 ≡ step_refusal book direction k step rest
    asked_16 e = rw e

    pub asked_17 : fits book direction step ≡ true → is_free step 1 k.covered ≡ false → 17 ≡ step_refusal book direction k step rest
    asked_17 e f = rw (e, f)

    pub asked_18 : fits book direction step ≡ true → is_free step 1 k.covered ≡ true → leb (jump k.r step) book.limit ≡ false → 18 ≡ step_refusal book direction k step rest
    asked_18 e f g = rw (e, f, g)

-- ════ 17: the runs tell what is free

pub free_is : (step : Step) (run : List ℕ) (n : ℕ) (s : State) → RunsFrom run n s.covered 0 → 1 ≤ step.first → step.first ≤ step.last → step.last ≤ n
    → leb (step.last + 1 - step.first) (get_or run (step.first - 1) 0) ≡ is_free step 1 (key_of n s).covered
unfolding key_of
free_is step run n s r a b c =
    ap (leb (step.last + 1 - step.first)) (r.run_at (step.first - 1) (omega arith) (omega arith))
    ∙ sym (free_run_lem step (bits_of n s.covered) a b (let l = bits_length n s.covered in omega arith))

-- ════ the next state

pub direction_few : (direction : List ℕ) → direction_refusal direction ≡ 0 → (1 ≤ length direction) × (length direction ≤ 32)
unfolding direction_refusal numbers_refusal
direction_few direction e =
    let l = length-map direction pos in
    let h = between 1 32 (length (map pos direction)) (test_passes 8 (within 1 32 (length (map pos direction))) (first_passes (9 unless within 1 32 (length (map pos direction))) _ e)) in
    let a = h.0 in
    let b = h.1 in
    (omega arith, omega arith)

module _ (loaded : List ℤ) (direction : List ℕ) (index : List ℕ) (t : Setup) (P : Prepared loaded direction index t)
    (s : State) (step : Step) (R : Bounded direction s) (fit : fits (book_of loaded) direction step ≡ true) where
  abbrev book : Book
  book = book_of loaded

  abbrev n : ℕ
  n = word_count direction

  abbrev k : Key
  k = key_of n s

  f : Fits book direction step
  f = fits_facts book direction step fit

  ranged : Ranged book
  ranged = loaded_ranged loaded P.passed

  pub last_inside : step.last ≤ n
  unfolding word_count
  last_inside = f.last_to

  few : n ≤ 32
  unfolding word_count
  few = (direction_few direction P.directed).1

  covered_few : words_covered k ≤ n
  unfolding words_covered key_of
  covered_few = let a = count_le (λ bit. bit) (bits_of n s.covered) in let b = bits_length n s.covered in omega arith

  module _ (free : is_free step 1 k.covered ≡ true) where
    covers_in : s.covered + mask_of step.first step.last < 2 ^ n
    unfolding key_of
    covers_in = mask_fits step n s.covered f.first_from f.first_to last_inside R.small free

    covers_more : words_covered k < words_covered (next_key book k step)
    unfolding words_covered key_of next_key
    covers_more =
        let l = last_inside in
        let b = bits_length n s.covered in
        let g = f.first_to in
        cover_adds step 1 (bits_of n s.covered) free f.first_from f.first_to (omega arith)

    module _ (near : jump k.r step ≤ book.limit) where
      pub can_next : CanNext t step.first step.last s
      unfolding jump key_of
      can_next =
          let l = last_inside in
          let d = few in
          record {
            first_from = f.first_from;
            first_to = f.first_to;
            last_to = omega arith;
            room = (let c = covers_in in let p = pow_mono {i = n} {j = 32} d in omega (arith, c, p));
            near = (let m = ranged.limit_to in omega (arith, near, m));
            eta_within = subst (Within penalty_most) (sym P.eta_is) ranged.eta_within;
            score_within = (let c = covered_few in within_mono (omega (arith, c, d)) R.score_within);
          }

      may : may_extend book direction k step ≡ true
      unfolding may_extend
      may = both_of (both_of fit free) (le-leb (jump k.r step) book.limit near)

      covers_next : (p : Phrase) → (next_state index t p (entry_at book step.entry) step.first step.last s).covered < 2 ^ n
      unfolding next_state
      covers_next p = covers_in

      -- the code's next state is the notes'
      pub follows : (p : Phrase) → PhraseOf loaded (entry_at book step.entry) p
          → Follows book direction s step (next_state index t p (entry_at book step.entry) step.first step.last s)
      follows p q = record { may = may; key_is = key; score_is = score; ready = record { small = covers_next p; score_within = bound } }
        where
          key : key_of n (next_state index t p (entry_at book step.entry) step.first step.last s) ≡ next_key book k step
          key = next_key_lem book index t P.scores_are step p n s f.first_from f.first_to last_inside R.small free

          score : (next_state index t p (entry_at book step.entry) step.first step.last s).score ≡ s.score +ℤ gain book k step
          score = next_score book index t P.scores_are step p n s q.g_is P.eta_is

          bound : Within (gain_bound * words_covered (key_of n (next_state index t p (entry_at book step.entry) step.first step.last s))) (next_state index t p (entry_at book step.entry) step.first step.last s).score
          bound =
              let e = ap words_covered key in
              let c = covers_more in
              subst (Within _) (sym score) (within_mono (omega (arith, e, c)) (within_+ R.score_within (gain_within book ranged direction k step may)))
