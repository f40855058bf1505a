-- A proposed list, one step after the other: what is left to ask and to add, from the state reached, is what the whole list asks and adds from the start.
use Prim.Native.Nat.{ℕ, zero, suc, ◌+◌, ◌-◌, ◌*◌, ◌/◌, ◌%◌, ◌^◌, ◌≤◌, ◌<◌}
use native.Mathlib.Nat.{pow-suc}
use native.Mathlib.Omega.{arith}
use mathlib.Core.Path.{◌≡◌, sym, ◌∙◌, ap}
use mathlib.Core.Bool.{Bool, true, ◌&&◌}
use mathlib.Core.List.{List, [], ◌∷◌, map}
use borrow.Author.Tests.{eqb-true, eq-eqb, ne_eqb}
use lib.Dec.{eqb, leb}
use lib.IntN.{ℤ, pos, negsuc, ◌+ℤ◌, +ℤ_idl, +ℤ_idr, +ℤ_assoc}
use lib.Pow.{pow_pos}
use Rattle.laws.specs.Bits.{bits_of}
use Rattle.laws.specs.Lists.{all, numbers_from}
use Rattle.laws.proofs.Tests.{same_test, both, both_of}
use Rattle.laws.proofs.Bits.{bits_zero}
use Rattle.search_theory.specs.Statements.{total}
use Rattle.meaning.specs.Questions.{◌unless◌, number}
use Rattle.meaning.specs.Book.{Book}
use Rattle.meaning.specs.Direction.{word_count}
use Rattle.meaning.specs.Derivation.{fits, jump, score_of}
use Rattle.meaning.specs.State.{Key, start, is_free, may_extend, next_key, gain, key_of}
use Rattle.meaning.specs.Search.{search}
use Rattle.meaning.specs.Reply.{Reply, refused, done, reply, step_refusal, steps_refusal}
use Rattle.meaning.specs.declared.Step.{Step}
use Rattle.meaning.specs.declared.State.{State}
use Rattle.meaning.specs.declared.Refusal.{Refusal}
use Rattle.meaning.proofs.Chains.{reply_done, reply_refused}
use Rattle.meaning.proofs.Numbered.{refused_reply}
use Rattle.meaning.proofs.Scores.{total_score}
use Rattle.proposal.specs.Proposal.{step_in, steps_in, Bounded, Follows}

-- ════ 19: every word is covered exactly where the number has all its digits

pub all_covered : (n c : ℕ) → c < 2 ^ n → all (λ bit. bit) (bits_of n c) ≡ eqb c (2 ^ n - 1)
unfolding bits_of
all_covered zero c h = sym (eq-eqb c 0 (omega arith))
all_covered (suc n) c h =
    let p : 2 ^ suc n ≡ 2 ^ n * 2 = pow-suc 2 n in
    let o : 0 < 2 ^ n = pow_pos n in
    ap (λ x. eqb (c % 2) 1 && x) (all_covered n (c / 2) (omega arith))
    ∙ same_test
    (λ e. let b = both (eqb (c % 2) 1) (eqb (c / 2) (2 ^ n - 1)) e in
    let x = eqb-true (c % 2) 1 b.0 in
    let y = eqb-true (c / 2) (2 ^ n - 1) b.1 in
    eq-eqb c (2 ^ suc n - 1) (omega arith))
    (λ e. let x = eqb-true c (2 ^ suc n - 1) e in both_of (eq-eqb (c % 2) 1 (omega arith)) (eq-eqb (c / 2) (2 ^ n - 1) (omega arith)))

-- ════ the steps that are left

abbrev pub rest : List ℕ → ℕ → ℕ → List Step
rest steps count i = map (step_in steps) (numbers_from i (count - i))

pub rest_start : (steps : List ℕ) (count : ℕ) → rest steps count 0 ≡ steps_in steps count
unfolding steps_in
rest_start steps count = let z : count - 0 ≡ count = omega arith in rw z

pub rest_next : (steps : List ℕ) (count i : ℕ) → i < count → rest steps count i ≡ step_in steps i ∷ rest steps count (i + 1)
rest_next steps count i h =
    let z : count - i ≡ suc (count - (i + 1)) = omega arith in
    let y : i + 1 ≡ suc i = omega arith in
    rw (z, y)

pub rest_end : (steps : List ℕ) (count i : ℕ) → count ≤ i → rest steps count i ≡ []
rest_end steps count i h = let z : count - i ≡ 0 = omega arith in rw z

module _ (book : Book) (direction : List ℕ) where
  abbrev n : ℕ
  n = word_count direction

  abbrev gained : Key → List Step → ℤ
  gained k steps = total (search book direction (negsuc 0)) k steps

  -- a step that may be taken passes 16, 17 and 18
  pub passes_on : (k : Key) (step : Step) (steps : List Step) → may_extend book direction k step ≡ true
      → steps_refusal book direction k (step ∷ steps) ≡ steps_refusal book direction (next_key book k step) steps
  unfolding steps_refusal may_extend
  passes_on k step steps e =
      let a = both (fits book direction step && is_free step 1 k.covered) (leb (jump k.r step) book.limit) e in
      let b = both (fits book direction step) (is_free step 1 k.covered) a.0 in
      rw (b.0, b.1, a.1)

  -- what is left of a list, from the state s on, is worth the whole list from the start on
  pub record Scoring (steps : List Step) (s : State) (left : List Step) : Type 0 where
    pub ready : Bounded direction s
    pub refusal_same : steps_refusal book direction (key_of n s) left ≡ steps_refusal book direction (start n) steps
    pub score_same : s.score +ℤ gained (key_of n s) left ≡ gained (start n) steps

  abbrev first : State
  first = record { word1 = 0; word2 = 0; covered = 0; r = 0; score = pos 0 }

  first_key : key_of n first ≡ start n
  unfolding key_of start
  first_key = ap {B = Key} (λ (bits : List Bool). record { word1 = 0; word2 = 0; covered = bits; r = 0 }) (bits_zero n)

  pub scoring_starts : (steps : List Step) → Scoring steps first steps
  scoring_starts steps =
      record {
        ready = record { small = pow_pos n; score_within = omega arith };
        refusal_same = ap (λ (k : Key). steps_refusal book direction k steps) first_key;
        score_same = +ℤ_idl (gained (key_of n first) steps) ∙ ap (λ (k : Key). gained k steps) first_key;
      }

  module _ {steps : List Step} {s : State} where
    pub scoring_goes : {step : Step} {left : List Step} {t : State} → Scoring steps s (step ∷ left) → Follows book direction s step t → Scoring steps t left
    unfolding total
    scoring_goes {step} {left} {t} c f =
        record {
          ready = f.ready;
          refusal_same = ap (λ (k : Key). steps_refusal book direction k left) f.key_is ∙ sym (passes_on (key_of n s) step left f.may) ∙ c.refusal_same;
          score_same =
              ap (λ (k : Key). t.score +ℤ gained k left) f.key_is
              ∙ ap (λ z. z +ℤ gained (next_key book (key_of n s) step) left) f.score_is
              ∙ +ℤ_assoc s.score (gain book (key_of n s) step) (gained (next_key book (key_of n s) step) left)
              ∙ c.score_same;
        }

    pub scoring_stops : {step : Step} {left : List Step} → Scoring steps s (step ∷ left) → (r : Refusal) → ((more : ℕ) → number r ≡ step_refusal book direction (key_of n s) step more)
        → refused (number r) ≡ reply (steps_refusal book direction (start n) steps) (score_of book steps)
    unfolding steps_refusal
    scoring_stops {step} {left} c r e =
        let k : number r ≡ steps_refusal book direction (start n) steps = e (steps_refusal book direction (next_key book (key_of n s) step) left) ∙ c.refusal_same in
        refused_reply r _ (score_of book steps) (sym k)

    module _ (c : Scoring steps s []) where
      end : steps_refusal book direction (start n) steps ≡ (19 unless eqb s.covered (2 ^ n - 1))
      unfolding steps_refusal key_of
      end = sym c.refusal_same ∙ ap (λ x. 19 unless x) (all_covered n s.covered c.ready.small)

      pub scoring_lacks : (s.covered ≡ 2 ^ n - 1 → ⊥) → refused 19 ≡ reply (steps_refusal book direction (start n) steps) (score_of book steps)
      scoring_lacks h = sym (reply_refused _ 18 (score_of book steps) (end ∙ rw (ne_eqb s.covered (2 ^ n - 1) h)))

      score_is : s.score ≡ score_of book steps
      unfolding total
      score_is = sym (+ℤ_idr s.score) ∙ c.score_same ∙ total_score book direction (negsuc 0) steps

      pub scoring_ends : s.covered ≡ 2 ^ n - 1 → done s.score ≡ reply (steps_refusal book direction (start n) steps) (score_of book steps)
      scoring_ends h = ap {B = Reply ℤ} done score_is ∙ sym (reply_done _ (score_of book steps) (end ∙ rw (eq-eqb s.covered (2 ^ n - 1) h)))
