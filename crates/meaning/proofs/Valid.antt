-- A proposed list gets none of 16 to 19 exactly where it is a valid derivation as the notes say it.
use Prim.Native.Nat.{ℕ, zero, suc}
use mathlib.Core.Path.{◌≡◌, refl, sym, ◌∙◌, ap, ap₂}
use mathlib.Core.Logic.{◌↔◌}
use mathlib.Core.Bool.{Bool, true, false, not, cond, ◌&&◌, ◌||◌, and-true}
use mathlib.Core.List.{List, [], ◌∷◌}
use lib.Dec.{leb, eqb, eqb-suc-suc, eqb-suc-zero}
use lib.ListN.{replicate}
use Rattle.laws.specs.Lists.{all, count, numbers_from}
use Rattle.meaning.specs.Book.{Book}
use Rattle.meaning.specs.Direction.{word_count}
use Rattle.meaning.specs.Derivation.{fits, covers, jump, jumps, times_covered, is_valid}
use Rattle.meaning.specs.State.{Key, start, is_free, cover, next_key}
use Rattle.meaning.specs.Reply.{steps_refusal}
use Rattle.meaning.specs.declared.Step.{Step}
use Rattle.meaning.proofs.Chains.{asked, asked_last}

-- ════ one position

-- the steps from here on cover position i at most once, not where it is covered already, and at the end it is covered
bit_passes : ℕ → Bool → List Step → Bool
bit_passes i b [] = b
bit_passes i b (s ∷ ss) = not (b && covers s i) && bit_passes i (b || covers s i) ss

abbrev plus : Bool → ℕ → ℕ
plus b n = cond b (suc n) n

not_one : (n : ℕ) → eqb (suc (suc n)) 1 ≡ false
not_one n = eqb-suc-suc (suc n) 0 ∙ eqb-suc-zero n

bit_step : (b c : Bool) (n : ℕ) → not (b && c) && eqb (plus (b || c) n) 1 ≡ eqb (plus b (plus c n)) 1
bit_step true true n = sym (not_one n)
bit_step true false n = refl
bit_step false true n = refl
bit_step false false n = refl

bit_once : (i : ℕ) (b : Bool) (ss : List Step) → bit_passes i b ss ≡ eqb (plus b (times_covered ss i)) 1
unfolding bit_passes times_covered
bit_once i true [] = refl
bit_once i false [] = refl
bit_once i b (s ∷ ss) =
    ap (λ x. not (b && covers s i) && x) (bit_once i (b || covers s i) ss)
    ∙ bit_step b (covers s i) (count (λ step. covers step i) ss)

-- ════ all positions

bits_pass : ℕ → List Bool → List Step → Bool
bits_pass i [] ss = true
bits_pass i (b ∷ bits) ss = bit_passes i b ss && bits_pass (suc i) bits ss

four : (a b c d : Bool) → (a && b) && (c && d) ≡ (a && c) && (b && d)
four true true c d = refl
four true false true d = refl
four true false false d = refl
four false b c d = refl

bits_end : (i : ℕ) (bits : List Bool) → bits_pass i bits [] ≡ all (λ bit. bit) bits
unfolding bits_pass bit_passes
bits_end i [] = refl
bits_end i (b ∷ bits) = ap (λ x. b && x) (bits_end (suc i) bits)

bits_step : (i : ℕ) (bits : List Bool) (s : Step) (ss : List Step) → bits_pass i bits (s ∷ ss) ≡ is_free s i bits && bits_pass i (cover s i bits) ss
unfolding bits_pass bit_passes is_free cover
bits_step i [] s ss = refl
bits_step i (b ∷ bits) s ss =
    ap (λ x. not (b && covers s i) && bit_passes i (b || covers s i) ss && x) (bits_step (suc i) bits s ss)
    ∙ four (not (b && covers s i)) (bit_passes i (b || covers s i) ss) (is_free s (suc i) bits) (bits_pass (suc i) (cover s (suc i) bits) ss)

-- from nothing covered: each position exactly once
bits_start : (i n : ℕ) (ss : List Step) → bits_pass i (replicate n false) ss ≡ all (λ p. eqb (times_covered ss p) 1) (numbers_from i n)
unfolding bits_pass
bits_start i zero ss = refl
bits_start i (suc n) ss = ap₂ ◌&&◌ (bit_once i false ss) (bits_start (suc i) n ss)

-- ════ the questions as one test

-- 16, 17 and 18 pass at each step, and 19 at the end
unfoldable pub steps_pass : Book → List ℕ → List Bool → ℕ → List Step → Bool
steps_pass book direction bits r [] = all (λ bit. bit) bits
steps_pass book direction bits r (s ∷ ss) =
    fits book direction s && (is_free s 1 bits && (leb (jump r s) book.limit && steps_pass book direction (cover s 1 bits) s.last ss))

six : (f F j fs R js : Bool) → f && (F && (j && (fs && R && js))) ≡ (f && fs) && (F && R) && (j && js)
six true true true fs R js = refl
six true true false true true js = refl
six true true false true false js = refl
six true true false false R js = refl
six true false j true R js = refl
six true false j false R js = refl
six false F j fs R js = refl

steps_pass_lem : (book : Book) (direction : List ℕ) (bits : List Bool) (r : ℕ) (ss : List Step)
    → steps_pass book direction bits r ss ≡ all (fits book direction) ss && bits_pass 1 bits ss && all (λ j. leb j book.limit) (jumps r ss)
unfolding steps_pass jumps
steps_pass_lem book direction bits r [] = sym (bits_end 1 bits) ∙ sym (and-true (bits_pass 1 bits []))
steps_pass_lem book direction bits r (s ∷ ss) =
    ap (λ x. fits book direction s && (is_free s 1 bits && (leb (jump r s) book.limit && x))) (steps_pass_lem book direction (cover s 1 bits) s.last ss)
    ∙ six (fits book direction s) (is_free s 1 bits) (leb (jump r s) book.limit) (all (fits book direction) ss) (bits_pass 1 (cover s 1 bits) ss) (all (λ j. leb j book.limit) (jumps s.last ss))
    ∙ ap (λ x. fits book direction s && all (fits book direction) ss && x && (leb (jump r s) book.limit && all (λ j. leb j book.limit) (jumps s.last ss)))
    (sym (bits_step 1 bits s ss))

pub valid_passes : (book : Book) (direction : List ℕ) (ss : List Step)
    → steps_pass book direction (replicate (word_count direction) false) 0 ss ≡ is_valid book direction ss
unfolding is_valid
valid_passes book direction ss =
    steps_pass_lem book direction (replicate (word_count direction) false) 0 ss
    ∙ ap (λ x. all (fits book direction) ss && x && all (λ j. leb j book.limit) (jumps 0 ss)) (bits_start 1 (word_count direction) ss)

refusal_passes : (book : Book) (direction : List ℕ) (k : Key) (ss : List Step)
    → (steps_refusal book direction k ss ≡ 0) ↔ (steps_pass book direction k.covered k.r ss ≡ true)
unfolding steps_refusal steps_pass next_key
refusal_passes book direction k [] = asked_last 18 (all (λ bit. bit) k.covered)
refusal_passes book direction k (s ∷ ss) =
    asked 15 (fits book direction s) _ _
    (asked 16 (is_free s 1 k.covered) _ _
    (asked 17 (leb (jump k.r s) book.limit) _ _
    (refusal_passes book direction (next_key book k s) ss)))

-- no refusal exactly where the steps are a valid derivation
pub proposal_valid : (book : Book) (direction : List ℕ) (ss : List Step)
    → (steps_refusal book direction (start (word_count direction)) ss ≡ 0) ↔ (is_valid book direction ss ≡ true)
unfolding start
proposal_valid book direction ss =
    let e = refusal_passes book direction (start (word_count direction)) ss in
    let v = valid_passes book direction ss in
    (λ p. sym v ∙ e.0 p, λ t. e.1 (v ∙ t))
