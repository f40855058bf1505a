-- Words: the bucket of one, and that the latest line that is the word and the first of its spelling is the first line that is the word.
use Rattle.std.specs.List.{fold}
use Rattle.std.proofs.Common.{Option, Some, None, unwrap_or}
use Prim.Native.Nat.{ℕ, zero, suc, ◌+◌, ◌*◌, ◌%◌, ◌<◌, ◌≤◌}
use mathlib.Core.Path.{◌≡◌, refl, sym, ap, ◌∙◌}
use mathlib.Core.Bool.{true, cond, and-false}
use mathlib.Core.List.{List, [], ◌∷◌, ◌++◌}
use native.Mathlib.Omega.{arith}
use lib.Dec.{eqb}
use lib.ListN.{length, get_or, take}
use lib.Seq.{take-suc, take-length, length-take-le}
use borrow.Author.Tests.{eqb-true, ne_eqb}
use Rattle.laws.specs.Index.{latest}
use Rattle.laws.proofs.Index.{latest_zero, latest_hit, latest_miss}
use Rattle.laws.proofs.Lists.{eq_list_is}
use Rattle.laws.proofs.Tests.{by_test, both}
use Rattle.arpa.specs.Lines.{eq_bytes}
use Rattle.arpa.specs.Words.{spellings, first_from, spelled}
use Rattle.spelling.specs.Lines.{line_at}
use Rattle.spelling.specs.Index.{bucket_count, repeats, hash_from, bucket_of, spelled_before, is_first, bucket_at, spells, NumberIs}

-- ---- the bucket: a byte more, as code's arithmetic of 32 bits has it, and all bytes

abbrev pub hash_more : ℕ → ℕ → ℕ
hash_more h b = ((h * 16777619 % 4294967296 + b) % 4294967296 + 1) % 4294967296

hash_step : (h b : ℕ) → hash_more h b ≡ (h * 16777619 + b + 1) % 4294967296
hash_step h b = omega arith

pub hash_all : (h : ℕ) (word : List ℕ) → fold hash_more h word ≡ hash_from h word
hash_all h [] = refl
hash_all h (b ∷ word) = hash_all (hash_more h b) word ∙ ap (λ (n : ℕ). hash_from n word) (hash_step h b)

-- ---- the first line that is the word

-- one line more, at the end
first_snoc : (k : ℕ) (word : List ℕ) (lines : List (List ℕ)) (line : List ℕ) → 0 < k
    → first_from k word (lines ++ (line ∷ [])) ≡ cond (eqb (first_from k word lines) 0) (cond (eq_bytes line word) (k + length lines) 0) (first_from k word lines)
unfolding first_from
first_snoc k word [] line p = let z : k + 0 ≡ k = omega arith in rw z
first_snoc k word (other ∷ lines) line p =
    let ih = first_snoc (suc k) word lines line (omega arith) in
    let z : suc k + length lines ≡ k + suc (length lines) = omega arith in
    by_test (eq_bytes other word)
    (λ t. rw (t, ne_eqb k 0 (omega arith)))
    (λ f. rw (f, ← z) ih)

module _ (list : List ℕ) where
  before_none : (word : List ℕ) → spelled_before list 0 word ≡ 0
  unfolding spelled_before first_from
  before_none word = refl

  before_more : (i : ℕ) (word : List ℕ) → i < length (spellings list)
      → spelled_before list (suc i) word ≡ cond (eqb (spelled_before list i word) 0) (cond (eq_bytes (line_at list i) word) (suc i) 0) (spelled_before list i word)
  unfolding spelled_before line_at
  before_more i word l =
      let z : 1 + length (take i (spellings list)) ≡ suc i = omega (arith, length-take-le i (spellings list) (omega arith)) in
      rw (take-suc (spellings list) i [] l) (first_snoc 1 word (take i (spellings list)) (get_or (spellings list) i []) (omega arith) ∙ rw z)

  -- all lines
  pub before_all : (n : ℕ) (word : List ℕ) → n ≡ length (spellings list) → spelled_before list n word ≡ spelled list word
  unfolding spelled_before spelled
  before_all n word e = ap (first_from 1 word) (ap (λ (k : ℕ). take k (spellings list)) e ∙ take-length (spellings list))

  -- a line that is the word is the first of its spelling where the word is not spelled before it
  first_is : (k : ℕ) (word : List ℕ) → eq_bytes (line_at list k) word ≡ true → is_first list k ≡ eqb (spelled_before list k word) 0
  unfolding is_first
  first_is k word t = ap (λ (w : List ℕ). eqb (spelled_before list k w) 0) (eq_list_is eqb eqb-true (line_at list k) word t)

  pub latest_spells : (word : List ℕ) (n : ℕ) → n ≤ length (spellings list) → latest (spells list word) n ≡ spelled_before list n word
  unfolding spells
  latest_spells word zero h = latest_zero (spells list word) ∙ sym (before_none word)
  latest_spells word (suc n) h =
      let ih = latest_spells word n (omega arith) in
      let more = before_more n word (omega arith) in
      by_test (eq_bytes (line_at list n) word)
      (λ t. by_test (eqb (spelled_before list n word) 0)
      (λ z. latest_hit (spells list word) n (rw (first_is n word t, z) t) ∙ sym (more ∙ rw (z, t)))
      (λ z. latest_miss (spells list word) n (rw (first_is n word t, z)) ∙ ih ∙ sym (more ∙ rw z)))
      (λ f. latest_miss (spells list word) n (rw f (and-false (is_first list n))) ∙ ih
      ∙ sym (more ∙ rw f (by_test (eqb (spelled_before list n word) 0) (λ z. rw z (sym (eqb-true (spelled_before list n word) 0 z))) (λ z. rw z))))

  -- ---- the buckets of lines

  pub spells_bucket : (word : List ℕ) (k : ℕ) → spells list word k ≡ true → bucket_at list k ≡ bucket_of word
  unfolding spells bucket_at
  spells_bucket word k t =
      let b = both (is_first list k) (eq_bytes (line_at list k) word) t in
      rw b.0 (ap bucket_of (eq_list_is eqb eqb-true (line_at list k) word b.1))

  -- a line that lies in a word's bucket is the first of its spelling
  pub bucket_spells : (word : List ℕ) (k h : ℕ) → bucket_at list k ≡ h → h < bucket_count → spells list word k ≡ eq_bytes (line_at list k) word
  unfolding spells bucket_at
  bucket_spells word k h e l = by_test (is_first list k) (λ t. rw t) (λ f. absurd (omega (arith, rw f at e)))

  -- the bucket of a line by what a search among those before it found
  pub bucket_first : (k : ℕ) → spelled_before list k (line_at list k) ≡ 0 → bucket_of (line_at list k) ≡ bucket_at list k
  unfolding bucket_at is_first
  bucket_first k e = rw e

  pub bucket_repeats : (k : ℕ) → (spelled_before list k (line_at list k) ≡ 0 → ⊥) → repeats ≡ bucket_at list k
  unfolding bucket_at is_first
  bucket_repeats k d = rw (ne_eqb (spelled_before list k (line_at list k)) 0 d)

-- ---- the number that code has for it, 0 for none

pub or_zero : (n : ℕ) (r : Option ℕ) → NumberIs n r → unwrap_or r 0 ≡ n
or_zero n None e = sym e
or_zero n (Some k) e = e.1
