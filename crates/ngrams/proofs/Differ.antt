-- What the searches tell of words that stand twice.
use Prim.Native.Nat.{ℕ, zero, suc, ◌+◌, ◌≤◌, ◌<◌}
use mathlib.Core.Path.{◌≡◌, refl, sym, ap, ap₂, ◌∙◌}
use mathlib.Core.Bool.{Bool, true, false, not, cond, ◌&&◌, ◌||◌, and-false}
use mathlib.Core.List.{List, [], ◌∷◌, ◌++◌}
use native.Mathlib.Omega.{arith}
use lib.Dec.{eqb}
use lib.ListN.{length, get_or, length-append, get_or-append}
use lib.Seq.{get_or_at}
use borrow.Author.Tests.{eqb-true, eqb-false, ne_eqb}
use Rattle.std.specs.Option.{is_none}
use Rattle.laws.specs.Index.{latest}
use Rattle.laws.specs.Lists.{any, none_twice}
use Rattle.laws.proofs.Lists.{none_twice_at}
use Rattle.laws.proofs.Tests.{by_test}
use Rattle.meaning.specs.Questions.{◌unless◌, ◌orelse◌}
use Rattle.ngrams.specs.declared.Key.{Key}
use Rattle.ngrams.specs.Parts.{records_most, records_end, record_named, KeptRecords, KeptBelow}
use Rattle.ngrams.specs.Grams.{key_at, gram_at, holds, same_key, firsts, keys_in, grams_in, latest_with, earlier_alike, same_triple, repeat_refusal, with_repeat, words_of, key_of, Indexed, Listing}
use Rattle.ngrams.proofs.Keys.{same_is, same_sym}
use Rattle.ngrams.proofs.Index.{kept_key, kept_gram, below_key, below_gram, below_indexed}

-- ---- f 0, f 1, ..

module _ {A : Type 0} (f : ℕ → A) where
  pub firsts_length : (n : ℕ) → length (firsts f n) ≡ n
  unfolding firsts
  firsts_length zero = refl
  firsts_length (suc n) = let ih = firsts_length n in simp length-append (omega arith)

  pub firsts_at : (n k : ℕ) (d : A) → k < n → get_or (firsts f n) k d ≡ f k
  unfolding firsts
  firsts_at zero k d l = absurd (omega arith)
  firsts_at (suc n) k d l =
      by_test (eqb k n)
      (λ e. let q : k ≡ n = eqb-true k n e in rw q (get_or_at (firsts f n) (f n) [] d n (firsts_length n)))
      (λ g. let m : k < n = omega (arith, eqb-false k n g) in
      get_or-append (firsts f n) (f n ∷ []) d k (omega (arith, firsts_length n)) ∙ firsts_at n k d m)

  pub firsts_same : (g : ℕ → A) (n : ℕ) → ((k : ℕ) → k < n → g k ≡ f k) → firsts g n ≡ firsts f n
  unfolding firsts
  firsts_same g zero h = refl
  firsts_same g (suc n) h = rw (firsts_same g n (λ k l. h k (omega arith)), h n (omega arith))

-- ---- words that stand twice

-- of a list that is one longer
module _ {A : Type 0} (eq : A → A → Bool) where
  any_snoc : (test : A → Bool) (xs : List A) (x : A) → any test (xs ++ (x ∷ [])) ≡ test x || any test xs
  any_snoc test [] x = refl
  any_snoc test (y ∷ ys) x = rw (any_snoc test ys x) (swap (test y) (test x) (any test ys))
    where
      swap : (a b c : Bool) → a || (b || c) ≡ b || (a || c)
      swap true true c = refl
      swap true false c = refl
      swap false b c = refl

  none_snoc : (xs : List A) (x : A) → none_twice eq (xs ++ (x ∷ [])) ≡ none_twice eq xs && not (any (λ a. eq a x) xs)
  none_snoc [] x = refl
  none_snoc (y ∷ ys) x = rw (any_snoc (eq y) ys x, none_snoc ys x) (swap (eq y x) (any (eq y) ys) (none_twice eq ys) (any (λ a. eq a x) ys))
    where
      swap : (a b c d : Bool) → not (a || b) && (c && not d) ≡ not b && c && not (a || d)
      swap true true c d = refl
      swap true false true d = refl
      swap true false false d = refl
      swap false true c d = refl
      swap false false c d = refl

-- one of the first n is found exactly where the latest is
any_latest : {A : Type 0} (f : ℕ → A) (test : A → Bool) (P : ℕ → Bool) → ((k : ℕ) → test (f k) ≡ P k) → (n : ℕ) → any test (firsts f n) ≡ not (eqb (latest P n) 0)
unfolding firsts latest
any_latest f test P h zero = refl
any_latest f test P h (suc n) = any_snoc (λ a b. false) test (firsts f n) (f n) ∙ ap (λ (t : Bool). t || any test (firsts f n)) (h n) ∙ by_test (P n) (λ t. rw (t, ne_eqb (suc n) 0 (λ e. omega arith))) (λ t. rw t (any_latest f test P h n))

-- triples among keys
any_triple : (x : Key) (xs : List Key) → any (λ a. same_triple a x) xs ≡ eqb x.order 3 && any (λ a. same_key a x) xs
any_triple x [] = sym (and-false (eqb x.order 3))
any_triple x (a ∷ rest) = ap₂ ◌||◌ here (any_triple x rest) ∙ joined (eqb x.order 3) (same_key a x) (any (λ b. same_key b x) rest)
  where
    here : same_triple a x ≡ eqb x.order 3 && same_key a x
    here = by_test (same_key a x) (λ t. ap (λ (k : Key). eqb k.order 3 && same_key a x) (same_is a x t)) (λ t. rw t (and-false (eqb a.order 3) ∙ sym (and-false (eqb x.order 3))))

    joined : (t p q : Bool) → t && p || t && q ≡ t && (p || q)
    joined true p q = refl
    joined false p q = refl

-- what the answer to both questions becomes, by tests: no triple stands twice, none at all does; the record is a triple; it is like one before it
with_repeat_lem : (a b three alike : Bool) (found : ℕ) → found ≡ (6 unless a orelse 20 unless b)
    → (6 unless (a && not (three && alike)) orelse 20 unless (b && not alike)) ≡ cond (eqb found 6) 6 (cond (not alike) found (cond three 6 20))
with_repeat_lem false b three alike found e = rw e
with_repeat_lem true true three false found e = rw (e, and-false three)
with_repeat_lem true true true true found e = rw e
with_repeat_lem true true false true found e = rw e
with_repeat_lem true false three false found e = rw (e, and-false three)
with_repeat_lem true false true true found e = rw e
with_repeat_lem true false false true found e = rw e

module _ (index : List ℕ) where
  abbrev alike : ℕ → Bool
  alike i = any (λ a. same_key a (key_at index i)) (keys_in index i)

  alike_is : (i : ℕ) → not (alike i) ≡ is_none (earlier_alike index i)
  unfolding latest_with holds
  alike_is i =
      let found = latest (holds index (key_at index i)) i in
      ap not (any_latest (key_at index) (λ a. same_key a (key_at index i)) (holds index (key_at index i)) (λ k. same_sym (key_at index k) (key_at index i)) i)
      ∙ not_not (eqb found 0) ∙ by found
    where
      by : (n : ℕ) → eqb n 0 ≡ is_none (record_named n)
      by zero = refl
      by (suc k) = ne_eqb (suc k) 0 (λ e. omega arith)

      not_not : (b : Bool) → not (not b) ≡ b
      not_not true = refl
      not_not false = refl

  -- one record more
  pub repeat_more : (i : ℕ) → repeat_refusal index (i + 1) ≡ with_repeat (repeat_refusal index i) (earlier_alike index i) (key_at index i).order
  unfolding repeat_refusal firsts
  repeat_more i =
      let q : i + 1 ≡ suc i = omega arith in
      rw (q, none_snoc same_triple (keys_in index i) (key_at index i), none_snoc same_key (keys_in index i) (key_at index i), any_triple (key_at index i) (keys_in index i), ← (alike_is i))
      (with_repeat_lem (none_twice same_triple (keys_in index i)) (none_twice same_key (keys_in index i)) (eqb (key_at index i).order 3) (alike i) _ refl)

  -- where none stands twice, two records have different words
  pub is_different : (n : ℕ) → none_twice same_key (keys_in index n) ≡ true → (j k : ℕ) → j < k → k < n → same_key (key_at index j) (key_at index k) ≡ false
  is_different n h j k l m =
      let p = none_twice_at same_key (firsts (key_at index) n) (key_at index 0) h j k l (omega (arith, firsts_length (key_at index) n)) in
      rw (firsts_at (key_at index) n j (key_at index 0) (omega arith), firsts_at (key_at index) n k (key_at index 0) m) at p

-- ---- where the records are kept, so are their words and their n-grams

module _ {old new : List ℕ} (same : KeptRecords old new) where
  kept_keys : (n : ℕ) → keys_in new n ≡ keys_in old n
  kept_keys n = firsts_same (key_at old) (key_at new) n (λ k l. kept_key same k)

  pub kept_repeats : (n : ℕ) → repeat_refusal new n ≡ repeat_refusal old n
  unfolding repeat_refusal
  kept_repeats n = rw (kept_keys n)

  pub kept_listing : {n shorter : ℕ} → Indexed new n → none_twice same_key (keys_in old n) ≡ true → ((k : ℕ) → k < n → key_at old k ≡ key_of (words_of (key_at old k))) → (shorter ≡ 0 → (k : ℕ) → k < n → (key_at old k).order ≡ 3)
      → Listing new n shorter
  kept_listing {n} x d p o = record {
    indexed = x;
    different = rw (kept_keys n) d;
    padded = λ k l. rw (kept_key same k) (p k l);
    only_triples = λ z k l. rw (kept_key same k) (o z k l);
  }

  pub kept_grams : (n : ℕ) → grams_in new n ≡ grams_in old n
  kept_grams n = firsts_same (gram_at old) (gram_at new) n (λ k l. kept_gram same k)

module _ {old new : List ℕ} (same : KeptBelow records_end old new) where
  pub below_grams : (n : ℕ) → n ≤ records_most → grams_in new n ≡ grams_in old n
  below_grams n h = firsts_same (gram_at old) (gram_at new) n (λ k l. below_gram same k (omega arith))

  pub below_listing : {n shorter : ℕ} → Listing old n shorter → Listing new n shorter
  below_listing {n} {shorter} x =
      let few = x.indexed.room.few in
      record {
        indexed = below_indexed same x.indexed;
        different = rw (firsts_same (key_at old) (key_at new) n (λ k l. below_key same k (omega arith))) x.different;
        padded = λ k l. rw (below_key same k (omega arith)) (x.padded k l);
        only_triples = λ z k l. rw (below_key same k (omega arith)) (x.only_triples z k l);
      }
