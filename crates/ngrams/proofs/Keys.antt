-- The test of a record's words, as code goes through it; that words are the same both ways; and the key of some words.
use Prim.Native.Nat.{ℕ, ◌≤◌, min}
use native.Mathlib.Omega.{arith}
use mathlib.Core.Path.{◌≡◌, refl, sym, ap, ◌∙◌}
use mathlib.Core.Bool.{Bool, true, ◌&&◌, and_assoc, false≢true}
use mathlib.Core.List.{List, [], ◌∷◌}
use lib.Dec.{eqb}
use lib.ListN.{length, take, length-take}
use borrow.Author.Tests.{eqb-true, eq-eqb}
use Rattle.laws.specs.Lists.{eq_list}
use Rattle.laws.proofs.Tests.{both, both_of, same_test}
use Rattle.ngrams.specs.declared.Key.{Key}
use Rattle.ngrams.specs.Grams.{key_at, words_of, key_of, same_key, holds}

-- ---- the test of a record

-- its key, compared by `==`
pub holds_is : (index : List ℕ) (key : Key) (k : ℕ) {found : Key} {same : Bool} → found ≡ key_at index k
    → same ≡ (eqb found.first key.first && (eqb found.second key.second && (eqb found.third key.third && eqb found.order key.order))) → holds index key k ≡ same
unfolding holds same_key
holds_is index key k {found} e q =
    ap (same_key key) (sym e)
    ∙ and_assoc (eqb found.first key.first && eqb found.second key.second) (eqb found.third key.third) (eqb found.order key.order)
    ∙ and_assoc (eqb found.first key.first) (eqb found.second key.second) (eqb found.third key.third && eqb found.order key.order)
    ∙ sym q

-- ---- two keys

module _ (a b : Key) where
  -- keys whose words are the same are equal
  pub same_is : same_key a b ≡ true → a ≡ b
  unfolding same_key
  same_is e =
      let o = both (eqb b.first a.first && eqb b.second a.second && eqb b.third a.third) (eqb b.order a.order) e in
      let p = both (eqb b.first a.first && eqb b.second a.second) (eqb b.third a.third) o.0 in
      let q = both (eqb b.first a.first) (eqb b.second a.second) p.0 in
      fields_are (sym (eqb-true b.first a.first q.0)) (sym (eqb-true b.second a.second q.1)) (sym (eqb-true b.third a.third p.1)) (sym (eqb-true b.order a.order o.1))
    where
      fields_are : a.first ≡ b.first → a.second ≡ b.second → a.third ≡ b.third → a.order ≡ b.order → a ≡ b
      fields_are e f g h =
          let r : ◌≡◌ {A = Key} (record { first = a.first; second = a.second; third = a.third; order = a.order }) (record { first = b.first; second = b.second; third = b.third; order = b.order }) = rw (e, f, g, h) in r

pub is_same : (a b : Key) → a ≡ b → same_key a b ≡ true
unfolding same_key
is_same a b e =
    both_of
    (both_of (both_of (eq-eqb b.first a.first (ap (λ (k : Key). k.first) (sym e))) (eq-eqb b.second a.second (ap (λ (k : Key). k.second) (sym e)))) (eq-eqb b.third a.third (ap (λ (k : Key). k.third) (sym e))))
    (eq-eqb b.order a.order (ap (λ (k : Key). k.order) (sym e)))

pub same_sym : (a b : Key) → same_key a b ≡ same_key b a
same_sym a b = same_test (λ e. is_same b a (sym (same_is a b e))) (λ e. is_same a b (sym (same_is b a e)))

-- ---- the key of words

-- its words are they, where they are at most three
pub words_back : (words : List ℕ) → length words ≤ 3 → words_of (key_of words) ≡ words
unfolding words_of key_of
words_back [] l = refl
words_back (a ∷ []) l = refl
words_back (a ∷ b ∷ []) l = refl
words_back (a ∷ b ∷ c ∷ []) l = refl
words_back (a ∷ b ∷ c ∷ d ∷ words) l = absurd (omega arith)

-- so two of them are the same where the words are
pub same_words : (xs ys : List ℕ) → length xs ≤ 3 → length ys ≤ 3 → same_key (key_of xs) (key_of ys) ≡ eq_list eqb ys xs
same_words xs ys l m =
    same_test
    (λ e. is_list ys xs (sym (words_back ys m) ∙ ap words_of (sym (same_is (key_of xs) (key_of ys) e)) ∙ words_back xs l))
    (λ e. is_same (key_of xs) (key_of ys) (ap key_of (sym (list_is ys xs e))))
  where
    list_is : (us vs : List ℕ) → eq_list eqb us vs ≡ true → us ≡ vs
    list_is [] [] e = refl
    list_is [] (v ∷ vs) e = absurd (false≢true e)
    list_is (u ∷ us) [] e = absurd (false≢true e)
    list_is (u ∷ us) (v ∷ vs) e = let h = both (eqb u v) (eq_list eqb us vs) e in rw (eqb-true u v h.0, list_is us vs h.1)

    refl_list : (us : List ℕ) → eq_list eqb us us ≡ true
    refl_list [] = refl
    refl_list (u ∷ us) = both_of (eq-eqb u u refl) (refl_list us)

    is_list : (us vs : List ℕ) → us ≡ vs → eq_list eqb us vs ≡ true
    is_list us vs e = rw e (refl_list vs)

-- a key has at most three words
pub words_few : (key : Key) → length (words_of key) ≤ 3
unfolding words_of
words_few key = let z : length (take key.order (key.first ∷ key.second ∷ key.third ∷ [])) ≡ min key.order 3 = length-take key.order _ in omega arith
