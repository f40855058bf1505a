-- What a search for some words finds is what the list of the n-grams gives for them.
use Prim.Native.Nat.{ℕ, zero, suc, ◌*◌, ◌-◌, ◌≤◌, ◌<◌}
use native.Mathlib.Omega.{arith}
use mathlib.Core.Path.{◌≡◌, refl, sym, ap, ◌∙◌}
use mathlib.Core.Bool.{true, false}
use mathlib.Core.List.{List, [], ◌∷◌, drop_last, Memᴰ}
use lib.Dec.{eqb}
use lib.IntN.{ℤ, pos, ◌+ℤ◌}
use Rattle.std.proofs.Common.{Option, Some, is_some, option_map, unwrap_or}
use Rattle.std.proofs.lemmas.Option.{none-some, same_Some}
use lib.ListN.{length, get_or, drop, length-drop}
use Rattle.laws.specs.Index.{latest}
use Rattle.laws.specs.Lists.{eq_list}
use Rattle.laws.proofs.Index.{latest_at, latest_le, latest_lt, latest_none}
use Rattle.laws.proofs.Tests.{by_test, clash, is_false}
use Rattle.laws.specs.Integers.{Within}
use Rattle.laws.proofs.Bounds.{within_+, within_mono}
use Rattle.laws.proofs.Linear.{signed, sum}
use Rattle.meaning.specs.Bounds.{score_most}
use Rattle.meaning.proofs.Bounds.{score_or_lem, weight_within, word_within}
use Rattle.meaning.specs.Book.{Gram}
use Rattle.meaning.specs.Derivation.{listed, score_or, weight, word_score, pair_score, is_listed}
use Rattle.meaning.proofs.Judging.{zero_one, listed_else, else_unlisted}
use Rattle.ngrams.specs.declared.Key.{Key}
use Rattle.ngrams.specs.Parts.{record_named}
use Rattle.ngrams.specs.Grams.{key_at, words_of, key_of, gram_at, grams_in, same_key, holds, latest_with, Listing}
use Rattle.ngrams.proofs.Keys.{same_is, is_same, same_words, words_back, words_few}
use Rattle.ngrams.proofs.Differ.{firsts_length, firsts_at, is_different}
use Rattle.language.specs.Language.{latest_score, latest_weight, unlisted_score, Shortens}

-- ---- the result of a search

-- it is one of the first n records
pub found_lt : (index : List ℕ) (n : ℕ) (key : Key) {k : ℕ} → Some k ≡ latest_with index key n → k < n
unfolding latest_with
found_lt index n key {k} e = by (latest (holds index key) n) e (latest_le (holds index key) n)
  where
    by : (at : ℕ) → Some k ≡ record_named at → at ≤ n → k < n
    by zero q l = absurd (none-some k (sym q))
    by (suc j) q l = let h = same_Some k j q in omega arith

-- ---- what a list of n-grams gives

module _ (number : Gram → ℤ) (other : ℤ) (words : List ℕ) where
  listed_none : (gs : List Gram) (d : Gram) → ((k : ℕ) → k < length gs → eq_list eqb (get_or gs k d).words words ≡ false) → listed number other words gs ≡ other
  listed_none [] d h = refl
  listed_none (g ∷ gs) d h = rw (h 0 (omega arith)) (listed_none gs d (λ k l. h (suc k) (omega arith)))

  listed_first : (gs : List Gram) (d : Gram) (k : ℕ) → k < length gs → eq_list eqb (get_or gs k d).words words ≡ true → ((j : ℕ) → j < k → eq_list eqb (get_or gs j d).words words ≡ false)
      → listed number other words gs ≡ number (get_or gs k d)
  listed_first [] d k l t h = absurd (omega arith)
  listed_first (x ∷ gs) d zero l t h = rw t
  listed_first (x ∷ gs) d (suc k) l t h = rw (h 0 (omega arith)) (listed_first gs d k (omega arith) t (λ j m. h (suc j) (omega arith)))

-- ---- the records as n-grams

module _ {index : List ℕ} {n shorter : ℕ} (x : Listing index n shorter) where
  gram_at_lem : (k : ℕ) → k < n → get_or (grams_in index n) k (gram_at index 0) ≡ gram_at index k
  gram_at_lem k l = firsts_at (gram_at index) n k (gram_at index 0) l

  -- record k has the words where its n-gram has
  gram_holds : (words : List ℕ) → length words ≤ 3 → (k : ℕ) → k < n → eq_list eqb (get_or (grams_in index n) k (gram_at index 0)).words words ≡ holds index (key_of words) k
  unfolding holds gram_at
  gram_holds words few k l =
      ap (λ (g : Gram). eq_list eqb g.words words) (gram_at_lem k l)
      ∙ sym (same_words words (words_of (key_at index k)) few (words_few (key_at index k)))
      ∙ ap (same_key (key_of words)) (sym (x.padded k l))

  module _ (number : Gram → ℤ) (other : ℤ) (words : List ℕ) (few : length words ≤ 3) where
    abbrev sought : ℕ → ℕ
    sought m = latest (holds index (key_of words)) m

    -- none is found
    none_listed : sought n ≡ 0 → listed number other words (grams_in index n) ≡ other
    none_listed e =
        listed_none number other words (grams_in index n) (gram_at index 0)
        (λ k l. let lt : k < n = omega (arith, firsts_length (gram_at index) n) in gram_holds words few k lt ∙ latest_none (holds index (key_of words)) n e k lt)

    -- record k is found: no two have the same words, so none before it has them
    some_listed : (k : ℕ) → sought n ≡ suc k → listed number other words (grams_in index n) ≡ number (gram_at index k)
    unfolding holds
    some_listed k e =
        let lt : k < n = latest_lt (holds index (key_of words)) n k e in
        let t : holds index (key_of words) k ≡ true = latest_at (holds index (key_of words)) n k e in
        let first : (j : ℕ) → j < k → holds index (key_of words) j ≡ false = (λ j l.
        is_false (λ u. clash (is_same (key_at index j) (key_at index k) (sym (same_is (key_of words) (key_at index j) u) ∙ same_is (key_of words) (key_at index k) t)) (is_different index n x.different j k l lt))) in
        listed_first number other words (grams_in index n) (gram_at index 0) k (omega (arith, firsts_length (gram_at index) n))
        (gram_holds words few k lt ∙ t)
        (λ j l. gram_holds words few j (omega arith) ∙ first j l)
        ∙ ap number (gram_at_lem k lt)

    found_listed : unwrap_or (option_map (λ k. number (gram_at index k)) (latest_with index (key_of words) n)) other ≡ listed number other words (grams_in index n)
    unfolding latest_with
    found_listed = by (sought n) refl
      where
        by : (at : ℕ) → sought n ≡ at → unwrap_or (option_map (λ k. number (gram_at index k)) (record_named at)) other ≡ listed number other words (grams_in index n)
        by zero e = sym (none_listed e)
        by (suc k) e = sym (some_listed k e)

  -- the weight that is found
  pub weight_listed : (words : List ℕ) → length words ≤ 3 → latest_weight index n (key_of words) ≡ weight (grams_in index n) words
  unfolding latest_weight gram_at
  weight_listed words few = found_listed (λ g. g.k) (pos 0) words few

  -- the score that is found, or the other where none is
  pub score_listed : (words : List ℕ) → length words ≤ 3 → (other : ℤ) (score : Option ℤ) → score ≡ latest_score index n (key_of words) → unwrap_or score other ≡ score_or (grams_in index n) other words
  unfolding latest_score gram_at
  score_listed words few other score e = ap (λ (o : Option ℤ). unwrap_or o other) e ∙ found_listed (λ g. g.s) other words few

  -- the words are listed exactly where a search finds them
  module _ (words : List ℕ) (few : length words ≤ 3) where
    missed : latest (holds index (key_of words)) n ≡ 0 → is_listed (grams_in index n) words ≡ false
    missed e = else_unlisted (λ g. g.s) words (grams_in index n) (λ other. none_listed (λ g. g.s) other words few e)

    met : (latest (holds index (key_of words)) n ≡ 0 → ⊥) → is_listed (grams_in index n) words ≡ true
    met d =
        by_test (is_listed (grams_in index n) words) (λ t. t)
        (λ f. absurd (zero_one (sym (at (pos 0) f) ∙ at (pos 1) f)))
      where
        k : ℕ
        k = latest (holds index (key_of words)) n - 1

        at : (other : ℤ) → is_listed (grams_in index n) words ≡ false → (gram_at index k).s ≡ other
        at other f = sym (some_listed (λ g. g.s) other words few k (omega (arith, d))) ∙ listed_else (λ g. g.s) words other (grams_in index n) f

    pub some_is : is_some (latest_with index (key_of words) n) ≡ is_listed (grams_in index n) words
    unfolding latest_with
    some_is = by (latest (holds index (key_of words)) n) refl
      where
        by : (at : ℕ) → latest (holds index (key_of words)) n ≡ at → is_some (record_named at) ≡ is_listed (grams_in index n) words
        by zero e = sym (missed e)
        by (suc k) e = sym (met (λ z. omega (arith, e, z)))

  -- ---- only triples are listed

  module _ (only : shorter ≡ 0) where
    -- so no shorter words are
    unlisted : (number : Gram → ℤ) (other : ℤ) (words : List ℕ) → length words ≤ 2 → listed number other words (grams_in index n) ≡ other
    unfolding key_of holds
    unlisted number other words few =
        listed_none number other words (grams_in index n) (gram_at index 0)
        (λ k l. let lt : k < n = omega (arith, firsts_length (gram_at index) n) in
        gram_holds words (omega arith) k lt ∙ is_false (λ t. let o = x.only_triples only k lt in let e = same_is (key_of words) (key_at index k) t in shorter_than words few (ap (λ (key : Key). key.order) e ∙ o)))
      where
        shorter_than : (ws : List ℕ) → length ws ≤ 2 → (key_of ws).order ≡ 3 → ⊥
        shorter_than ws l e = omega arith

    pub backs_to_u : (u : ℤ) (v w y : ℕ) → weight (grams_in index n) (v ∷ w ∷ []) +ℤ pair_score u (grams_in index n) w y ≡ u
    unfolding word_score pair_score
    backs_to_u u v w y =
        rw (unlisted (λ g. g.k) (pos 0) (v ∷ w ∷ []) (omega arith), unlisted (λ g. g.s) (weight (grams_in index n) (w ∷ []) +ℤ score_or (grams_in index n) u (y ∷ [])) (w ∷ y ∷ []) (omega arith), unlisted (λ g. g.k) (pos 0) (w ∷ []) (omega arith), unlisted (λ g. g.s) u (y ∷ []) (omega arith))
        (omega (arith, signed, sum (pos 0) u, sum (pos 0) (pos 0 +ℤ u)))

-- ---- shorter keys

-- its order is how many words it has
pub as_many : {key : Key} → key ≡ key_of (words_of key) → key.order ≡ length (words_of key)
unfolding key_of
as_many e = ap (λ (k : Key). k.order) e

-- the key of some words has these words
module _ {key : Key} (ws : List ℕ) (few : length ws ≤ 3) (e : key ≡ key_of ws) where
  pub key_words : words_of key ≡ ws
  key_words = ap words_of e ∙ words_back ws few

  pub key_padded : key ≡ key_of (words_of key)
  key_padded = e ∙ ap key_of (sym key_words)

  pub key_shortens : 2 ≤ length ws → Shortens key
  key_shortens h = record { padded = key_padded; some = omega (arith, as_many key_padded, ap length key_words) }

-- one word less
pub drop_last_long : (ws : List ℕ) → length (drop_last ws) ≤ length ws
drop_last_long [] = omega arith
drop_last_long (x ∷ []) = omega arith
drop_last_long (x ∷ y ∷ ws) = let h = drop_last_long (y ∷ ws) in omega arith

-- the words of a key that can be shortened are two or three
module _ {key : Key} (x : Shortens key) where
  pub words_some : 2 ≤ length (words_of key)
  words_some = let s = x.some in omega (arith, as_many x.padded)

  three : (key.order ≡ 2 → ⊥) → key.order ≡ 3
  three n = let s = x.some in omega (arith, n, as_many x.padded, words_few key)

  -- those of a pair
  pub pair_history : key.order ≡ 2 → key_of (key.first ∷ []) ≡ key_of (drop_last (words_of key))
  unfolding words_of
  pair_history e = rw e

  pub pair_rest : key.order ≡ 2 → key_of (key.second ∷ []) ≡ key_of (drop 1 (words_of key))
  unfolding words_of
  pair_rest e = rw e

  -- and of a triple
  pub triple_history : (key.order ≡ 2 → ⊥) → key_of (key.first ∷ key.second ∷ []) ≡ key_of (drop_last (words_of key))
  unfolding words_of
  triple_history n = rw (three n)

  pub triple_rest : (key.order ≡ 2 → ⊥) → key_of (key.second ∷ key.third ∷ []) ≡ key_of (drop 1 (words_of key))
  unfolding words_of
  triple_rest n = rw (three n)

-- ---- one word less

module _ (u : ℤ) (grams : List Gram) where
  -- a word that is not listed
  pub unlisted_word : (ws : List ℕ) → length ws ≤ 1 → unlisted_score u grams ws ≡ u
  unfolding unlisted_score
  unlisted_word [] l = refl
  unlisted_word (y ∷ []) l = refl
  unlisted_word (w ∷ y ∷ ws) l = absurd (omega arith)

  -- a pair or a triple
  pub unlisted_more : (ws : List ℕ) → 2 ≤ length ws → length ws ≤ 3 → weight grams (drop_last ws) +ℤ score_or grams (unlisted_score u grams (drop 1 ws)) (drop 1 ws) ≡ unlisted_score u grams ws
  unfolding unlisted_score pair_score word_score
  unlisted_more [] a b = absurd (omega arith)
  unlisted_more (y ∷ []) a b = absurd (omega arith)
  unlisted_more (w ∷ y ∷ []) a b = refl
  unlisted_more (v ∷ w ∷ y ∷ []) a b = refl
  unlisted_more (p ∷ q ∷ r ∷ s ∷ ws) a b = absurd (omega arith)

  pub unlisted_triple : (v w y : ℕ) → unlisted_score u grams (v ∷ w ∷ y ∷ []) ≡ weight grams (v ∷ w ∷ []) +ℤ pair_score u grams w y
  unfolding unlisted_score
  unlisted_triple v w y = refl

  module _ (unseen_within : Within score_most u) (gram_within : (g : Gram) → Memᴰ g grams → Within score_most g.s × Within score_most g.k) where
    -- what is added to a weight
    unlisted_within : (ws : List ℕ) → length ws ≤ 2 → Within (2 * score_most) (unlisted_score u grams ws)
    unfolding unlisted_score
    unlisted_within [] l = within_mono (omega arith) unseen_within
    unlisted_within (y ∷ []) l = within_mono (omega arith) unseen_within
    unlisted_within (w ∷ y ∷ []) l = within_mono (omega arith) (within_+ (weight_within u grams unseen_within gram_within (w ∷ [])) (word_within u grams unseen_within gram_within y))
    unlisted_within (p ∷ q ∷ r ∷ ws) l = absurd (omega arith)

    pub rest_within : (ws : List ℕ) → length ws ≤ 3 → Within (2 * score_most) (score_or grams (unlisted_score u grams (drop 1 ws)) (drop 1 ws))
    rest_within ws l = score_or_lem u grams unseen_within gram_within (2 * score_most) _ (drop 1 ws) (omega arith) (unlisted_within (drop 1 ws) (omega (arith, length-drop 1 ws)))
