-- The records of a book's lines, and the n-grams that they state.
use Prim.Native.Nat.{ℕ, zero, suc, ◌+◌, ◌%◌, ◌≤◌, ◌<◌}
use native.Mathlib.Omega.{arith}
use mathlib.Core.Path.{◌≡◌, refl, sym, ◌∙◌}
use mathlib.Core.Bool.{true, cond}
use mathlib.Core.List.{List, [], ◌∷◌, map, Memᴰ}
use lib.Dec.{leb}
use lib.IntN.{ℤ, pos, neg_ℤ}
use lib.Signed.{le_z}
use lib.ListN.{length, get_or, take, length-map, get_or-map}
use lib.Seq.{ext_get_or}
use Rattle.laws.specs.Integers.{Within, nat_of}
use Rattle.laws.specs.Lists.{all, keep, count}
use Rattle.laws.proofs.Tests.{both}
use Rattle.laws.proofs.Linear.{signed, num}
use Rattle.laws.proofs.Lists.{all_mem, get_d_mem, keep_mem, keep_length}
use Rattle.meaning.specs.Bounds.{word_most, word_span, score_most}
use Rattle.meaning.specs.Book.{Form, number_at, is_whole, is_in_range, is_lone_word, is_score, order_of, is_gram, gram_of, words_at}
use Rattle.meaning.proofs.Ranges.{GramLine, gram_line}
use Rattle.halves.specs.Halves.{sign_shift}
use Rattle.halves.proofs.Halves.{signed_is}
use Rattle.ngrams.specs.declared.Key.{Key}
use Rattle.ngrams.specs.Parts.{record_size, record_at}
use Rattle.ngrams.specs.Grams.{record_of, word_or0, key_at, score_at, weight_at, words_of, key_of, gram_at, firsts, keys_in, grams_in}
use Rattle.ngrams.proofs.Differ.{firsts_length, firsts_at}

-- ---- a line that is whole and in range

-- such are all lines of n-grams of a book that passed 2 and 4
pub gram_lines : (form : Form) (lines : List (List ℤ)) → all (is_whole form) lines ≡ true → all is_in_range lines ≡ true → (line : List ℤ) → Memᴰ line (keep is_gram lines) → GramLine line
gram_lines form lines whole ranged line m =
    let k = keep_mem is_gram lines m in
    gram_line form line k.1 (all_mem (is_whole form) lines whole line k.0) (all_mem is_in_range lines ranged line k.0)

-- a word fits a record, and a score does
narrow_is : (z : ℤ) → is_lone_word z ≡ true → nat_of z % word_span ≡ nat_of z
narrow_is z e =
    let h = both (le_z (pos 0) z) (le_z z (pos word_most)) e in
    let f = h.0 in
    let t = h.1 in
    omega (arith, signed, num z)

small : (z : ℤ) → is_score z ≡ true → Within sign_shift z
small z e =
    let h = both (le_z (neg_ℤ (pos score_most)) z) (le_z z (pos score_most)) e in
    let f = h.0 in
    let t = h.1 in
    omega (arith, signed, num z)

-- ---- its words

-- the words of a line, and how many they are
abbrev pub line_key : List ℤ → Key
line_key line = record { first = word_or0 line (order_of line) 1; second = word_or0 line (order_of line) 2; third = word_or0 line (order_of line) 3; order = order_of line }

line_words : (n : ℕ) (line : List ℤ) → 1 ≤ n → n ≤ 3 → n + 2 ≤ length line → ((j : ℕ) → j < n → is_lone_word (number_at line (suc j)) ≡ true)
    → take n (word_or0 line n 1 ∷ word_or0 line n 2 ∷ word_or0 line n 3 ∷ []) ≡ words_at line 1 n
unfolding word_or0
line_words zero line f t l w = absurd (omega arith)
line_words (suc n) [] f t l w = absurd (omega arith)
line_words (suc n) (z ∷ []) f t l w = absurd (omega arith)
line_words (suc n) (z ∷ a ∷ []) f t l w = absurd (omega arith)
line_words (suc zero) (z ∷ a ∷ b ∷ line) f t l w = rw (narrow_is a (w 0 (omega arith)))
line_words (suc (suc n)) (z ∷ a ∷ b ∷ []) f t l w = absurd (omega arith)
line_words (suc (suc zero)) (z ∷ a ∷ b ∷ c ∷ line) f t l w = rw (narrow_is a (w 0 (omega arith)), narrow_is b (w 1 (omega arith)))
line_words (suc (suc (suc zero))) (z ∷ a ∷ b ∷ c ∷ line) f t l w = rw (narrow_is a (w 0 (omega arith)), narrow_is b (w 1 (omega arith)), narrow_is c (w 2 (omega arith)))
line_words (suc (suc (suc (suc n)))) (z ∷ a ∷ b ∷ c ∷ line) f t l w = absurd (omega arith)

-- words that are not there are 0
line_padded : (n a b c : ℕ) → 1 ≤ n → n ≤ 3
    → ◌≡◌ {A = Key} (record { first = cond (leb 1 n) a 0; second = cond (leb 2 n) b 0; third = cond (leb 3 n) c 0; order = n }) (key_of (take n (cond (leb 1 n) a 0 ∷ cond (leb 2 n) b 0 ∷ cond (leb 3 n) c 0 ∷ [])))
unfolding key_of
line_padded zero a b c f t = absurd (omega arith)
line_padded (suc zero) a b c f t = refl
line_padded (suc (suc zero)) a b c f t = refl
line_padded (suc (suc (suc zero))) a b c f t = refl
line_padded (suc (suc (suc (suc n)))) a b c f t = absurd (omega arith)

module _ {line : List ℤ} (g : GramLine line) where
  pub words_are : words_of (line_key line) ≡ words_at line 1 (order_of line)
  unfolding words_of
  words_are = line_words (order_of line) line g.order_from g.order_to g.long g.words

  pub padded_is : line_key line ≡ key_of (words_of (line_key line))
  unfolding words_of word_or0
  padded_is = line_padded (order_of line) _ _ _ g.order_from g.order_to

-- ---- the lines' numbers in the list

-- record k is that of line k
pub record Copied (index : List ℕ) (lines : List (List ℤ)) : Type 0 where
  pub at : (k f : ℕ) → k < length lines → f < record_size → get_or index (record_at k + f) 0 ≡ get_or (record_of (get_or lines k [])) f 0

module _ {index : List ℕ} {lines : List (List ℤ)} (c : Copied index lines) where
  pub copied_key : (k : ℕ) → k < length lines → key_at index k ≡ line_key (get_or lines k [])
  unfolding key_at record_of
  copied_key k l =
      let z : record_at k + 0 ≡ record_at k = omega arith in
      let e0 : get_or index (record_at k) 0 ≡ word_or0 (get_or lines k []) (order_of (get_or lines k [])) 1 = rw z at (c.at k 0 l (omega arith)) in
      rw (e0, c.at k 1 l (omega arith), c.at k 2 l (omega arith), c.at k 3 l (omega arith))

  copied_score : (k : ℕ) → k < length lines → GramLine (get_or lines k []) → score_at index k ≡ number_at (get_or lines k []) (1 + order_of (get_or lines k []))
  unfolding record_of
  copied_score k l g =
      let z : record_at k + 4 + 1 ≡ record_at k + 5 = omega arith in
      let n : order_of (get_or lines k []) + 1 ≡ 1 + order_of (get_or lines k []) = omega arith in
      signed_is index (record_at k + 4) _ (small _ g.score) (rw n at (c.at k 4 l (omega arith))) (rw z (rw n at (c.at k 5 l (omega arith))))

  copied_weight : (k : ℕ) → k < length lines → GramLine (get_or lines k []) → weight_at index k ≡ number_at (get_or lines k []) (2 + order_of (get_or lines k []))
  unfolding record_of
  copied_weight k l g =
      let z : record_at k + 6 + 1 ≡ record_at k + 7 = omega arith in
      let n : order_of (get_or lines k []) + 2 ≡ 2 + order_of (get_or lines k []) = omega arith in
      signed_is index (record_at k + 6) _ (small _ g.weight) (rw n at (c.at k 6 l (omega arith))) (rw z (rw n at (c.at k 7 l (omega arith))))

  copied_gram : (k : ℕ) → k < length lines → GramLine (get_or lines k []) → gram_at index k ≡ gram_of (get_or lines k [])
  unfolding gram_at gram_of
  copied_gram k l g = rw (copied_key k l, copied_score k l g, copied_weight k l g, words_are g)

  -- the records one by one, by what each is
  firsts_copied : {A : Type 0} (f : ℕ → A) (g : List ℤ → A) → ((k : ℕ) → k < length lines → f k ≡ g (get_or lines k [])) → firsts f (length lines) ≡ map g lines
  firsts_copied f g h =
      ext_get_or (g []) (firsts f (length lines)) (map g lines)
      (firsts_length f (length lines) ∙ sym (length-map lines g))
      (λ k l. let m : k < length lines = omega (arith, firsts_length f (length lines)) in
      firsts_at f (length lines) k (g []) m ∙ h k m ∙ sym (get_or-map g lines k []))

-- the words and the n-grams of the book's lines
module _ (form : Form) (index : List ℕ) (lines : List (List ℤ)) (c : Copied index (keep is_gram lines)) where
  pub keys_are : keys_in index (count is_gram lines) ≡ map line_key (keep is_gram lines)
  keys_are = rw (← (keep_length is_gram lines)) (firsts_copied c (key_at index) line_key (copied_key c))

  module _ (whole : all (is_whole form) lines ≡ true) (ranged : all is_in_range lines ≡ true) where
    nth : (k : ℕ) → k < length (keep is_gram lines) → GramLine (get_or (keep is_gram lines) k [])
    nth k l = gram_lines form lines whole ranged (get_or (keep is_gram lines) k []) (get_d_mem (keep is_gram lines) k [] l)

    pub grams_are : grams_in index (count is_gram lines) ≡ map gram_of (keep is_gram lines)
    grams_are = rw (← (keep_length is_gram lines)) (firsts_copied c (gram_at index) gram_of (λ k l. copied_gram c k l (nth k l)))

    pub keys_padded : (k : ℕ) → k < count is_gram lines → key_at index k ≡ key_of (words_of (key_at index k))
    keys_padded k l = let m : k < length (keep is_gram lines) = omega (arith, keep_length is_gram lines) in rw (copied_key c k m) (padded_is (nth k m))
