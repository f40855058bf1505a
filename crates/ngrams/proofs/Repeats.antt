-- Questions 6 and 20 of a book's lines are those of their records.
use Prim.Native.Nat.{ℕ, zero, suc, ◌+◌, ◌-◌, ◌≤◌, ◌<◌, min}
use native.Mathlib.Omega.{arith}
use mathlib.Core.Path.{◌≡◌, refl, sym, ap, ap₂, ◌∙◌}
use mathlib.Core.Bool.{◌||◌, Bool, true, false, not, ◌&&◌, false≢true}
use mathlib.Core.List.{List, [], ◌∷◌, map, Memᴰ}
use borrow.Author.Tests.{eqb-true, eq-eqb}
use lib.Dec.{eqb}
use lib.IntN.{ℤ, pos}
use lib.Signed.{le_z}
use lib.ListN.{length, take, drop, length-take, length-drop}
use Rattle.laws.specs.Integers.{eqℤ, nat_of}
use Rattle.laws.specs.Lists.{all, any, keep, count, eq_list, none_twice}
use Rattle.laws.proofs.Tests.{by_test, both, same_test, clash}
use Rattle.laws.proofs.Linear.{signed, num}
use Rattle.laws.proofs.Lists.{keep_mem}
use Rattle.laws.proofs.Order.{yes_≡}
use Rattle.meaning.specs.Questions.{◌unless◌, ◌orelse◌}
use Rattle.meaning.specs.Bounds.{word_most}
use Rattle.meaning.specs.Book.{Form, number_at, is_b, is_p, is_t, is_u, is_d, is_whole, is_in_range, is_lone_word, order_of, is_gram, gram_numbers, is_no_triple_twice, is_no_shorter_twice}
use Rattle.meaning.proofs.Ranges.{GramLine}
use Rattle.ngrams.specs.Grams.{words_of, keys_in, same_key, same_triple, repeat_refusal}
use Rattle.ngrams.proofs.Keys.{same_words, words_few}
use Rattle.ngrams.proofs.Lines.{line_key, gram_lines, words_are, padded_is, keys_are, Copied}

-- ---- none twice

module _ {A B : Type 0} (eq : B → B → Bool) (f : A → B) where
  any_map : (test : B → Bool) (xs : List A) → any test (map f xs) ≡ any (λ x. test (f x)) xs
  any_map test [] = refl
  any_map test (x ∷ xs) = rw (any_map test xs)

  none_map : (xs : List A) → none_twice eq (map f xs) ≡ none_twice (λ x y. eq (f x) (f y)) xs
  none_map [] = refl
  none_map (x ∷ xs) = rw (any_map (eq (f x)) xs, none_map xs)

-- two ways to compare the members of one list
module _ {A : Type 0} (R S : A → A → Bool) where
  any_agree : (x : A) (ys : List A) → ((y : A) → Memᴰ y ys → R x y ≡ S x y) → any (R x) ys ≡ any (S x) ys
  any_agree x [] h = refl
  any_agree x (y ∷ ys) h = ap₂ ◌||◌ (h y (Memᴰ.head refl)) (any_agree x ys (λ z m. h z (Memᴰ.tail m)))

  none_agree : (xs : List A) → ((x y : A) → Memᴰ x xs → Memᴰ y xs → R x y ≡ S x y) → none_twice R xs ≡ none_twice S xs
  none_agree [] h = refl
  none_agree (x ∷ xs) h =
      rw (any_agree x xs (λ y m. h x y (Memᴰ.head refl) (Memᴰ.tail m)), none_agree xs (λ y z m k. h y z (Memᴰ.tail m) (Memᴰ.tail k)))

any_never : {A : Type 0} (test : A → Bool) (xs : List A) → any (λ x. false && test x) xs ≡ false
any_never test [] = refl
any_never test (x ∷ xs) = any_never test xs

-- what is alike passes a test alike
module _ {A : Type 0} (R : A → A → Bool) (p : A → Bool) where
  abbrev Alike : List A → Type 0
  Alike xs = (x y : A) → Memᴰ x xs → Memᴰ y xs → R x y ≡ true → p x ≡ p y

  any_part : (x : A) (ys : List A) → p x ≡ true → ((y : A) → Memᴰ y ys → R x y ≡ true → p x ≡ p y) → any (R x) ys ≡ any (R x) (keep p ys)
  any_part x [] t h = refl
  any_part x (y ∷ ys) t h =
      by_test (p y)
      (λ u. rw (u, any_part x ys t (λ z m. h z (Memᴰ.tail m))))
      (λ u. let n : R x y ≡ false = by_test (R x y) (λ r. absurd (clash (sym (h y (Memᴰ.head refl) r) ∙ t) u)) (λ r. r) in
      rw (u, n, any_part x ys t (λ z m. h z (Memᴰ.tail m))))

  -- those that pass it: none stands twice
  none_part : (xs : List A) → Alike xs → none_twice (λ x y. p x && R x y) xs ≡ none_twice R (keep p xs)
  none_part [] h = refl
  none_part (x ∷ xs) h =
      let rest = none_part xs (λ y z m k. h y z (Memᴰ.tail m) (Memᴰ.tail k)) in
      by_test (p x)
      (λ t. rw (t, rest, any_part x xs t (λ y m. h x y (Memᴰ.head refl) (Memᴰ.tail m))))
      (λ t. rw (t, any_never (R x) xs, rest))

  -- all are those that pass it and those that do not
  none_two : (xs : List A) → none_twice R xs ≡ none_twice (λ x y. p x && R x y) xs && none_twice (λ x y. not (p x) && R x y) xs
  none_two [] = refl
  none_two (x ∷ xs) = by_test (p x) (λ t. rw (t, any_never (R x) xs, none_two xs) (first (any (R x) xs) (none_twice (λ y z. p y && R y z) xs) (none_twice (λ y z. not (p y) && R y z) xs))) (λ t. rw (t, any_never (R x) xs, none_two xs) (second (any (R x) xs) (none_twice (λ y z. p y && R y z) xs) (none_twice (λ y z. not (p y) && R y z) xs)))
    where
      first : (a b c : Bool) → not a && (b && c) ≡ not a && b && c
      first true b c = refl
      first false b c = refl

      second : (a b c : Bool) → not a && (b && c) ≡ b && (not a && c)
      second true true c = refl
      second true false c = refl
      second false b c = refl

module _ {A : Type 0} (R : A → A → Bool) (p : A → Bool) where
  none_split : (xs : List A) → Alike R p xs → none_twice R xs ≡ none_twice R (keep p xs) && none_twice R (keep (λ x. not (p x)) xs)
  none_split xs h = none_two R p xs ∙ ap₂ ◌&&◌ (none_part R p xs h) (none_part R (λ x. not (p x)) xs (λ x y m k r. ap not (h x y m k r)))

-- two tests one after the other
keep_within : {A : Type 0} (q p both_pass : A → Bool) → ((x : A) → both_pass x ≡ q x && p x) → (xs : List A) → keep p (keep q xs) ≡ keep both_pass xs
keep_within q p r h [] = refl
keep_within q p r h (x ∷ xs) =
    by_test (q x)
    (λ t. by_test (p x) (λ u. rw (h x, t, u, keep_within q p r h xs)) (λ u. rw (h x, t, u, keep_within q p r h xs)))
    (λ t. rw (h x, t, keep_within q p r h xs))

-- ---- the kinds by their orders

module _ (line : List ℤ) where
  abbrev Orders : Type 0
  Orders =
      (is_t line ≡ is_gram line && eqb (order_of line) 3)
      × (is_d line ≡ is_gram line && not (eqb (order_of line) 3) && eqb (order_of line) 2)
      × (is_u line ≡ is_gram line && not (eqb (order_of line) 3) && not (eqb (order_of line) 2))

  pub orders : Orders
  unfolding is_gram order_of
  orders =
      by_test (is_b line) (λ b. let k : number_at line 0 ≡ pos 1 = yes_≡ (number_at line 0) (pos 1) b in rw k (refl, refl, refl))
      (λ b. by_test (is_p line) (λ p. let k : number_at line 0 ≡ pos 2 = yes_≡ (number_at line 0) (pos 2) p in rw k (refl, refl, refl))
      (λ p. by_test (is_t line) (λ t. let k : number_at line 0 ≡ pos 3 = yes_≡ (number_at line 0) (pos 3) t in rw k (refl, refl, refl))
      (λ t. by_test (is_u line) (λ u. let k : number_at line 0 ≡ pos 4 = yes_≡ (number_at line 0) (pos 4) u in rw k (refl, refl, refl))
      (λ u. by_test (is_d line) (λ d. let k : number_at line 0 ≡ pos 5 = yes_≡ (number_at line 0) (pos 5) d in rw k (refl, refl, refl))
      (λ d. rw (b, p, t, u, d) (refl, refl, refl))))))

-- ---- the words of two lines

-- numbers that are not negative, compared as naturals
eq_naturals : (xs ys : List ℤ) → all is_lone_word xs ≡ true → all is_lone_word ys ≡ true → eq_list eqb (map nat_of ys) (map nat_of xs) ≡ eq_list eqℤ xs ys
eq_naturals [] [] h k = refl
eq_naturals [] (y ∷ ys) h k = refl
eq_naturals (x ∷ xs) [] h k = refl
eq_naturals (x ∷ xs) (y ∷ ys) h k =
    let a = both (is_lone_word x) (all is_lone_word xs) h in
    let b = both (is_lone_word y) (all is_lone_word ys) k in
    ap₂ ◌&&◌ (one x y a.0 b.0) (eq_naturals xs ys a.1 b.1)
  where
    one : (x y : ℤ) → is_lone_word x ≡ true → is_lone_word y ≡ true → eqb (nat_of y) (nat_of x) ≡ eqℤ x y
    one x y h k =
        let f = (both (le_z (pos 0) x) (le_z x (pos word_most)) h).0 in
        let g = (both (le_z (pos 0) y) (le_z y (pos word_most)) k).0 in
        same_test
        (λ e. let q : nat_of y ≡ nat_of x = eqb-true (nat_of y) (nat_of x) e in omega (arith, signed, num x, num y))
        (λ e. eq-eqb (nat_of y) (nat_of x) (omega (arith, signed, num x, num y)))

-- the words of a line are such
all_lone : (n : ℕ) (line : List ℤ) → ((j : ℕ) → j < n → is_lone_word (number_at line j) ≡ true) → n ≤ length line → all is_lone_word (take n line) ≡ true
all_lone zero line h l = refl
all_lone (suc n) [] h l = absurd (omega arith)
all_lone (suc n) (z ∷ line) h l = rw (h 0 (omega arith), all_lone n line (λ j m. h (suc j) (omega arith)) (omega arith))

module _ {line : List ℤ} (g : GramLine line) where
  numbers_lone : all is_lone_word (gram_numbers line) ≡ true
  numbers_lone = by line g.words g.long
    where
      by : (l : List ℤ) → ((j : ℕ) → j < order_of line → is_lone_word (number_at l (suc j)) ≡ true) → order_of line + 2 ≤ length l → all is_lone_word (take (order_of line) (drop 1 l)) ≡ true
      by [] h m = absurd (omega arith)
      by (z ∷ l) h m = all_lone (order_of line) l h (omega arith)

  numbers_long : length (gram_numbers line) ≡ order_of line
  numbers_long = let l = g.long in let d : length (drop 1 line) ≡ length line - 1 = length-drop 1 line in let t : length (take (order_of line) (drop 1 line)) ≡ min (order_of line) (length (drop 1 line)) = length-take (order_of line) (drop 1 line) in omega arith

keys_agree : (a b : List ℤ) → GramLine a → GramLine b → same_key (line_key a) (line_key b) ≡ eq_list eqℤ (gram_numbers a) (gram_numbers b)
keys_agree a b g h =
    rw (padded_is g, padded_is h)
    (same_words (words_of (line_key a)) (words_of (line_key b)) (words_few (line_key a)) (words_few (line_key b))
    ∙ ap₂ (eq_list eqb) (words_are h) (words_are g)
    ∙ eq_naturals (gram_numbers a) (gram_numbers b) (numbers_lone g) (numbers_lone h))

-- lines that share their words have as many
eq_long : (xs ys : List ℤ) → eq_list eqℤ xs ys ≡ true → length xs ≡ length ys
eq_long [] [] e = refl
eq_long [] (y ∷ ys) e = absurd (false≢true e)
eq_long (x ∷ xs) [] e = absurd (false≢true e)
eq_long (x ∷ xs) (y ∷ ys) e = ap suc (eq_long xs ys (both (eqℤ x y) (eq_list eqℤ xs ys) e).1)

-- ---- the questions

module _ (form : Form) (lines : List (List ℤ)) (whole : all (is_whole form) lines ≡ true) (ranged : all is_in_range lines ≡ true) where
  abbrev grams : List (List ℤ)
  grams = keep is_gram lines

  abbrev shared : List ℤ → List ℤ → Bool
  shared a b = eq_list eqℤ (gram_numbers a) (gram_numbers b)

  abbrev is_three : List ℤ → Bool
  is_three line = eqb (order_of line) 3

  abbrev is_two : List ℤ → Bool
  is_two line = eqb (order_of line) 2

  abbrev shorter : List (List ℤ)
  shorter = keep (λ line. not (is_three line)) grams

  line_is : (line : List ℤ) → Memᴰ line grams → GramLine line
  line_is = gram_lines form lines whole ranged

  same_order : (a b : List ℤ) → Memᴰ a grams → Memᴰ b grams → shared a b ≡ true → order_of a ≡ order_of b
  same_order a b m k r = sym (numbers_long (line_is a m)) ∙ eq_long (gram_numbers a) (gram_numbers b) r ∙ numbers_long (line_is b k)

  threes : keep is_three grams ≡ keep is_t lines
  threes = keep_within is_gram is_three is_t (λ line. (orders line).0) lines

  shorter_are : shorter ≡ keep (λ line. is_gram line && not (is_three line)) lines
  shorter_are = keep_within is_gram (λ line. not (is_three line)) (λ line. is_gram line && not (is_three line)) (λ line. refl) lines

  twos : keep is_two shorter ≡ keep is_d lines
  twos = ap (keep is_two) shorter_are ∙ keep_within (λ line. is_gram line && not (is_three line)) is_two is_d (λ line. (orders line).1) lines

  ones : keep (λ line. not (is_two line)) shorter ≡ keep is_u lines
  ones = ap (keep (λ line. not (is_two line))) shorter_are ∙ keep_within (λ line. is_gram line && not (is_three line)) (λ line. not (is_two line)) is_u (λ line. (orders line).2) lines

  -- none of a kind shares its words
  of_kind : (xs : List (List ℤ)) → none_twice shared xs ≡ none_twice (eq_list eqℤ) (map gram_numbers xs)
  of_kind xs = sym (none_map (eq_list eqℤ) gram_numbers xs)

  triples_differ : none_twice same_triple (map line_key grams) ≡ is_no_triple_twice lines
  unfolding is_no_triple_twice
  triples_differ =
      none_map same_triple line_key grams
      ∙ none_agree (λ a b. same_triple (line_key a) (line_key b)) (λ a b. is_three a && shared a b) grams (λ a b m k. ap (λ (t : Bool). is_three a && t) (keys_agree a b (line_is a m) (line_is b k)))
      ∙ none_part shared is_three grams (λ a b m k r. ap (λ (n : ℕ). eqb n 3) (same_order a b m k r))
      ∙ ap (none_twice shared) threes
      ∙ of_kind (keep is_t lines)

  keys_differ : none_twice same_key (map line_key grams) ≡ is_no_triple_twice lines && is_no_shorter_twice lines
  unfolding is_no_triple_twice is_no_shorter_twice
  keys_differ =
      none_map same_key line_key grams
      ∙ none_agree (λ a b. same_key (line_key a) (line_key b)) shared grams (λ a b m k. keys_agree a b (line_is a m) (line_is b k))
      ∙ none_split shared is_three grams (λ a b m k r. ap (λ (n : ℕ). eqb n 3) (same_order a b m k r))
      ∙ ap₂ ◌&&◌ (ap (none_twice shared) threes ∙ of_kind (keep is_t lines))
      (none_split shared is_two shorter (λ a b m k r. ap (λ (n : ℕ). eqb n 2) (same_order a b (inner m) (inner k) r))
      ∙ ap₂ ◌&&◌ (ap (none_twice shared) twos ∙ of_kind (keep is_d lines)) (ap (none_twice shared) ones ∙ of_kind (keep is_u lines)))
    where
      inner : {line : List ℤ} → Memᴰ line shorter → Memᴰ line grams
      inner m = (keep_mem (λ line. not (is_three line)) grams m).0

  module _ (index : List ℕ) (c : Copied index grams) where
    -- where neither refuses, no two records have the same words
    pub none_alike : is_no_triple_twice lines ≡ true → is_no_shorter_twice lines ≡ true → none_twice same_key (keys_in index (count is_gram lines)) ≡ true
    none_alike a b = ap (none_twice same_key) (keys_are form index lines c) ∙ keys_differ ∙ rw (a, b)

    pub answers : repeat_refusal index (count is_gram lines) ≡ (6 unless is_no_triple_twice lines orelse 20 unless is_no_shorter_twice lines)
    unfolding repeat_refusal
    answers = rw (keys_are form index lines c, triples_differ, keys_differ) (by (is_no_triple_twice lines) (is_no_shorter_twice lines))
      where
        by : (a b : Bool) → (6 unless a orelse 20 unless (a && b)) ≡ (6 unless a orelse 20 unless b)
        by true b = refl
        by false b = refl
