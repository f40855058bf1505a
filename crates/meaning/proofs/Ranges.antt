-- What a book that 2 to 6 pass holds: its numbers are in their ranges, and a P line has its words and its score where they should be.
use Prim.Native.Nat.{ℕ, zero, suc, ◌+◌, ◌-◌, ◌≤◌, ◌<◌}
use native.Mathlib.Omega.{arith}
use mathlib.Core.Path.{◌≡◌, sym, ◌∙◌, subst}
use mathlib.Core.Logic.{◌⊎◌, inl, inr, ⊎_elim}
use mathlib.Core.Bool.{true, not, cond, ◌&&◌, true≢false, false≢true}
use mathlib.Core.List.Memᴰ
use mathlib.Core.List.{List, [], ◌∷◌, map, drop_last, Memᴰ}
use borrow.Author.Tests.{eqb-true, ltb-true, ltb-false}
use lib.Dec.{ltb}
use lib.IntN.{ℤ, pos, negsuc}
use lib.Signed.{le_z}
use lib.ListN.{length, get_or, take, drop, length-take, length-drop, length-map, get_or-eq_default}
use Rattle.laws.specs.Integers.{Within, eqℤ, nat_of}
use Rattle.laws.specs.Lists.{all, keep, is_empty}
use Rattle.laws.proofs.Tests.{by_test, both, both_of}
use Rattle.laws.proofs.Linear.{signed, num}
use Rattle.laws.proofs.Order.{yes_≡}
use Rattle.laws.proofs.Lists.{all_mem, keep_mem, get_d_mem}
use Rattle.meaning.specs.Questions.{◌unless◌, withinℤ}
use Rattle.meaning.specs.Bounds.{word_most, score_most, penalty_most}
use Rattle.meaning.specs.Book.{Form, in_list, number_at, natural_at, is_b, is_p, is_t, is_u, is_d, is_phrase_length, size_of, is_whole, is_one_bFirst, is_score, is_phrase_word, is_history_word, is_last_word, is_lone_word, is_weight, ranges_b, ranges_p, ranges_t, ranges_u, ranges_d, is_in_range, is_not_too_long, is_counted, is_no_triple_twice, is_no_shorter_twice, lines_refusal, book_refusal, loaded_lines, words_at, Entry, Gram, Book, entry_of, order_of, is_gram, gram_of, book_of_lines, book_of}
use Rattle.meaning.specs.Derivation.{no_entry, entry_at}
use Rattle.meaning.proofs.Chains.{first_passes, rest_passes, test_passes}

-- ════ the tests that passed

pub record Passed (form : Form) (lines : List (List ℤ)) : Type 0 where
  pub whole : all (is_whole form) lines ≡ true
  pub one_b : is_one_bFirst lines ≡ true
  pub ranged : all is_in_range lines ≡ true
  pub short : is_not_too_long lines ≡ true
  pub counted : is_counted form lines ≡ true
  pub no_triple_twice : is_no_triple_twice lines ≡ true
  pub no_shorter_twice : is_no_shorter_twice lines ≡ true

pub lines_passed : (form : Form) (lines : List (List ℤ)) → lines_refusal form lines ≡ 0 → Passed form lines
unfolding lines_refusal
lines_passed form lines e =
    let after2 = rest_passes (2 unless all (is_whole form) lines) _ e in
    let after3 = rest_passes (3 unless is_one_bFirst lines) _ after2 in
    let after4 = rest_passes (4 unless all is_in_range lines) _ after3 in
    let after5 = rest_passes (5 unless is_not_too_long lines) _ after4 in
    let after21 = rest_passes (21 unless is_counted form lines) _ after5 in
    let after6 = rest_passes (6 unless is_no_triple_twice lines) _ after21 in
    record {
      whole = test_passes 1 _ (first_passes (2 unless all (is_whole form) lines) _ e);
      one_b = test_passes 2 _ (first_passes (3 unless is_one_bFirst lines) _ after2);
      ranged = test_passes 3 _ (first_passes (4 unless all is_in_range lines) _ after3);
      short = test_passes 4 _ (first_passes (5 unless is_not_too_long lines) _ after4);
      counted = test_passes 20 _ (first_passes (21 unless is_counted form lines) _ after5);
      no_triple_twice = test_passes 5 _ (first_passes (6 unless is_no_triple_twice lines) _ after21);
      no_shorter_twice = test_passes 19 _ after6;
    }

-- and back
pub passed_lines : (form : Form) (lines : List (List ℤ)) → Passed form lines → lines_refusal form lines ≡ 0
unfolding lines_refusal
passed_lines form lines p = rw (p.whole, p.one_b, p.ranged, p.short, p.counted, p.no_triple_twice, p.no_shorter_twice)

-- ════ ranges of numbers

score_within : (z : ℤ) → is_score z ≡ true → Within score_most z
score_within z e = let h = both (le_z (negsuc 999_999) z) (le_z z (pos 1_000_000)) e in let a = h.0 in let b = h.1 in omega (arith, signed, num z)

eta_range : (z : ℤ) → withinℤ (negsuc 9_999) (pos 10_000) z ≡ true → Within penalty_most z
eta_range z e = let h = both (le_z (negsuc 9_999) z) (le_z z (pos 10_000)) e in let a = h.0 in let b = h.1 in omega (arith, signed, num z)

nat_high : (z : ℤ) (n : ℕ) → le_z z (pos n) ≡ true → nat_of z ≤ n
nat_high (pos m) n e = omega (arith, signed)
nat_high (negsuc m) n e = omega arith

nat_low : (z : ℤ) (n : ℕ) → le_z (pos n) z ≡ true → n ≤ nat_of z
nat_low (pos m) n e = omega (arith, signed)
nat_low (negsuc m) n e = absurd (false≢true e)

-- ════ a B line, a P line, a line of an n-gram

pub kind_is : (line : List ℤ) (k : ℕ) → eqℤ (number_at line 0) (pos k) ≡ true → number_at line 0 ≡ pos k
kind_is line k e = yes_≡ (number_at line 0) (pos k) e

pub record BLine (line : List ℤ) : Type 0 where
  pub limit_to : natural_at line 1 ≤ 32
  pub eta_within : Within penalty_most (number_at line 2)
  pub unseen_within : Within score_most (number_at line 3)

pub b_line : (line : List ℤ) → is_b line ≡ true → is_in_range line ≡ true → BLine line
unfolding is_in_range
b_line line b e =
    let r : ranges_b line ≡ true = rw b at e in
    let h = both (withinℤ (pos 0) (pos 32) (number_at line 1) && withinℤ (negsuc 9_999) (pos 10_000) (number_at line 2)) (is_score (number_at line 3)) r in
    let g = both (withinℤ (pos 0) (pos 32) (number_at line 1)) (withinℤ (negsuc 9_999) (pos 10_000) (number_at line 2)) h.0 in
    record {
      limit_to = nat_high (number_at line 1) 32 (both (le_z (pos 0) (number_at line 1)) _ g.0).1;
      eta_within = eta_range (number_at line 2) g.1;
      unseen_within = score_within (number_at line 3) h.1;
    }

-- a and b are 1 to 8; then a + b + 4 numbers; the words are words, and the last number is a score
pub record PLine (line : List ℤ) : Type 0 where
  pub a_from : 1 ≤ natural_at line 1
  pub a_to : natural_at line 1 ≤ 8
  pub b_from : 1 ≤ natural_at line 2
  pub b_to : natural_at line 2 ≤ 8
  pub long : length line ≡ natural_at line 1 + natural_at line 2 + 4
  pub words : all is_phrase_word (drop_last (drop 3 line)) ≡ true
  pub score_within : Within score_most (number_at line (3 + natural_at line 1 + natural_at line 2))

size_p : (form : Form) (line : List ℤ) → is_p line ≡ true → is_whole form line ≡ true
    → (is_phrase_length (number_at line 1) && is_phrase_length (number_at line 2) ≡ true) × (length line ≡ natural_at line 1 + natural_at line 2 + 4)
unfolding is_whole size_of
size_p form line p w =
    let k : number_at line 0 ≡ pos 2 = kind_is line 2 p in
    let h = both (not (is_empty line)) _ w in
    let n : length line ≡ cond (is_phrase_length (number_at line 1) && is_phrase_length (number_at line 2)) (natural_at line 1 + natural_at line 2 + 4) 0 = eqb-true _ _ (rw k at h.1) in
    by_test (is_phrase_length (number_at line 1) && is_phrase_length (number_at line 2))
    (λ t. (t, n ∙ rw t))
    (λ f. absurd (some line h.0 (n ∙ rw f)))
  where
    some : (l : List ℤ) → not (is_empty l) ≡ true → length l ≡ 0 → ⊥
    some [] e z = true≢false (sym e)
    some (x ∷ l) e z = omega arith

pub p_line : (form : Form) (line : List ℤ) → is_p line ≡ true → is_whole form line ≡ true → is_in_range line ≡ true → PLine line
unfolding is_in_range
p_line form line p w e =
    let k : number_at line 0 ≡ pos 2 = kind_is line 2 p in
    let r : ranges_p line ≡ true = rw k at e in
    let s = size_p form line p w in
    let ab = both (is_phrase_length (number_at line 1)) (is_phrase_length (number_at line 2)) s.0 in
    let a = both (le_z (pos 1) (number_at line 1)) (le_z (number_at line 1) (pos 8)) ab.0 in
    let b = both (le_z (pos 1) (number_at line 2)) (le_z (number_at line 2) (pos 8)) ab.1 in
    let h = both (all is_phrase_word (drop_last (drop 3 line))) (is_score (number_at line (length line - 1))) r in
    let at : length line - 1 ≡ 3 + natural_at line 1 + natural_at line 2 = (let z : length line ≡ natural_at line 1 + natural_at line 2 + 4 = s.1 in omega arith) in
    record {
      a_from = nat_low (number_at line 1) 1 a.0;
      a_to = nat_high (number_at line 1) 8 a.1;
      b_from = nat_low (number_at line 2) 1 b.0;
      b_to = nat_high (number_at line 2) 8 b.1;
      long = s.1;
      words = h.0;
      score_within = subst (λ (j : ℕ). Within score_most (number_at line j)) at (score_within (number_at line (length line - 1)) h.1);
    }

-- its n words, its score and its weight; a T line ends before the weight, which is then 0
pub record GramLine (line : List ℤ) : Type 0 where
  pub order_from : 1 ≤ order_of line
  pub order_to : order_of line ≤ 3
  pub long : order_of line + 2 ≤ length line
  pub words : (j : ℕ) → j < order_of line → is_lone_word (number_at line (suc j)) ≡ true
  pub score : is_score (number_at line (1 + order_of line)) ≡ true
  pub weight : is_score (number_at line (2 + order_of line)) ≡ true

-- the line of an n-gram is a T, a U or a D line
gram_kind : (line : List ℤ) → is_gram line ≡ true → (is_t line ≡ true) ⊎ ((is_u line ≡ true) ⊎ (is_d line ≡ true))
unfolding is_gram order_of
gram_kind line g =
    by_test (is_t line) inl
    (λ t. by_test (is_u line) (λ u. inr (inl u))
    (λ u. by_test (is_d line) (λ d. inr (inr d))
    (λ d. by_test (is_b line) (λ b. absurd (false≢true (rw b at g)))
    (λ b. by_test (is_p line) (λ p. absurd (false≢true (rw (b, p) at g))) (λ p. absurd (false≢true (rw (b, p, t, u, d) at g)))))))

-- a last word is one that may stand alone
last_lone : (z : ℤ) → is_last_word z ≡ true → is_lone_word z ≡ true
last_lone z e = let h = both (le_z (pos 1) z) (le_z z (pos word_most)) e in let f = h.0 in let g : le_z (pos 0) z ≡ true = omega (arith, signed) in both_of g h.1

-- a fact for each word of a row
one_word : (f : ℕ → ℤ) → is_lone_word (f 1) ≡ true → (j : ℕ) → j < 1 → is_lone_word (f (suc j)) ≡ true
one_word f a zero h = a
one_word f a (suc j) h = absurd (omega arith)

two_words : (f : ℕ → ℤ) → is_lone_word (f 1) ≡ true → is_lone_word (f 2) ≡ true → (j : ℕ) → j < 2 → is_lone_word (f (suc j)) ≡ true
two_words f a b zero h = a
two_words f a b (suc j) h = one_word (λ k. f (suc k)) b j (omega arith)

three_words : (f : ℕ → ℤ) → is_lone_word (f 1) ≡ true → is_lone_word (f 2) ≡ true → is_lone_word (f 3) ≡ true → (j : ℕ) → j < 3 → is_lone_word (f (suc j)) ≡ true
three_words f a b c zero h = a
three_words f a b c (suc j) h = two_words (λ k. f (suc k)) b c j (omega arith)

t_line : (form : Form) (line : List ℤ) → is_t line ≡ true → is_whole form line ≡ true → is_in_range line ≡ true → GramLine line
unfolding is_whole size_of is_in_range order_of
t_line form line t w e =
    let k : number_at line 0 ≡ pos 3 = kind_is line 3 t in
    let r : ranges_t line ≡ true = rw k at e in
    let l : length line ≡ 5 = eqb-true _ _ (rw k at (both (not (is_empty line)) _ w).1) in
    let h = both (is_history_word (number_at line 1) && is_history_word (number_at line 2) && is_last_word (number_at line 3)) (is_score (number_at line 4)) r in
    let y = both (is_history_word (number_at line 1) && is_history_word (number_at line 2)) (is_last_word (number_at line 3)) h.0 in
    let v = both (is_history_word (number_at line 1)) (is_history_word (number_at line 2)) y.0 in
    let end : number_at line 5 ≡ pos 0 = get_or-eq_default line (pos 0) (omega arith) in
    let o : order_of line ≡ 3 = rw k in
    record {
      order_from = omega arith;
      order_to = omega arith;
      long = omega arith;
      words = rw o (three_words (number_at line) v.0 v.1 (last_lone (number_at line 3) y.1));
      score = rw o h.1;
      weight = rw (o, end);
    }

u_line : (form : Form) (line : List ℤ) → is_u line ≡ true → is_whole form line ≡ true → is_in_range line ≡ true → GramLine line
unfolding is_whole size_of is_in_range order_of
u_line form line t w e =
    let k : number_at line 0 ≡ pos 4 = kind_is line 4 t in
    let r : ranges_u line ≡ true = rw k at e in
    let l : length line ≡ 4 = eqb-true _ _ (rw k at (both (not (is_empty line)) _ w).1) in
    let h = both (is_lone_word (number_at line 1) && is_score (number_at line 2)) (is_weight (number_at line 3)) r in
    let y = both (is_lone_word (number_at line 1)) (is_score (number_at line 2)) h.0 in
    let o : order_of line ≡ 1 = rw k in
    record {
      order_from = omega arith;
      order_to = omega arith;
      long = omega arith;
      words = rw o (one_word (number_at line) y.0);
      score = rw o y.1;
      weight = rw o h.1;
    }

d_line : (form : Form) (line : List ℤ) → is_d line ≡ true → is_whole form line ≡ true → is_in_range line ≡ true → GramLine line
unfolding is_whole size_of is_in_range order_of
d_line form line t w e =
    let k : number_at line 0 ≡ pos 5 = kind_is line 5 t in
    let r : ranges_d line ≡ true = rw k at e in
    let l : length line ≡ 5 = eqb-true _ _ (rw k at (both (not (is_empty line)) _ w).1) in
    let h = both (is_history_word (number_at line 1) && is_last_word (number_at line 2) && is_score (number_at line 3)) (is_weight (number_at line 4)) r in
    let s = both (is_history_word (number_at line 1) && is_last_word (number_at line 2)) (is_score (number_at line 3)) h.0 in
    let y = both (is_history_word (number_at line 1)) (is_last_word (number_at line 2)) s.0 in
    let o : order_of line ≡ 2 = rw k in
    record {
      order_from = omega arith;
      order_to = omega arith;
      long = omega arith;
      words = rw o (two_words (number_at line) y.0 (last_lone (number_at line 2) y.1));
      score = rw o s.1;
      weight = rw o h.1;
    }

pub gram_line : (form : Form) (line : List ℤ) → is_gram line ≡ true → is_whole form line ≡ true → is_in_range line ≡ true → GramLine line
gram_line form line g w e = ⊎_elim (λ t. t_line form line t w e) (⊎_elim (λ u. u_line form line u w e) (λ d. d_line form line d w e)) (gram_kind line g)

-- as many words as asked for, where the line has them
words_long : (line : List ℤ) (from many : ℕ) → from + many ≤ length line → length (words_at line from many) ≡ many
words_long line from many h = length-map (take many (drop from line)) nat_of ∙ length-take many (drop from line) ∙ (let z : length (drop from line) ≡ length line - from = length-drop from line in omega arith)

-- ════ the book

pub record Ranged (book : Book) : Type 0 where
  pub limit_to : book.limit ≤ 32
  pub eta_within : Within penalty_most book.eta
  pub unseen_within : Within score_most book.unseen
  pub g_within : (k : ℕ) → Within score_most (entry_at book k).g
  pub target_to : (k : ℕ) → length (entry_at book k).target ≤ 8
  pub gram_within : (g : Gram) → Memᴰ g book.grams → Within score_most g.s × Within score_most g.k

-- what holds of the lines' entries and of no entry holds of entry k
entry_ind : (Q : Entry → Type 0) (lines : List (List ℤ)) → Q no_entry → ((line : List ℤ) → Memᴰ line lines → is_p line ≡ true → Q (entry_of line))
    → (k : ℕ) → Q (get_or (map entry_of (keep is_p lines)) k no_entry)
entry_ind Q lines none each k =
    by_test (ltb k (length (map entry_of (keep is_p lines))))
    (λ t. let m = get_d_mem (map entry_of (keep is_p lines)) k no_entry (ltb-true k _ t) in
    let o = Memᴰ.of_map entry_of (keep is_p lines) m in
    let q = keep_mem is_p lines o.1 in
    subst Q o.2 (each o.0 q.0 q.1))
    (λ f. subst Q (sym (get_or-eq_default (map entry_of (keep is_p lines)) no_entry (ltb-false k _ f))) none)

pub book_ranged : (form : Form) (lines : List (List ℤ)) → Passed form lines → Ranged (book_of_lines lines)
unfolding book_of_lines entry_at entry_of gram_of is_one_bFirst
book_ranged form [] p = absurd (false≢true p.one_b)
book_ranged form (first ∷ lines) p =
    let b = b_line first (both (is_b first) _ p.one_b).0 (both (is_in_range first) _ p.ranged).0 in
    record {
      limit_to = b.limit_to;
      eta_within = b.eta_within;
      unseen_within = b.unseen_within;
      g_within = λ k. entry_ind (λ e. Within score_most e.g) (first ∷ lines) (omega arith) (λ line m t. (line_of line m t).score_within) (k - 1);
      target_to = λ k. entry_ind (λ e. length e.target ≤ 8) (first ∷ lines) (omega arith)
          (λ line m t. let l = line_of line m t in
          let z : length (words_at line (3 + natural_at line 1) (natural_at line 2)) ≡ natural_at line 2 = words_long line (3 + natural_at line 1) (natural_at line 2) (let n = l.long in omega arith) in
          let q = l.b_to in omega arith) (k - 1);
      gram_within = λ t m.
          let o = Memᴰ.of_map gram_of (keep is_gram (first ∷ lines)) m in
          let q = keep_mem is_gram (first ∷ lines) o.1 in
          let l = gram_line form o.0 q.1 (all_mem (is_whole form) (first ∷ lines) p.whole o.0 q.0) (all_mem is_in_range (first ∷ lines) p.ranged o.0 q.0) in
          subst (λ (x : Gram). Within score_most x.s × Within score_most x.k) o.2 (score_within _ l.score, score_within _ l.weight);
    }
  where
    line_of : (line : List ℤ) → Memᴰ line (first ∷ lines) → is_p line ≡ true → PLine line
    line_of line m t = p_line form line t (all_mem (is_whole form) (first ∷ lines) p.whole line m) (all_mem is_in_range (first ∷ lines) p.ranged line m)

-- a loaded book that 2 to 6 pass is in its ranges
pub loaded_ranged : (loaded : List ℤ) → book_refusal loaded ≡ 0 → Ranged (book_of loaded)
unfolding book_refusal book_of
loaded_ranged loaded e = book_ranged in_list (loaded_lines loaded) (lines_passed in_list (loaded_lines loaded) e)
