-- The lines of a loaded book are the lines that it was made of; so a book that was read passes 2 to 6 in every later call.
use Prim.Native.Nat.{ℕ, zero, suc, ◌+◌, ◌≤◌}
use native.Mathlib.Nat.{not-suc-le-zero, le_of_suc-le-suc}
use native.Mathlib.Omega.{arith}
use mathlib.Core.Path.{◌≡◌, refl, sym, ◌∙◌, ap, subst}
use mathlib.Core.Bool.{true, false, false≢true}
use mathlib.Core.List.{List, [], ◌∷◌, ◌++◌}
use borrow.Author.Tests.{eqb-true, not-true}
use lib.IntN.{ℤ, pos}
use lib.ListN.{length, length-append}
use lib.Seq.{take-append_seam, drop-append_seam}
use Rattle.laws.specs.Lists.{all, any, count, concat}
use Rattle.laws.proofs.Integers.{eqℤ_refl}
use Rattle.laws.proofs.Tests.{both, neither}
use Rattle.meaning.specs.Questions.{◌unless◌}
use Rattle.meaning.specs.Book.{in_text, in_list, number_at, is_b, is_p, is_t, order_of, is_gram, size_of, is_whole, is_one_bFirst, is_in_range, is_not_too_long, is_counted, is_no_triple_twice, is_no_shorter_twice, cut_lines, loaded_lines, lines_refusal, book_refusal, is_book_text, text_lines, with_counts, loaded_book, loaded_of, read_refusal, book_of_lines}
use Rattle.meaning.proofs.Chains.{first_passes, rest_passes}
use Rattle.meaning.proofs.Ranges.{Passed, lines_passed, passed_lines, kind_is}
use Rattle.meaning.proofs.Sizes.{four_numbers, whole_size as size}

-- a whole line's size is seen from its own numbers, of which it has four at least
pub size_append : (line rest : List ℤ) → is_whole in_list line ≡ true → size_of in_list (line ++ rest) ≡ size_of in_list line
unfolding size_of
size_append [] rest t = absurd (omega (arith, four_numbers in_list [] t))
size_append (z ∷ []) rest t = absurd (omega (arith, four_numbers in_list (z ∷ []) t))
size_append (z ∷ a ∷ []) rest t = absurd (omega (arith, four_numbers in_list (z ∷ a ∷ []) t))
size_append (z ∷ a ∷ b ∷ line) rest t = refl

pub whole_size : (z : ℤ) (line : List ℤ) → is_whole in_list (z ∷ line) ≡ true → size_of in_list (z ∷ line) ≡ suc (length line)
unfolding is_whole
whole_size z line t = sym (eqb-true (suc (length line)) (size_of in_list (z ∷ line)) t)

not_whole : is_whole in_list [] ≡ true → ⊥
unfolding is_whole
not_whole t = false≢true t

cut_concat : (fuel : ℕ) (lines : List (List ℤ)) → length (concat lines) ≤ fuel → all (is_whole in_list) lines ≡ true → cut_lines fuel (concat lines) ≡ lines
unfolding cut_lines
cut_concat zero [] h t = refl
cut_concat (suc fuel) [] h t = refl
cut_concat fuel ([] ∷ lines) h t = absurd (not_whole (both (is_whole in_list []) (all (is_whole in_list) lines) t).0)
cut_concat zero ((z ∷ line) ∷ lines) h t = absurd (not-suc-le-zero h)
cut_concat (suc fuel) ((z ∷ line) ∷ lines) h t =
    rw (size, cut_lines) (rw (take-append_seam line (concat lines), drop-append_seam line (concat lines), cut_concat fuel lines shorter (both (is_whole in_list (z ∷ line)) (all (is_whole in_list) lines) t).1))
  where
    whole : is_whole in_list (z ∷ line) ≡ true
    whole = (both (is_whole in_list (z ∷ line)) (all (is_whole in_list) lines) t).0

    size : size_of in_list (z ∷ (line ++ concat lines)) ≡ suc (length line)
    size = size_append (z ∷ line) (concat lines) whole ∙ whole_size z line whole

    shorter : length (concat lines) ≤ fuel
    shorter = omega (arith, length-append line (concat lines), le_of_suc-le-suc h)

pub loaded_lines_lem : (lines : List (List ℤ)) → all (is_whole in_list) lines ≡ true → loaded_lines (concat lines) ≡ lines
unfolding loaded_lines
loaded_lines_lem lines t = cut_concat (length (concat lines)) lines (omega arith) t

-- ════ a book that was read

-- a whole B line of a text is its kind, d, eta and u
record TextB (line : List ℤ) : Type 0 where
  pub d : ℤ
  pub eta : ℤ
  pub u : ℤ
  pub is : line ≡ pos 1 ∷ d ∷ eta ∷ u ∷ []

text_b : (line : List ℤ) → is_b line ≡ true → is_whole in_text line ≡ true → TextB line
unfolding size_of
text_b line b w = let k : number_at line 0 ≡ pos 1 = kind_is line 1 b in of line k (rw k at (size in_text line w))
  where
    of : (line : List ℤ) → number_at line 0 ≡ pos 1 → length line ≡ 4 → TextB line
    of [] k l = absurd (omega arith)
    of (a ∷ []) k l = absurd (omega arith)
    of (a ∷ b ∷ []) k l = absurd (omega arith)
    of (a ∷ b ∷ c ∷ []) k l = absurd (omega arith)
    of (a ∷ b ∷ c ∷ d ∷ []) k l = record { d = b; eta = c; u = d; is = ap (λ (z : ℤ). z ∷ b ∷ c ∷ d ∷ []) k }
    of (a ∷ b ∷ c ∷ d ∷ e ∷ line) k l = absurd (omega arith)

-- what holds of all lines that begin with such a line holds of the lines of every text that passes
pub text_ind : (Q : List (List ℤ) → Type 0) → ((d eta u : ℤ) (rest : List (List ℤ)) → Passed in_text ((pos 1 ∷ d ∷ eta ∷ u ∷ []) ∷ rest) → Q ((pos 1 ∷ d ∷ eta ∷ u ∷ []) ∷ rest))
    → (lines : List (List ℤ)) → Passed in_text lines → Q lines
unfolding is_one_bFirst
text_ind Q each [] p = absurd (false≢true p.one_b)
text_ind Q each (line ∷ rest) p =
    let b = text_b line (both (is_b line) _ p.one_b).0 (both (is_whole in_text line) _ p.whole).0 in
    subst (λ (l : List ℤ). Passed in_text (l ∷ rest) → Q (l ∷ rest)) (sym b.is) (each b.d b.eta b.u rest) p

-- the lines of every kind but B take the same numbers in a text and in a loaded list
pub same_whole : (line : List ℤ) → is_b line ≡ false → is_whole in_list line ≡ is_whole in_text line
unfolding is_whole size_of
same_whole line f = rw f

pub same_wholes : (lines : List (List ℤ)) → any is_b lines ≡ false → all (is_whole in_list) lines ≡ all (is_whole in_text) lines
same_wholes [] f = refl
same_wholes (line ∷ lines) f = let h = neither (is_b line) (any is_b lines) f in rw (same_whole line h.0, same_wholes lines h.1)

-- lines of a text that 2 to 6 and 20 pass: with the counts they are lines of a loaded list that 2 to 6, 21 and 20 pass
read_lines : (d eta u : ℤ) (lines : List (List ℤ)) → Passed in_text ((pos 1 ∷ d ∷ eta ∷ u ∷ []) ∷ lines) → Passed in_list (with_counts ((pos 1 ∷ d ∷ eta ∷ u ∷ []) ∷ lines))
unfolding is_whole size_of is_one_bFirst is_in_range is_not_too_long is_counted is_no_triple_twice is_no_shorter_twice
read_lines d eta u lines p = record {
  whole = same_wholes lines (not-true (any is_b lines) p.one_b) ∙ p.whole;
  one_b = p.one_b;
  ranged = p.ranged;
  short = p.short;
  counted = rw (eqℤ_refl (pos (count is_p lines)), eqℤ_refl (pos (count is_t lines)));
  no_triple_twice = p.no_triple_twice;
  no_shorter_twice = p.no_shorter_twice;
}

-- and state the same book
read_book : (d eta u : ℤ) (lines : List (List ℤ)) → book_of_lines (with_counts ((pos 1 ∷ d ∷ eta ∷ u ∷ []) ∷ lines)) ≡ book_of_lines ((pos 1 ∷ d ∷ eta ∷ u ∷ []) ∷ lines)
unfolding book_of_lines is_gram order_of
read_book d eta u lines = refl

-- both, of the lines of any text
pub record ReadAs (lines : List (List ℤ)) : Type 0 where
  pub passed : Passed in_list (with_counts lines)
  pub book_is : book_of_lines (with_counts lines) ≡ book_of_lines lines

pub read_as : (lines : List (List ℤ)) → Passed in_text lines → ReadAs lines
read_as = text_ind ReadAs (λ d eta u rest p. record { passed = read_lines d eta u rest p; book_is = read_book d eta u rest })

-- the loaded book has two numbers more
pub read_long : (lines : List (List ℤ)) → Passed in_text lines → length (loaded_book lines) ≡ 2 + length (concat lines)
unfolding loaded_book
read_long = text_ind (λ lines. length (loaded_book lines) ≡ 2 + length (concat lines)) (λ d eta u rest p. omega arith)

pub read_loaded : (lines : List (List ℤ)) → Passed in_text lines → loaded_lines (loaded_book lines) ≡ with_counts lines
unfolding loaded_book
read_loaded lines p = loaded_lines_lem (with_counts lines) (read_as lines p).passed.whole

-- what reading asked of a text that it took
pub read_passed : (text : List ℕ) (places : ℕ) → read_refusal text places ≡ 0 → Passed in_text (text_lines text)
unfolding read_refusal
read_passed text places e = lines_passed in_text (text_lines text) (first_passes (lines_refusal in_text (text_lines text)) _ (rest_passes (1 unless is_book_text text) _ e))

-- so a book that was read passes 2 to 6, 21 and 20 in every later call
pub read_passes : (text : List ℕ) (places : ℕ) → read_refusal text places ≡ 0 → book_refusal (loaded_of text) ≡ 0
unfolding book_refusal loaded_of
read_passes text places e =
    let p = read_passed text places e in
    ap (lines_refusal in_list) (read_loaded (text_lines text) p) ∙ passed_lines in_list (with_counts (text_lines text)) (read_as (text_lines text) p).passed
