-- The answers of questions 1 to 7 of a book's text, in their order: which refusal each failed test gives, and what a refusal or a
-- success says of the reply and of the lent list.
use Prim.Native.Nat.{ℕ, suc, ◌+◌, ◌-◌, ◌≤◌}
use native.Mathlib.Omega.{arith}
use mathlib.Core.Path.{◌≡◌, refl, sym, ap, ◌∙◌}
use mathlib.Core.Bool.{true, false}
use mathlib.Core.List.{List, [], ◌∷◌, ◌++◌, append_assoc}
use borrow.Author.Tests.{leb-true}
use lib.Dec.{leb}
use lib.IntN.{ℤ, pos}
use lib.ListN.{length, get_or, take, drop, length-append, take-append-drop}
use lib.Seq.{length-take-le}
use Rattle.laws.specs.Lists.{count, concat}
use Rattle.laws.proofs.Fill.{over, over_long, over_more}
use Rattle.laws.proofs.Tests.{both}
use Rattle.meaning.specs.Questions.{◌unless◌, number}
use Rattle.meaning.specs.Book.{in_text, is_p, is_t, phrases_most, grams_most, is_not_too_long, is_book_text, text_lines, lines_refusal, with_counts, loaded_book, loaded_of, read_refusal}
use Rattle.meaning.specs.Reply.{refused, done, written_over, read_book, read_book_list}
use Rattle.meaning.specs.declared.Refusal.{Refusal}
use Rattle.meaning.proofs.Chains.{first_passes, rest_passes, test_passes, written_refused}
use Rattle.meaning.proofs.Numbered.{number_from, refused_before_all, refused_reply}
use Rattle.meaning.proofs.Ranges.{lines_passed}
use Rattle.meaning.proofs.Loaded.{text_ind}
use Rattle.text.specs.Walk.{text_numbers}
use Rattle.reading.specs.Text.{text_refusal, with_b}

module _ (t : List ℕ) (places : ℕ) where
  -- questions 1 to 6 refuse
  pub text_refused : (refusal : Refusal) → text_refusal t ≡ number refusal → read_refusal t places ≡ number refusal
  unfolding read_refusal
  text_refused refusal e = refused_before_all refusal (1 unless is_book_text t) (lines_refusal in_text (text_lines t)) (7 unless leb (length (loaded_of t)) places) e

  -- they pass
  module _ (e : text_refusal t ≡ 0) where
    pub text_is : is_book_text t ≡ true
    text_is = test_passes 0 (is_book_text t) (first_passes (1 unless is_book_text t) (lines_refusal in_text (text_lines t)) e)

    pub lines_are : lines_refusal in_text (text_lines t) ≡ 0
    lines_are = rest_passes (1 unless is_book_text t) (lines_refusal in_text (text_lines t)) e

    pub no_room : leb (length (loaded_of t)) places ≡ false → read_refusal t places ≡ 7
    unfolding read_refusal
    no_room r = rw (text_is, lines_are, r)

    pub has_room : leb (length (loaded_of t)) places ≡ true → read_refusal t places ≡ 0
    unfolding read_refusal
    has_room r = rw (text_is, lines_are, r)

-- ════ the reply and the list

module _ (t : List ℕ) (lent : List ℤ) where
  pub refused_so : (refusal : Refusal) → read_refusal t (length lent) ≡ number refusal
      → (refused (number refusal) ≡ read_book t (length lent)) × (lent ≡ read_book_list t lent)
  unfolding read_book read_book_list
  refused_so refusal e = (
    refused_reply refusal (read_refusal t (length lent)) (length (loaded_of t)) e,
    sym (written_refused (read_refusal t (length lent)) (loaded_of t) lent (let h = number_from refusal in omega arith)),
  )

  pub done_so : (n : ℕ) → n ≡ length (loaded_of t) → read_refusal t (length lent) ≡ 0
      → (done n ≡ read_book t (length lent)) × (written_over (loaded_of t) lent ≡ read_book_list t lent)
  unfolding read_book read_book_list
  done_so n c e = rw (e, c) (refl, refl)

-- ════ what is written

-- the counts fit a place of the list
pub counts_few : (t : List ℕ) → text_refusal t ≡ 0 → (count is_p (text_lines t) ≤ grams_most) × (count is_t (text_lines t) ≤ grams_most)
unfolding is_not_too_long
counts_few t e =
    let few = (lines_passed in_text (text_lines t) (lines_are t 0 e)).short in
    let p = both (leb (count is_p (text_lines t)) phrases_most) _ few in
    let q = both (leb (count is_t (text_lines t)) grams_most) _ p.1 in
    (omega (arith, leb-true (count is_p (text_lines t)) phrases_most p.0), leb-true (count is_t (text_lines t)) grams_most q.0)

-- the place behind the B record and the numbers of the other lines
abbrev behind : List ℤ → ℕ
behind rest = suc (suc (suc (suc (suc (suc (length rest))))))

-- the text's numbers from the third place on, with the B record at the front
b_moved : (old : List ℤ) (d eta u : ℤ) (rest : List ℤ) (p n : ℕ) → 2 ≤ length old → with_b p n (take 2 old ++ ((pos 1 ∷ d ∷ eta ∷ u ∷ []) ++ rest)) ≡ (pos 1 ∷ d ∷ eta ∷ u ∷ []) ++ (pos p ∷ pos n ∷ rest)
unfolding with_b
b_moved [] d eta u rest p n h = absurd (omega arith)
b_moved (x ∷ []) d eta u rest p n h = absurd (omega arith)
b_moved (x ∷ y ∷ old) d eta u rest p n h = refl

-- there are six at least
pub loaded_six : (t : List ℕ) → text_refusal t ≡ 0 → 6 ≤ length (loaded_of t)
unfolding loaded_of loaded_book
loaded_six t e = text_ind (λ lines. 6 ≤ length (concat (with_counts lines))) (λ d eta u rest p. omega arith) (text_lines t) (lines_passed in_text (text_lines t) (lines_are t 0 e))

-- the six numbers of the B record, put over what stands at the front
pub b_put : (list : List ℤ) (p n : ℕ) → 6 ≤ length list → get_or list 2 (pos 0) ∷ get_or list 3 (pos 0) ∷ get_or list 4 (pos 0) ∷ get_or list 5 (pos 0) ∷ pos p ∷ pos n ∷ drop 6 list ≡ with_b p n list
unfolding with_b
b_put [] p n h = absurd (omega arith)
b_put (a ∷ []) p n h = absurd (omega arith)
b_put (a ∷ b ∷ []) p n h = absurd (omega arith)
b_put (a ∷ b ∷ c ∷ []) p n h = absurd (omega arith)
b_put (a ∷ b ∷ c ∷ d ∷ []) p n h = absurd (omega arith)
b_put (a ∷ b ∷ c ∷ d ∷ e ∷ []) p n h = absurd (omega arith)
b_put (a ∷ b ∷ c ∷ d ∷ e ∷ f ∷ list) p n h = refl

pub book_written : (t : List ℕ) (old : List ℤ) → text_refusal t ≡ 0 → 2 ≤ length old
    → with_b (count is_p (text_lines t)) (count is_t (text_lines t)) (over (take 2 old ++ text_numbers t) old) ≡ written_over (loaded_of t) old
unfolding loaded_of loaded_book text_numbers
book_written t old e h =
    text_ind (λ lines. with_b (count is_p lines) (count is_t lines) (over (take 2 old ++ concat lines) old) ≡ written_over (concat (with_counts lines)) old)
    (λ d eta u rest p. ap (with_b (count is_p rest) (count is_t rest)) (parts d eta u (concat rest)) ∙ b_moved old d eta u (concat rest ++ drop (behind (concat rest)) old) (count is_p rest) (count is_t rest) h)
    (text_lines t) (lines_passed in_text (text_lines t) (lines_are t 0 e))
  where
    parts : (d eta u : ℤ) (rest : List ℤ) → over (take 2 old ++ ((pos 1 ∷ d ∷ eta ∷ u ∷ []) ++ rest)) old ≡ take 2 old ++ ((pos 1 ∷ d ∷ eta ∷ u ∷ []) ++ (rest ++ drop (behind rest) old))
    parts d eta u rest =
        let n : length (take 2 old ++ ((pos 1 ∷ d ∷ eta ∷ u ∷ []) ++ rest)) ≡ behind rest = omega (arith, length-append (take 2 old) ((pos 1 ∷ d ∷ eta ∷ u ∷ []) ++ rest), length-take-le 2 old h) in
        append_assoc (take 2 old) ((pos 1 ∷ d ∷ eta ∷ u ∷ []) ++ rest) _
        ∙ ap (λ (k : ℕ). take 2 old ++ ((pos 1 ∷ d ∷ eta ∷ u ∷ []) ++ (rest ++ drop k old))) n

-- the list once the text's numbers are put from its third place on, as code's `&mut book[2..]` has it
pub text_put : (t : List ℕ) (old part : List ℤ) → 2 ≤ length old → part ≡ over (text_numbers t) (take (length old - 2) (drop 2 old))
    → take 2 old ++ (part ++ drop (length old - 2) (drop 2 old)) ≡ over (take 2 old ++ text_numbers t) old
text_put t old part h e =
    let n = length-take-le 2 old h in
    over_more (take 2 old) (text_numbers t) old (sym (ap (λ (k : ℕ). take 2 old ++ drop k old) n ∙ take-append-drop 2 old)) (sym n) e

pub text_put_long : (t : List ℕ) (old : List ℤ) → 2 + length (text_numbers t) ≤ length old → length (over (take 2 old ++ text_numbers t) old) ≡ length old
text_put_long t old h =
    over_long (take 2 old ++ text_numbers t) old (omega (arith, length-append (take 2 old) (text_numbers t), length-take-le 2 old (omega arith)))
