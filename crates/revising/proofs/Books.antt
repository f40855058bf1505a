-- The book in a lent list, once question 7 and its own questions have passed; and what an addition and a removal make of the list.
use Prim.Native.Nat.{ℕ, zero, suc, ◌+◌, ◌-◌, ◌≤◌, ◌<◌}
use native.Mathlib.Omega.{arith}
use mathlib.Core.Path.{◌≡◌, refl, sym, ap, ◌∙◌}
use mathlib.Core.Bool.{true, and-true}
use mathlib.Core.List.{List, [], ◌∷◌, ◌++◌, append_assoc}
use borrow.Author.Tests.{leb-true}
use lib.Dec.{leb}
use lib.IntN.{ℤ, pos}
use lib.ListN.{length, take, drop, set, length-append, length-set, take-append-drop}
use lib.Seq.{get_or-take, length-take-le}
use Rattle.laws.specs.Lists.{count, concat}
use Rattle.laws.proofs.Fill.{over, over_long, over_more}
use Rattle.laws.proofs.Tests.{both}
use Rattle.meaning.specs.Questions.{◌unless◌}
use Rattle.meaning.specs.Book.{in_list, number_at, is_p, is_t, is_u, is_d, is_not_too_long, phrases_most, book_refusal}
use Rattle.meaning.specs.Reply.{written_over}
use Rattle.meaning.specs.Revision.{lines_in_use, in_use_refusal, with_entry, added}
use Rattle.meaning.proofs.Chains.{first_passes, rest_passes, test_passes}
use Rattle.meaning.proofs.Ranges.{Passed, lines_passed}
use Rattle.meaning.proofs.Revised.{cut_back, stored_phrases, entry_others, same_count, not_p, count_added, added_numbers}

-- ════ the book

pub record InUse (list : List ℤ) (used : ℕ) : Type 0 where
  pub room : used ≤ length list
  pub long : length (take used list) ≡ used
  pub passed : Passed in_list (lines_in_use list used)
  pub back : concat (lines_in_use list used) ≡ take used list

pub in_use : (list : List ℤ) (used : ℕ) → in_use_refusal list used ≡ 0 → InUse list used
unfolding in_use_refusal book_refusal
in_use list used e =
    let h = leb-true used (length list) (test_passes 6 (leb used (length list)) (first_passes (7 unless leb used (length list)) _ e)) in
    record {
      room = h;
      long = length-take-le used list h;
      passed = lines_passed in_list (lines_in_use list used) (rest_passes (7 unless leb used (length list)) _ e);
      back = cut_back (take used list);
    }

module _ {list : List ℤ} {used : ℕ} (b : InUse list used) where
  -- its P lines are no more than question 5 allows
  pub few_phrases : count is_p (lines_in_use list used) ≤ phrases_most
  unfolding is_not_too_long
  few_phrases = leb-true (count is_p (lines_in_use list used)) phrases_most (both (leb (count is_p (lines_in_use list used)) phrases_most) _ b.passed.short).0

  -- it has the six numbers of the B record, of which the fifth is the count of its P lines
  pub six : 6 ≤ used
  six = omega (arith, (stored_phrases (lines_in_use list used) b.passed).1, ap length b.back, b.long)

  pub stored : number_at list 4 ≡ pos (count is_p (lines_in_use list used))
  stored =
      sym (get_or-take used list 4 (pos 0) (omega (arith, six)))
      ∙ ap (λ (xs : List ℤ). number_at xs 4) (sym b.back)
      ∙ (stored_phrases (lines_in_use list used) b.passed).0

-- ════ adding

-- question 5, of one P line more
pub one_more : (lines : List (List ℤ)) (line : List ℤ) → Passed in_list lines → is_p line ≡ true → is_not_too_long (with_entry lines line) ≡ leb (suc (count is_p lines)) phrases_most
unfolding is_not_too_long
one_more lines line p e =
    let same = entry_others lines line e in
    let rest = (both (leb (count is_p lines) phrases_most) _ p.short).1 in
    rw (count_added lines line e, same_count same is_t (not_p 3 refl), same_count same is_u (not_p 4 refl), same_count same is_d (not_p 5 refl), rest) (and-true (leb (suc (count is_p lines)) phrases_most))

-- a store to the first part of a list
pub set_first : {A : Type 0} (xs ys : List A) (i : ℕ) (v : A) → i < length xs → set (xs ++ ys) i v ≡ set xs i v ++ ys
set_first [] ys i v h = absurd (omega arith)
set_first (x ∷ xs) ys zero v h = refl
set_first {A} (x ∷ xs) ys (suc i) v h = ap (λ (l : List A). x ∷ l) (set_first xs ys i v (omega arith))

module _ {list : List ℤ} {used : ℕ} (b : InUse list used) (line : List ℤ) (e : is_p line ≡ true) where
  -- the numbers then in use
  pub added_is : added list used line ≡ set (take used list) 4 (pos (suc (count is_p (lines_in_use list used)))) ++ line
  unfolding added
  added_is = added_numbers (lines_in_use list used) line b.passed e ∙ rw b.back

  pub added_long : length (added list used line) ≡ used + length line
  added_long =
      let n = ap length added_is in
      let m = length-append (set (take used list) 4 (pos (suc (count is_p (lines_in_use list used))))) line in
      let k = length-set (take used list) 4 (pos (suc (count is_p (lines_in_use list used)))) in
      omega (arith, b.long)

  module _ (part : List ℤ) (p : part ≡ over line (take (length list - used) (drop used list))) where
    put : take used list ++ (part ++ drop (length list - used) (drop used list)) ≡ over (take used list ++ line) list
    put = over_more (take used list) line list (sym (ap (λ (k : ℕ). take used list ++ drop k list) b.long ∙ take-append-drop used list)) (sym b.long) p

    pub added_room : used + length line ≤ length list → 6 ≤ length (take used list ++ (part ++ drop (length list - used) (drop used list)))
    added_room h = omega (arith, ap length put, over_long (take used list ++ line) list (omega (arith, length-append (take used list) line, b.long)), six b)

    -- the list, once the line is put behind the numbers in use, as code's `&mut list[used..]` has it, and counted
    pub added_put : set (take used list ++ (part ++ drop (length list - used) (drop used list))) 4 (pos (suc (count is_p (lines_in_use list used)))) ≡ written_over (added list used line) list
    added_put =
        let v = pos (suc (count is_p (lines_in_use list used))) in
        let n : length (take used list ++ line) ≡ length (added list used line) = length-append (take used list) line ∙ ap (λ (k : ℕ). k + length line) b.long ∙ sym added_long in
        ap (λ (l : List ℤ). set l 4 v) put
        ∙ ap (λ (l : List ℤ). set l 4 v) (append_assoc (take used list) line (drop (length (take used list ++ line)) list))
        ∙ set_first (take used list) (line ++ drop (length (take used list ++ line)) list) 4 v (omega (arith, b.long, six b))
        ∙ sym (append_assoc (set (take used list) 4 v) line (drop (length (take used list ++ line)) list))
        ∙ ap (λ (l : List ℤ). l ++ drop (length (take used list ++ line)) list) (sym added_is)
        ∙ ap (λ (k : ℕ). added list used line ++ drop k list) n
