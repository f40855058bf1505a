-- The questions of an addition and of a removal, asked one after the other: which refusal each failed test gives, and what a refusal or a success says of
-- the reply and of the list.
use Prim.Native.Nat.{ℕ, suc, ◌+◌, ◌-◌, ◌≤◌, ◌<◌}
use native.Mathlib.Omega.{arith}
use mathlib.Core.Path.{◌≡◌, refl, sym, ap, ◌∙◌}
use mathlib.Core.Bool.{Bool, true, false, ◌&&◌}
use mathlib.Core.List.{List, ◌++◌}
use borrow.Author.Tests.{le-leb, lt-leb, leb-true}
use lib.Dec.{leb}
use lib.IntN.{ℤ, pos}
use lib.ListN.{length, take, replicate, length-set}
use Rattle.laws.specs.Integers.{nat_of}
use Rattle.laws.specs.Lists.{count, concat}
use Rattle.laws.proofs.Tests.{both}
use Rattle.meaning.specs.Questions.{◌unless◌, ◌orelse◌, within, number}
use Rattle.meaning.specs.Book.{in_list, number_at, natural_at, is_p, is_whole, ranges_p, is_in_range, is_not_too_long, phrases_most, book_refusal}
use Rattle.meaning.specs.Reply.{refused, done, reply, written_over}
use Rattle.meaning.specs.Revision.{lines_in_use, in_use_refusal, with_entry, added, line_refusal, add_refusal, add_entry, add_entry_list, without_entry, removed, remove_refusal, remove_entry, remove_entry_list}
use Rattle.meaning.specs.declared.Refusal.{Refusal}
use Rattle.meaning.proofs.Chains.{first_passes, rest_passes, test_passes, done_passes, written_refused}
use Rattle.meaning.proofs.Ranges.{kind_is}
use Rattle.meaning.proofs.Revised.{fewer_numbers, removed_numbers}
use Rattle.meaning.proofs.Numbered.{number_from, refused_first, refused_reply}
use Rattle.revising.proofs.Books.{InUse, in_use, stored, one_more, added_long}

-- ════ the numbers in use

pub too_many : (list : List ℤ) (used : ℕ) → length list < used → in_use_refusal list used ≡ 7
unfolding in_use_refusal
too_many list used h = rw (lt-leb used (length list) h)

pub not_too_many : (list : List ℤ) (used : ℕ) → used ≤ length list → in_use_refusal list used ≡ book_refusal (take used list)
unfolding in_use_refusal
not_too_many list used h = rw (le-leb used (length list) h)

-- a refusal by them is the refusal of every call
pub refused_in_use : (refusal : Refusal) (j m : ℕ) → j ≡ number refusal → j orelse m ≡ number refusal
refused_in_use refusal j m e = ap (λ (i : ℕ). i orelse m) e ∙ refused_first (number refusal) m (number_from refusal)

-- a check that passes refuses nothing
pub passes : (k : ℕ) → reply {A = Unit {0}} k tt ≡ done tt → k ≡ 0
passes k e = done_passes {A = Unit {0}} k tt tt e

-- ════ the added line

module _ {list : List ℤ} {used : ℕ} (b : InUse list used) (line : List ℤ) where
  abbrev entry : Bool
  entry = is_p line && is_whole in_list line

  pub line_two : entry ≡ false → line_refusal list used line ≡ 2
  line_two e = rw e

  -- question 4, of a P line
  ranged : entry ≡ true → is_in_range line ≡ ranges_p line
  unfolding is_in_range
  ranged e = let k : number_at line 0 ≡ pos 2 = kind_is line 2 (both (is_p line) (is_whole in_list line) e).0 in rw k

  pub line_four : entry ≡ true → ranges_p line ≡ false → line_refusal list used line ≡ 4
  line_four e f = rw (e, ranged e ∙ f)

  -- question 5, by the count that the B record stores
  few : entry ≡ true → is_not_too_long (with_entry (lines_in_use list used) line) ≡ leb (suc (natural_at list 4)) phrases_most
  few e = one_more (lines_in_use list used) line b.passed (both (is_p line) (is_whole in_list line) e).0 ∙ ap (λ (z : ℤ). leb (suc (nat_of z)) phrases_most) (sym (stored b))

  long : entry ≡ true → length (added list used line) ≡ used + length line
  long e = added_long b line (both (is_p line) (is_whole in_list line) e).0

  pub line_five : entry ≡ true → ranges_p line ≡ true → phrases_most ≤ natural_at list 4 → line_refusal list used line ≡ 5
  line_five e f h = let g : is_not_too_long (with_entry (lines_in_use list used) line) ≡ false = few e ∙ lt-leb (suc (natural_at list 4)) phrases_most (omega arith) in rw (e, ranged e ∙ f, g)

  module _ (e : entry ≡ true) (f : ranges_p line ≡ true) (h : natural_at list 4 < phrases_most) where
    enough : is_not_too_long (with_entry (lines_in_use list used) line) ≡ true
    enough = few e ∙ le-leb (suc (natural_at list 4)) phrases_most (omega arith)

    pub line_seven : length list - used < length line → line_refusal list used line ≡ 7
    line_seven r = let n : leb (length (added list used line)) (length list) ≡ false = lt-leb (length (added list used line)) (length list) (omega (arith, long e, b.room)) in rw (e, ranged e ∙ f, enough, n)

    pub line_none : length line ≤ length list - used → line_refusal list used line ≡ 0
    line_none r = let n : leb (length (added list used line)) (length list) ≡ true = le-leb (length (added list used line)) (length list) (omega (arith, long e, b.room)) in rw (e, ranged e ∙ f, enough, n)

-- once all questions of an addition have passed
pub record Addable (list : List ℤ) (used : ℕ) (line : List ℤ) : Type 0 where
  pub asked : in_use_refusal list used ≡ 0
  pub is_p_lem : is_p line ≡ true
  pub fits : length (added list used line) ≤ length list
  pub few : suc (count is_p (lines_in_use list used)) ≤ phrases_most

pub addable : (list : List ℤ) (used : ℕ) (line : List ℤ) → add_refusal list used line ≡ 0 → Addable list used line
unfolding add_refusal
addable list used line e =
    let book = first_passes (in_use_refusal list used) _ e in
    let two = rest_passes (in_use_refusal list used) _ e in
    let four = rest_passes (2 unless (is_p line && is_whole in_list line)) _ two in
    let five = rest_passes (4 unless is_in_range line) _ four in
    let seven = rest_passes (5 unless is_not_too_long (with_entry (lines_in_use list used) line)) _ five in
    let p = (both (is_p line) (is_whole in_list line) (test_passes 1 _ (first_passes (2 unless (is_p line && is_whole in_list line)) _ two))).0 in
    let b = in_use list used book in
    record {
      asked = book;
      is_p_lem = p;
      fits = leb-true (length (added list used line)) (length list) (test_passes 6 _ seven);
      few = leb-true (suc (count is_p (lines_in_use list used))) phrases_most (sym (one_more (lines_in_use list used) line b.passed p) ∙ test_passes 4 _ (first_passes (5 unless is_not_too_long (with_entry (lines_in_use list used) line)) _ five));
    }

-- ════ the reply and the list

module _ (list : List ℤ) (used : ℕ) (line : List ℤ) where
  pub add_refused : (refusal : Refusal) → add_refusal list used line ≡ number refusal → (refused (number refusal) ≡ add_entry list used line) × (list ≡ add_entry_list list used line)
  unfolding add_entry add_entry_list
  add_refused refusal e = (refused_reply refusal (add_refusal list used line) _ e, sym (written_refused (add_refusal list used line) _ list (omega (arith, e, number_from refusal))))

  pub add_done : (n : ℕ) → n ≡ length (added list used line) → add_refusal list used line ≡ 0 → (done n ≡ add_entry list used line) × (written_over (added list used line) list ≡ add_entry_list list used line)
  unfolding add_entry add_entry_list
  add_done n c e = rw (e, c) (refl, refl)

module _ (list : List ℤ) (used k : ℕ) where
  pub absent_so : in_use_refusal list used ≡ 0 → within 1 (count is_p (lines_in_use list used)) k ≡ false → remove_refusal list used k ≡ 22
  unfolding remove_refusal
  absent_so e f = rw (e, f)

  pub present_so : in_use_refusal list used ≡ 0 → within 1 (count is_p (lines_in_use list used)) k ≡ true → remove_refusal list used k ≡ 0
  unfolding remove_refusal
  present_so e f = rw (e, f)

  pub remove_in_use : (refusal : Refusal) → in_use_refusal list used ≡ number refusal → remove_refusal list used k ≡ number refusal
  unfolding remove_refusal
  remove_in_use refusal e = refused_in_use refusal (in_use_refusal list used) _ e

  pub remove_refused : (refusal : Refusal) → remove_refusal list used k ≡ number refusal → (refused (number refusal) ≡ remove_entry list used k) × (list ≡ remove_entry_list list used k)
  unfolding remove_entry remove_entry_list
  remove_refused refusal e = (refused_reply refusal (remove_refusal list used k) _ e, sym (written_refused (remove_refusal list used k) _ list (omega (arith, e, number_from refusal))))

  pub remove_done : (n : ℕ) → n ≡ length (removed list used k) → remove_refusal list used k ≡ 0
      → (done n ≡ remove_entry list used k) × (written_over (removed list used k ++ replicate (used - length (removed list used k)) (pos 0)) list ≡ remove_entry_list list used k)
  unfolding remove_entry remove_entry_list
  remove_done n c e = rw (e, c) (refl, refl)

  -- what is left is within the list
  pub removed_fits : remove_refusal list used k ≡ 0 → length (removed list used k) ≤ length list
  unfolding remove_refusal removed
  removed_fits e =
      let b = in_use list used (first_passes (in_use_refusal list used) _ e) in
      let w = test_passes 21 (within 1 (count is_p (lines_in_use list used)) k) (rest_passes (in_use_refusal list used) _ e) in
      let n = ap length (removed_numbers k (lines_in_use list used) b.passed w) ∙ length-set (concat (without_entry k (lines_in_use list used))) 4 (pos (count is_p (lines_in_use list used) - 1)) in
      omega (arith, n, fewer_numbers k (lines_in_use list used), ap length b.back, b.long, b.room)
