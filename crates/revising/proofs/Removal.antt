-- Where the entry to remove stands, and what its removal makes of the list.
use Prim.Native.Nat.{ℕ, suc, ◌+◌, ◌-◌, ◌≤◌, ◌<◌}
use native.Mathlib.Omega.{arith}
use mathlib.Core.Path.{◌≡◌, refl, sym, ap, ◌∙◌}
use mathlib.Core.Bool.{true, false}
use mathlib.Core.List.{List, [], ◌∷◌, ◌++◌, append_assoc}
use borrow.Author.Tests.{eqb-true, ne_eqb, le-leb, leb-false}
use lib.Dec.{eqb, leb}
use lib.IntN.{ℤ, pos}
use lib.ListN.{length, get_or, take, drop, set, replicate, length-append, length-set, length-replicate, take-append-drop}
use lib.Seq.{length-take-le, take-append_seam, drop-append_seam}
use Rattle.laws.specs.Lists.{all, count, concat}
use Rattle.laws.proofs.Lists.{concat_++, all_++, count_cons}
use Rattle.laws.proofs.Tests.{by_test, both, both_of, between, clash}
use Rattle.meaning.specs.Questions.{within}
use Rattle.meaning.specs.Book.{in_list, is_p, size_of, is_whole}
use Rattle.meaning.specs.Reply.{written_over}
use Rattle.meaning.specs.Revision.{lines_in_use, without_entry, removed}
use Rattle.meaning.proofs.Ranges.{Passed}
use Rattle.meaning.proofs.Sizes.{four_numbers, whole_size}
use Rattle.meaning.proofs.Loaded.{size_append}
use Rattle.meaning.proofs.Revised.{b_record, passed_ind, removed_numbers, entry_at, without_at}
use Rattle.book.specs.Loaded.{size_at}
use Rattle.book.specs.Target.{entry_from, EntryHere, NoEntry}
use Rattle.std.proofs.Common.{Some, None}
use Rattle.std.proofs.lemmas.Option.{none-some, same_Some}
use Rattle.book.proofs.Cuts.{size_fits}
use Rattle.revising.proofs.Books.{InUse, set_first}

-- ════ the entry's place

-- behind the numbers of the lines before it
place_at : (before : List (List ℤ)) (line : List ℤ) (after : List (List ℤ)) (at : ℕ) → is_p line ≡ true → entry_from (suc (count is_p before)) at (before ++ (line ∷ after)) ≡ Some (at + length (concat before))
unfolding entry_from
place_at [] line after at p = rw p (ap Some (omega arith))
place_at (first ∷ rest) line after at p =
    let n = length-append first (concat rest) in
    by_test (is_p first)
    (λ t. let z : suc (suc (count is_p rest)) - 1 ≡ suc (count is_p rest) = omega arith in
    rw (t, ne_eqb (suc (suc (count is_p rest))) 1 (omega arith), z) (place_at rest line after (at + length first) p ∙ ap Some (omega arith)))
    (λ t. rw t (place_at rest line after (at + length first) p ∙ ap Some (omega arith)))

-- none, where there is no such entry
place_none : (k : ℕ) (lines : List (List ℤ)) (at : ℕ) → (1 ≤ k → count is_p lines < k) → entry_from k at lines ≡ None
unfolding entry_from
place_none k [] at h = refl
place_none k (first ∷ rest) at h =
    let c = count_cons is_p first rest in
    by_test (is_p first)
    (λ t. by_test (eqb k 1)
    (λ e. absurd (let o : k ≡ 1 = eqb-true k 1 e in let m : suc (count is_p rest) < k = rw t at (h (omega arith)) in omega arith))
    (λ e. rw (t, e) (place_none (k - 1) rest (at + length first) (λ l. let m : suc (count is_p rest) < k = rw t at (h (omega arith)) in omega arith))))
    (λ t. rw t (place_none k rest (at + length first) (λ l. rw t at (h l))))

-- the B record is before it
six_before : (lines : List (List ℤ)) → Passed in_list lines → (before : List (List ℤ)) (line : List ℤ) (after : List (List ℤ)) → lines ≡ before ++ (line ∷ after) → is_p line ≡ true → 6 ≤ length (concat before)
six_before = passed_ind (λ lines. (before : List (List ℤ)) (line : List ℤ) (after : List (List ℤ)) → lines ≡ before ++ (line ∷ after) → is_p line ≡ true → 6 ≤ length (concat before)) of
  where
    of : (d eta u : ℤ) (rest : List (List ℤ)) → Passed in_list (b_record d eta u rest ∷ rest) → (before : List (List ℤ)) (line : List ℤ) (after : List (List ℤ))
        → b_record d eta u rest ∷ rest ≡ before ++ (line ∷ after) → is_p line ≡ true → 6 ≤ length (concat before)
    of d eta u rest q [] line after e p = clash (ap is_p (ap (λ (ls : List (List ℤ)). get_or ls 0 []) e) ∙ p) refl
    of d eta u rest q (first ∷ more) line after e p =
        let f : b_record d eta u rest ≡ first = ap (λ (ls : List (List ℤ)). get_or ls 0 []) e in
        omega (arith, ap length f, length-append first (concat more))

-- ════ the entry in the list

-- where none was found, there is none
pub absent : {list : List ℤ} {used k : ℕ} → InUse list used → NoEntry (take used list) k → within 1 (count is_p (lines_in_use list used)) k ≡ false
absent {list} {used} {k} b f =
    let lines = lines_in_use list used in
    by_test (within 1 (count is_p lines) k)
    (λ t. let e = entry_at k lines t in
    absurd (none-some (0 + length (concat e.before)) (f.no_place ∙ ap (λ (ls : List (List ℤ)). entry_from k 0 ls) e.lines_are ∙ ap (λ (j : ℕ). entry_from j 0 (e.before ++ (e.line ∷ e.after))) e.number ∙ place_at e.before e.line e.after 0 e.is_p_lem)))
    (λ e. e)

module _ {list : List ℤ} {used k at : ℕ} (b : InUse list used) (f : EntryHere (take used list) k at) where
  abbrev lines : List (List ℤ)
  lines = lines_in_use list used

  -- the numbers of the lines before the entry, of its own line, and of those behind it
  record Cut : Type 0 where
    pub before : List ℤ
    pub line : List ℤ
    pub after : List ℤ
    pub book_is : take used list ≡ before ++ (line ++ after)
    pub place : at ≡ length before
    pub left : removed list used k ≡ set (before ++ after) 4 (pos (count is_p lines - 1))
    pub six : 6 ≤ length before
    pub four : 4 ≤ length line
    pub size : size_at (take used list) at ≡ length line

  cut_of : within 1 (count is_p lines) k ≡ true → Cut
  unfolding removed
  cut_of w =
      let e = entry_at k lines w in
      let u : concat e.before ++ (e.line ++ concat e.after) ≡ take used list = sym (concat_++ e.before (e.line ∷ e.after)) ∙ ap concat (sym e.lines_are) ∙ b.back in
      let p : at ≡ length (concat e.before) = same_Some at (0 + length (concat e.before)) (f.place_is ∙ ap (λ (ls : List (List ℤ)). entry_from k 0 ls) e.lines_are ∙ ap (λ (j : ℕ). entry_from j 0 (e.before ++ (e.line ∷ e.after))) e.number ∙ place_at e.before e.line e.after 0 e.is_p_lem) ∙ omega arith in
      let whole : is_whole in_list e.line ≡ true = (both (is_whole in_list e.line) _ (both (all (is_whole in_list) e.before) _ (sym (all_++ (is_whole in_list) e.before (e.line ∷ e.after)) ∙ ap (all (is_whole in_list)) (sym e.lines_are) ∙ b.passed.whole)).1).0 in
      let behind : drop at (take used list) ≡ e.line ++ concat e.after = ap (drop at) (sym u) ∙ ap (λ (j : ℕ). drop j (concat e.before ++ (e.line ++ concat e.after))) p ∙ drop-append_seam (concat e.before) (e.line ++ concat e.after) in
      let size_is : length e.line ≡ size_of in_list (drop at (take used list)) = whole_size in_list e.line whole ∙ sym (size_append e.line (concat e.after) whole) ∙ ap (size_of in_list) (sym behind) in
      let long = length-append (concat e.before) (e.line ++ concat e.after) in
      let more = length-append e.line (concat e.after) in
      let all = ap length u in
      record {
        before = concat e.before;
        line = e.line;
        after = concat e.after;
        book_is = sym u;
        place = p;
        left =
            removed_numbers k lines b.passed w
            ∙ ap (λ (ls : List (List ℤ)). set (concat ls) 4 (pos (count is_p lines - 1))) (ap (λ (ls : List (List ℤ)). without_entry k ls) e.lines_are ∙ ap (λ (j : ℕ). without_entry j (e.before ++ (e.line ∷ e.after))) e.number ∙ without_at e.before e.line e.after e.is_p_lem)
            ∙ ap (λ (xs : List ℤ). set xs 4 (pos (count is_p lines - 1))) (concat_++ e.before e.after);
        six = six_before lines b.passed e.before e.line e.after e.lines_are e.is_p_lem;
        four = four_numbers in_list e.line whole;
        size = sym (size_fits (take used list) at (length e.line) size_is (omega arith));
      }

  -- where one was found, there is one
  pub present : within 1 (count is_p lines) k ≡ true
  present =
      by_test (within 1 (count is_p lines) k) (λ t. t)
      (λ e. absurd (none-some at (sym (f.place_is ∙ place_none k lines 0 (outside e)))))
    where
      outside : within 1 (count is_p lines) k ≡ false → 1 ≤ k → count is_p lines < k
      outside e l =
          by_test (leb k (count is_p lines))
          (λ t. clash (both_of (le-leb 1 k l) t) e)
          (λ t. leb-false k (count is_p lines) t)

  -- the numbers then in use
  pub removed_long : (size : ℕ) → size ≡ size_at (take used list) at → (length (removed list used k) ≡ used - size) × (size ≤ used - at)
  removed_long size s =
      let c = cut_of present in
      let n = ap length c.left ∙ length-set (c.before ++ c.after) 4 (pos (count is_p lines - 1)) ∙ length-append c.before c.after in
      let m = ap length c.book_is in
      omega (arith, s, c.size, c.place, b.long, length-append c.before (c.line ++ c.after), length-append c.line c.after)

  -- and the list is as long as before
  pub removed_room : (size : ℕ) → size ≡ size_at (take used list) at → (part : List ℤ) → part ≡ drop size (take (used - at) (drop at list)) ++ replicate size (pos 0)
      → 6 ≤ length (take at list ++ (part ++ drop (used - at) (drop at list)))
  removed_room size s part e =
      let c = cut_of present in
      let front : length (take at list) ≡ at = length-take-le at list (omega (arith, b.room)) in
      omega (arith, c.six, c.place, length-append (take at list) (part ++ drop (used - at) (drop at list)))

  -- one P line at least is there
  pub one_phrase : 1 ≤ count is_p lines
  one_phrase = let w = between 1 (count is_p lines) k present in omega arith

  -- the list, once the entry's numbers are taken out, as code's `&mut list[at..used]` has it, and no longer counted
  pub removed_put : (size : ℕ) → size ≡ size_at (take used list) at → (part : List ℤ) → part ≡ drop size (take (used - at) (drop at list)) ++ replicate size (pos 0)
      → set (take at list ++ (part ++ drop (used - at) (drop at list))) 4 (pos (count is_p lines - 1)) ≡ written_over (removed list used k ++ replicate (used - length (removed list used k)) (pos 0)) list
  removed_put size s part e =
      let c = cut_of present in
      let v = pos (count is_p lines - 1) in
      let zeros = replicate size (pos 0) in
      let tail = drop used list in
      let n : size ≡ length c.line = s ∙ c.size in
      let all : list ≡ c.before ++ ((c.line ++ c.after) ++ tail) = sym (take-append-drop used list) ∙ ap (λ (l : List ℤ). l ++ tail) c.book_is ∙ append_assoc c.before (c.line ++ c.after) tail in
      let front : take at list ≡ c.before = ap (take at) all ∙ ap (λ (j : ℕ). take j (c.before ++ ((c.line ++ c.after) ++ tail))) c.place ∙ take-append_seam c.before ((c.line ++ c.after) ++ tail) in
      let behind : drop at list ≡ (c.line ++ c.after) ++ tail = ap (drop at) all ∙ ap (λ (j : ℕ). drop j (c.before ++ ((c.line ++ c.after) ++ tail))) c.place ∙ drop-append_seam c.before ((c.line ++ c.after) ++ tail) in
      let long : used - at ≡ length (c.line ++ c.after) = omega (arith, c.place, b.long, ap length c.book_is, length-append c.before (c.line ++ c.after)) in
      let middle : take (used - at) (drop at list) ≡ c.line ++ c.after = ap (take (used - at)) behind ∙ ap (λ (j : ℕ). take j ((c.line ++ c.after) ++ tail)) long ∙ take-append_seam (c.line ++ c.after) tail in
      let end : drop (used - at) (drop at list) ≡ tail = ap (drop (used - at)) behind ∙ ap (λ (j : ℕ). drop j ((c.line ++ c.after) ++ tail)) long ∙ drop-append_seam (c.line ++ c.after) tail in
      let kept : part ≡ c.after ++ zeros = e ∙ ap (λ (l : List ℤ). drop size l ++ zeros) middle ∙ ap (λ (j : ℕ). drop j (c.line ++ c.after) ++ zeros) n ∙ ap (λ (l : List ℤ). l ++ zeros) (drop-append_seam c.line c.after) in
      let left : removed list used k ≡ set c.before 4 v ++ c.after = c.left ∙ set_first c.before c.after 4 v (omega (arith, c.six)) in
      let freed : used - length (removed list used k) ≡ size = let m = removed_long size s in omega (arith, m.0, m.1) in
      let whole : length (removed list used k ++ replicate (used - length (removed list used k)) (pos 0)) ≡ used =
      length-append (removed list used k) _ ∙ (let m = removed_long size s in let z = length-replicate {A = ℤ} (used - length (removed list used k)) (pos 0) in omega (arith, m.0, m.1)) in
      rw (front, kept, end)
      (set_first c.before ((c.after ++ zeros) ++ tail) 4 v (omega (arith, c.six))
      ∙ ap (λ (l : List ℤ). set c.before 4 v ++ l) (append_assoc c.after zeros tail)
      ∙ sym (append_assoc (set c.before 4 v) c.after (zeros ++ tail))
      ∙ ap (λ (l : List ℤ). l ++ (zeros ++ tail)) (sym left)
      ∙ sym (append_assoc (removed list used k) zeros tail)
      ∙ ap (λ (j : ℕ). (removed list used k ++ replicate j (pos 0)) ++ tail) (sym freed)
      ∙ ap (λ (j : ℕ). (removed list used k ++ replicate (used - length (removed list used k)) (pos 0)) ++ drop j list) (sym whole))
