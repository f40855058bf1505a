-- The walk to an entry's P line: with the P lines still to come and the lines that are left, the part sought stays the same.
use Prim.Native.Nat.{ℕ, ◌+◌, ◌-◌, ◌≤◌}
use native.Mathlib.Omega.{arith}
use mathlib.Core.Path.{◌≡◌, refl, sym, ◌∙◌, ap}
use mathlib.Core.Bool.{true, false, ◌&&◌, cond}
use mathlib.Core.List.{List, [], ◌∷◌}
use borrow.Author.Tests.{eqb-true, ne_eqb}
use lib.Dec.{eqb}
use lib.IntN.{ℤ, pos}
use lib.ListN.{length, take, drop, drop_of_length-le}
use lib.Seq.{get_or-drop}
use Rattle.laws.specs.Integers.{nat_of}
use Rattle.laws.specs.Lists.{all}
use Rattle.laws.proofs.Lists.{part_size}
use Rattle.laws.proofs.Order.{yes_≡}
use Rattle.laws.proofs.Tests.{by_test, both}
use Rattle.meaning.specs.Book.{in_list, number_at, natural_at, is_p, is_phrase_length, size_of, is_whole, loaded_lines, Part, target_part_from, part_of, book_refusal, target_part}
use Rattle.meaning.proofs.Ranges.{lines_passed}
use Rattle.book.specs.declared.target.Part.{Part as Found}
use Rattle.std.proofs.Common.{Some, None}
use Rattle.book.specs.Target.{entry_from, EntryHere, NoEntry, IsPart}
use Rattle.book.proofs.Cuts.{LineAt, lines_end, line_number, kind_same, line_long}

-- a whole P line at `at` has a + b + 4 numbers
pub phrase_long : (loaded : List ℤ) (at size : ℕ) → LineAt loaded at size → is_p (drop at loaded) ≡ true → size ≡ natural_at loaded (at + 1) + natural_at loaded (at + 2) + 4
unfolding size_of
phrase_long loaded at size l p =
    let k : number_at (drop at loaded) 0 ≡ pos 2 = yes_≡ (number_at (drop at loaded) 0) (pos 2) p in
    let n = rw k at l.size_is in
    let a = ap nat_of (get_or-drop at loaded 1 (pos 0)) in
    let b = ap nat_of (get_or-drop at loaded 2 (pos 0)) in
    by_test (is_phrase_length (number_at (drop at loaded) 1) && is_phrase_length (number_at (drop at loaded) 2))
    (λ t. omega (arith, rw t at n, a, b))
    (λ f. absurd (omega (arith, rw f at n, l.some)))

-- so it has where the line sought is one
phrase_here : (loaded : List ℤ) (at size left : ℕ) → LineAt loaded at size → is_p (drop at loaded) && eqb left 1 ≡ true → size ≡ natural_at loaded (at + 1) + natural_at loaded (at + 2) + 4
phrase_here loaded at size left l e = phrase_long loaded at size l (both (is_p (drop at loaded)) (eqb left 1) e).0

part_here : (k at : ℕ) (line : List ℤ) (lines : List (List ℤ)) → is_p line && eqb k 1 ≡ true
    → target_part_from k at (line ∷ lines) ≡ record { start = at + 3 + natural_at line 1; size = natural_at line 2 }
unfolding target_part_from
part_here k at line lines e = rw (e, target_part_from)

part_next : (k at : ℕ) (line : List ℤ) (lines : List (List ℤ)) → is_p line && eqb k 1 ≡ false
    → target_part_from k at (line ∷ lines) ≡ target_part_from (cond (is_p line) (k - 1) k) (at + length line) lines
unfolding target_part_from
part_next k at line lines e = rw (e, target_part_from)

part_end : (k at : ℕ) → target_part_from k at [] ≡ record { start = at; size = 0 }
unfolding target_part_from
part_end k at = refl

place_here : (k at : ℕ) (line : List ℤ) (lines : List (List ℤ)) → is_p line && eqb k 1 ≡ true → entry_from k at (line ∷ lines) ≡ Some at
unfolding entry_from
place_here k at line lines e = rw e

place_next : (k at : ℕ) (line : List ℤ) (lines : List (List ℤ)) → is_p line && eqb k 1 ≡ false → entry_from k at (line ∷ lines) ≡ entry_from (cond (is_p line) (k - 1) k) (at + length line) lines
unfolding entry_from
place_next k at line lines e = rw e

place_end : (k at : ℕ) → entry_from k at [] ≡ None
unfolding entry_from
place_end k at = refl

-- the invariant: entry `entry` of the list is the `left`-th P line from `at` on
pub record Sought (loaded : List ℤ) (entry left at : ℕ) : Type 0 where
  pub inside : at ≤ length loaded
  pub whole : all (is_whole in_list) (loaded_lines (drop at loaded)) ≡ true
  pub same : target_part_from left at (loaded_lines (drop at loaded)) ≡ target_part_from entry 0 (loaded_lines loaded)
  pub place : entry_from left at (loaded_lines (drop at loaded)) ≡ entry_from entry 0 (loaded_lines loaded)

module _ {loaded : List ℤ} {entry left at size : ℕ} (f : Sought loaded entry left at) (l : LineAt loaded at size) where
  -- the line's kind, in the list and by itself
  kind : is_p (take size (drop at loaded)) ≡ is_p (drop at loaded)
  kind = kind_same loaded at size l

  pub sought_here : is_p (drop at loaded) ≡ true → left ≡ 1 → EntryHere loaded entry at
  sought_here p q =
      let e : is_p (drop at loaded) && eqb left 1 ≡ true = rw (p, q) in
      let n = phrase_here loaded at size left l e in
      let h = l.inside in
      record {
        place_is = sym (sym f.place ∙ ap (entry_from left at) l.lines ∙ place_here left at (take size (drop at loaded)) _ (rw kind e));
        room = omega arith;
        target =
            sym f.same ∙ ap (target_part_from left at) l.lines ∙ part_here left at (take size (drop at loaded)) _ (rw kind e)
            ∙ rw (line_number loaded at size 1 (omega arith), line_number loaded at size 2 (omega arith));
      }

  sought_next : is_p (drop at loaded) && eqb left 1 ≡ false → Sought loaded entry (cond (is_p (drop at loaded)) (left - 1) left) (at + size)
  sought_next e =
      record {
        inside = l.inside;
        whole = (both (is_whole in_list (take size (drop at loaded))) _ (sym (ap (all (is_whole in_list)) l.lines) ∙ f.whole)).1;
        same = sym (sym f.same ∙ ap (target_part_from left at) l.lines ∙ part_next left at (take size (drop at loaded)) _ (rw kind e) ∙ rw (kind, line_long loaded at size l));
        place = sym (sym f.place ∙ ap (entry_from left at) l.lines ∙ place_next left at (take size (drop at loaded)) _ (rw kind e) ∙ rw (kind, line_long loaded at size l));
      }

  -- a line that is not the one: of another kind, or a P line before it
  pub sought_other : is_p (drop at loaded) ≡ false → Sought loaded entry left (at + size)
  sought_other p = rw p at (sought_next (rw p))

  pub sought_later : is_p (drop at loaded) ≡ true → (left ≡ 1 → ⊥) → Sought loaded entry (left - 1) (at + size)
  sought_later p n = rw p at (sought_next (rw (p, ne_eqb left 1 n)))

pub sought_end : {loaded : List ℤ} {entry left at : ℕ} → Sought loaded entry left at → length loaded ≤ at → NoEntry loaded entry
sought_end {loaded} {entry} {left} {at} f h =
    let none : loaded_lines (drop at loaded) ≡ [] = ap loaded_lines (drop_of_length-le loaded h) ∙ lines_end in
    let z : at ≡ length loaded = omega (arith, f.inside) in
    record {
      no_place = sym (sym f.place ∙ ap (entry_from left at) none ∙ place_end left at);
      no_target = sym f.same ∙ ap (target_part_from left at) none ∙ part_end left at ∙ rw z;
    }

-- the part that was found, as code takes it
pub part_is : {loaded : List ℤ} {found : Found} {part : Part} → IsPart loaded found part
    → take ((found.start + found.size) - found.start) (drop found.start loaded) ≡ part_of part loaded
unfolding part_of
part_is {loaded} {found} {part} p = part_size loaded found.start found.size ∙ rw (p.start_is, p.size_is)

-- ---- a list that 2 to 6 pass, and one that they refuse

pub target_passed : (loaded : List ℤ) (entry : ℕ) → eqb (book_refusal loaded) 0 ≡ true → target_part loaded entry ≡ target_part_from entry 0 (loaded_lines loaded)
unfolding target_part
target_passed loaded entry t = rw t

pub target_refused : (loaded : List ℤ) (entry : ℕ) → eqb (book_refusal loaded) 0 ≡ false → target_part loaded entry ≡ record { start = length loaded; size = 0 }
unfolding target_part
target_refused loaded entry f = rw f

pub passed_whole : (loaded : List ℤ) → eqb (book_refusal loaded) 0 ≡ true → all (is_whole in_list) (loaded_lines loaded) ≡ true
unfolding book_refusal
passed_whole loaded t = (lines_passed in_list (loaded_lines loaded) (eqb-true (book_refusal loaded) 0 t)).whole
