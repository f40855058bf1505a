-- Where an entry stands in the list, and a part of a list as code has it: as two numbers, and as a part of the caller's list itself.
use Rattle.std.specs.Prelude.{ℕ, ◌+◌, ◌-◌, ◌*◌, ◌≤◌, ◌≡◌, ◌&&◌, cond, Option, Some, None, List, [], ◌∷◌, eqb, ℤ, length}
use Rattle.std.specs.Borrow.{Bor}
use Rattle.meaning.specs.Book.{natural_at, is_p, loaded_lines, Part, target_part_from, part_of}
use Rattle.book.specs.declared.target.Part.{Part as Found}

-- where the P line of entry k stands, among the lines that stand from `at` on; none where there is no entry k
unfoldable pub entry_from : ℕ → ℕ → List (List ℤ) → Option ℕ
entry_from k at [] = None
entry_from k at (line ∷ lines) = cond (is_p line && eqb k 1) (Some at) (entry_from (cond (is_p line) (k - 1) k) (at + length line) lines)

-- a whole P line stands there, with its target words
pub record EntryHere (loaded : List ℤ) (k at : ℕ) : Type 0 where
  pub place_is : Some at ≡ entry_from k 0 (loaded_lines loaded)
  pub room : at + (natural_at loaded (at + 1) + natural_at loaded (at + 2) + 4) ≤ length loaded
  pub target : target_part_from k 0 (loaded_lines loaded) ≡ record { start = at + 3 + natural_at loaded (at + 1); size = natural_at loaded (at + 2) }

-- there is no entry k
pub record NoEntry (loaded : List ℤ) (k : ℕ) : Type 0 where
  pub no_place : None ≡ entry_from k 0 (loaded_lines loaded)
  pub no_target : target_part_from k 0 (loaded_lines loaded) ≡ record { start = length loaded; size = 0 }

-- it is the place of entry k, if there is one
abbrev pub EntryFound : List ℤ → ℕ → Option ℕ → Type 0
EntryFound loaded k None = NoEntry loaded k
EntryFound loaded k (Some at) = EntryHere loaded k at

-- it is that part, and it lies within the list
pub record IsPart (loaded : List ℤ) (found : Found) (part : Part) : Type 0 where
  pub start_is : found.start ≡ part.start
  pub size_is : found.size ≡ part.size
  pub inside : found.start + found.size ≤ length loaded

-- a reference to that part of the list that `list` refers to: the same numbers, at their place in the same memory, four bytes to a number
pub record IsPartOf (list r : Bor (List ℤ)) (part : Part) : Type 0 where
  pub numbers : r.now ≡ part_of part list.now
  pub place : r.ref_ptr ≡ (list.ref_ptr.0, part.start * 4 + list.ref_ptr.1)
