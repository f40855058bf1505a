-- Ticket 5: additions and removals, the refusal that each gets (0 where nothing is wrong), and the whole list afterwards, computed from the definitions.
use Prim.Native.Nat.{ℕ}
use mathlib.Core.Path.{◌≡◌, refl}
use mathlib.Core.Bool.{Bool, true}
use mathlib.Core.List.{List, [], ◌∷◌, ◌++◌}
use lib.IntN.{ℤ, pos, negsuc}
use lib.ListN.{take, drop, set, replicate}
use Rattle.laws.specs.Integers.{eqℤ}
use Rattle.laws.specs.Lists.{all, eq_list}
use Rattle.meaning.specs.Revision.{add_refusal, add_entry, add_entry_list, remove_refusal, remove_entry, remove_entry_list}
use Rattle.meaning.proofs.Computing.{computing}
use Rattle.meaning.proofs.Refusals.{Row, agrees, b_line, p_line, t_line, u_line, d_line}
use Rattle.theorems.proofs.Edits.{reported}

-- unused places
abbrev pub spare : ℕ → List ℤ
spare n = replicate n (pos 7)

-- two more P lines, of 7 and of 8 numbers
abbrev pub p_line2 : List ℤ
p_line2 = pos 2 ∷ pos 2 ∷ pos 1 ∷ pos 11 ∷ pos 12 ∷ pos 102 ∷ negsuc 29 ∷ []

abbrev pub p_line3 : List ℤ
p_line3 = pos 2 ∷ pos 2 ∷ pos 2 ∷ pos 11 ∷ pos 12 ∷ pos 102 ∷ pos 101 ∷ negsuc 69 ∷ []

-- lines of other kinds
abbrev pub others : List ℤ
others = d_line ++ set u_line 1 (pos 102)

-- a book of three P lines with others before, between and behind them: 45 numbers
abbrev pub book3 : List ℤ
book3 = b_line 3 1 ++ u_line ++ p_line ++ t_line ++ p_line2 ++ p_line3 ++ others

-- ════ additions

-- to a B line alone, with so many places behind it
abbrev pub adds : ℕ → List ℤ → ℕ
adds places line = add_refusal (b_line 0 0 ++ spare places) 6 line

unfoldable pub additions : List Row
additions =
    (adds 9 p_line, 0)
    -- 7: used past the list, before all else; no room; one place too few; exactly enough
    ∷ (add_refusal (b_line 0 0) 7 p_line, 7)
    ∷ (add_refusal (b_line 1 0) 7 [], 7)
    ∷ (add_refusal [] 1 [], 7)
    ∷ (adds 0 p_line, 7)
    ∷ (adds 5 p_line, 7)
    ∷ (adds 6 p_line, 0)
    -- 2: another kind; no numbers; a number left over; one missing; a = 0; b = 9. Each before 7
    ∷ (adds 0 (b_line 0 0), 2)
    ∷ (adds 0 t_line, 2)
    ∷ (adds 0 u_line, 2)
    ∷ (adds 0 d_line, 2)
    ∷ (adds 0 (pos 6 ∷ drop 1 p_line), 2)
    ∷ (adds 0 (negsuc 1 ∷ drop 1 p_line), 2)
    ∷ (adds 0 [], 2)
    ∷ (adds 0 (p_line ++ (pos 0 ∷ [])), 2)
    ∷ (adds 0 (p_line ++ p_line), 2)
    ∷ (adds 0 (take 5 p_line), 2)
    ∷ (adds 0 (take 1 p_line), 2)
    ∷ (adds 0 (set p_line 1 (pos 0)), 2)
    ∷ (adds 0 (set p_line 2 (pos 9)), 2)
    -- 4: a word; a score; before 7
    ∷ (adds 0 (set p_line 3 (pos 0)), 4)
    ∷ (adds 0 (set p_line 4 (pos 65_536)), 4)
    ∷ (adds 0 (set p_line 5 (pos 1_000_001)), 4)
    ∷ (adds 6 (set p_line 5 (pos 1_000_000)), 0)
    -- the book's own questions before the line's: 3 where no numbers are in use, 2 where the last line is cut off, 4, 21, 6 and 20
    ∷ (add_refusal (b_line 0 0 ++ spare 6) 0 [], 3)
    ∷ (add_refusal (b_line 1 0 ++ p_line ++ spare 6) 11 [], 2)
    ∷ (add_refusal (set (b_line 0 0) 1 (pos 33) ++ spare 6) 6 [], 4)
    ∷ (add_refusal (b_line 1 0 ++ spare 6) 6 [], 21)
    ∷ (add_refusal (b_line 1 0 ++ spare 6) 6 p_line, 21)
    ∷ (add_refusal (b_line 0 2 ++ t_line ++ t_line) 16 [], 6)
    ∷ (add_refusal (b_line 0 0 ++ u_line ++ u_line) 14 [], 20)
    -- any book; an entry that is there already
    ∷ (add_refusal (book3 ++ spare 8) 45 p_line3, 0)
    ∷ (add_refusal (book3 ++ spare 7) 45 p_line3, 7)
    -- the numbers then in use; 100 stands for a refusal
    ∷ (reported 100 (add_entry (b_line 0 0 ++ spare 9) 6 p_line), 12)
    ∷ (reported 100 (add_entry (book3 ++ spare 8) 45 p_line3), 53)
    ∷ (reported 100 (add_entry (book3 ++ spare 7) 45 p_line3), 100)
    ∷ []

pub additions_agree : all agrees additions ≡ true
unfolding computing additions
additions_agree = refl

-- ════ removals

-- of entry k of the book of three, 20 places behind it
abbrev pub removes : ℕ → ℕ
removes k = remove_refusal (book3 ++ spare 20) 45 k

unfoldable pub removals : List Row
removals =
    (removes 1, 0)
    ∷ (removes 2, 0)
    ∷ (removes 3, 0)
    -- 22: entry 0, one past the last, of a book of none
    ∷ (removes 0, 22)
    ∷ (removes 4, 22)
    ∷ (remove_refusal (b_line 0 0) 6 1, 22)
    ∷ (remove_refusal (b_line 0 1 ++ t_line) 11 1, 22)
    -- 7 before all else, and the book's questions before 22
    ∷ (remove_refusal (b_line 0 0) 7 0, 7)
    ∷ (remove_refusal [] 1 0, 7)
    ∷ (remove_refusal (b_line 0 0) 0 0, 3)
    ∷ (remove_refusal (b_line 0 0) 5 0, 2)
    ∷ (remove_refusal (b_line 1 0) 6 1, 21)
    ∷ (remove_refusal (b_line 0 2 ++ t_line ++ t_line) 16 0, 6)
    -- the numbers then in use; 100 stands for a refusal
    ∷ (reported 100 (remove_entry (book3 ++ spare 20) 45 1), 39)
    ∷ (reported 100 (remove_entry (book3 ++ spare 20) 45 2), 38)
    ∷ (reported 100 (remove_entry book3 45 3), 37)
    ∷ (reported 100 (remove_entry book3 45 4), 100)
    ∷ []

pub removals_agree : all agrees removals ≡ true
unfolding computing removals
removals_agree = refl

-- ════ the whole list afterwards

-- a list, and what it should be
abbrev pub ListRow : Type 0
ListRow = List ℤ × List ℤ

abbrev pub is_same : ListRow → Bool
is_same row = eq_list eqℤ row.0 row.1

-- zeros that a removal leaves
abbrev pub zeros : ℕ → List ℤ
zeros n = replicate n (pos 0)

unfoldable pub lists : List ListRow
lists =
    -- the unused tail is unchanged by an addition
    (add_entry_list (b_line 0 0 ++ spare 6) 6 p_line, b_line 1 0 ++ p_line)
    ∷ (add_entry_list (b_line 0 0 ++ spare 9) 6 p_line, b_line 1 0 ++ p_line ++ spare 3)
    ∷ (add_entry_list (book3 ++ spare 9) 45 p_line2, set book3 4 (pos 4) ++ p_line2 ++ spare 2)
    -- and all of the list by a refused call
    ∷ (add_entry_list (b_line 0 0 ++ spare 5) 6 p_line, b_line 0 0 ++ spare 5)
    ∷ (add_entry_list (b_line 0 0 ++ spare 9) 6 t_line, b_line 0 0 ++ spare 9)
    ∷ (remove_entry_list (book3 ++ spare 2) 45 4, book3 ++ spare 2)
    -- the first entry, one between, the last: later lines move down, zeros fill the places that are free, and the tail behind them is unchanged
    ∷ (remove_entry_list (book3 ++ spare 2) 45 1, b_line 2 1 ++ u_line ++ t_line ++ p_line2 ++ p_line3 ++ others ++ zeros 6 ++ spare 2)
    ∷ (remove_entry_list (book3 ++ spare 2) 45 2, b_line 2 1 ++ u_line ++ p_line ++ t_line ++ p_line3 ++ others ++ zeros 7 ++ spare 2)
    ∷ (remove_entry_list (book3 ++ spare 2) 45 3, b_line 2 1 ++ u_line ++ p_line ++ t_line ++ p_line2 ++ others ++ zeros 8 ++ spare 2)
    -- the only one; equal ones, of which the second goes; the last line of a full list
    ∷ (remove_entry_list (b_line 1 0 ++ p_line ++ spare 1) 12 1, b_line 0 0 ++ zeros 6 ++ spare 1)
    ∷ (remove_entry_list (b_line 2 1 ++ p_line ++ t_line ++ p_line) 23 2, b_line 1 1 ++ p_line ++ t_line ++ zeros 6)
    -- an addition and the removal of the new entry
    ∷ (remove_entry_list (add_entry_list (book3 ++ spare 9) 45 p_line2) 52 4, book3 ++ zeros 7 ++ spare 2)
    ∷ []

pub lists_agree : all is_same lists ≡ true
unfolding computing lists
lists_agree = refl
