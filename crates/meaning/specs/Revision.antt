-- Ticket 5: an entry is added to a loaded book, or removed from one. "The caller names the numbers in use", which are the book; the places behind
-- them are the unused tail of the lent list.
use Rattle.std.specs.Prelude.{ℕ, ◌-◌, ◌&&◌, List, [], ◌∷◌, ◌++◌, leb, ℤ, pos, length, take, replicate}
use Rattle.laws.specs.Lists.{count, without_by}
use Rattle.meaning.specs.Questions.{◌unless◌, ◌orelse◌, within}
use Rattle.meaning.specs.Book.{in_list, is_p, is_whole, is_in_range, is_not_too_long, loaded_lines, book_refusal, loaded_book}
use Rattle.meaning.specs.Reply.{Reply, reply, written_if}

-- the lines of the book
abbrev pub lines_in_use : List ℤ → ℕ → List (List ℤ)
lines_in_use list used = loaded_lines (take used list)

-- "more than the list holds is 7, before all else"; then the questions of the book
unfoldable pub in_use_refusal : List ℤ → ℕ → ℕ
in_use_refusal list used =
    7 unless leb used (length list)
    orelse book_refusal (take used list)

-- ════ adding

-- "A P line, given as loaded numbers, can be added after the last line of a loaded book"
abbrev pub with_entry : List (List ℤ) → List ℤ → List (List ℤ)
with_entry lines line = lines ++ (line ∷ [])

-- the numbers in use with it
unfoldable pub added : List ℤ → ℕ → List ℤ → List ℤ
added list used line = loaded_book (with_entry (lines_in_use list used) line)

-- "An added line, once the book has passed, answers 2 (no numbers, another kind or numbers left over too), 4, 5 and 7 as in reading."
abbrev pub line_refusal : List ℤ → ℕ → List ℤ → ℕ
line_refusal list used line =
    2 unless (is_p line && is_whole in_list line)
    orelse 4 unless is_in_range line
    orelse 5 unless is_not_too_long (with_entry (lines_in_use list used) line)
    orelse 7 unless leb (length (added list used line)) (length list)

unfoldable pub add_refusal : List ℤ → ℕ → List ℤ → ℕ
add_refusal list used line = in_use_refusal list used orelse line_refusal list used line

-- "Each such call reports the numbers then in use."
unfoldable pub add_entry : List ℤ → ℕ → List ℤ → Reply ℕ
add_entry list used line = reply (add_refusal list used line) (length (added list used line))

-- "The unused tail of the lent list is unchanged by an addition"
unfoldable pub add_entry_list : List ℤ → ℕ → List ℤ → List ℤ
add_entry_list list used line = written_if (add_refusal list used line) (added list used line) list

-- ════ removing

-- "or an entry removed; later entries then move down by one": the lines without the k-th P line
unfoldable pub without_entry : ℕ → List (List ℤ) → List (List ℤ)
without_entry k lines = without_by is_p k lines

-- the numbers in use without it
unfoldable pub removed : List ℤ → ℕ → ℕ → List ℤ
removed list used k = loaded_book (without_entry k (lines_in_use list used))

-- "22, after all book checks, when the entry to remove is absent"
unfoldable pub remove_refusal : List ℤ → ℕ → ℕ → ℕ
remove_refusal list used k =
    in_use_refusal list used
    orelse 22 unless within 1 (count is_p (lines_in_use list used)) k

-- "Each such call reports the numbers then in use."
unfoldable pub remove_entry : List ℤ → ℕ → ℕ → Reply ℕ
remove_entry list used k = reply (remove_refusal list used k) (length (removed list used k))

-- the tail is "zero where a removal frees it"
unfoldable pub remove_entry_list : List ℤ → ℕ → ℕ → List ℤ
remove_entry_list list used k =
    written_if (remove_refusal list used k) (removed list used k ++ replicate (used - length (removed list used k)) (pos 0)) list
