-- Ticket 6: an ARPA text imported "to U, D and T lines, put after the last line of a loaded book lent as in Ticket 5, through a word list".
use Rattle.std.specs.Prelude.{ℕ, ◌-◌, Bool, not, ◌&&◌, ◌||◌, List, [], ◌∷◌, ◌++◌, map, leb, ℤ, pos, length, get_or, set, take}
use Rattle.laws.specs.Lists.{all, any, keep}
use Rattle.meaning.specs.Questions.{◌unless◌, ◌orelse◌}
use Rattle.meaning.specs.Book.{number_at, is_score, is_weight, book_refusal, loaded_book}
use Rattle.meaning.specs.Reply.{Reply, reply, written_if}
use Rattle.meaning.specs.Revision.{lines_in_use}
use Rattle.arpa.specs.Lines.{eq_bytes}
use Rattle.arpa.specs.File.{Ngram, unknown_word, is_unknown, ngrams_of, is_arpa}
use Rattle.arpa.specs.Words.{start_word, word_number, is_known}

-- ════ which n-grams are passed over

-- `</s>`
abbrev pub stop_word : List ℕ
stop_word = 60 ∷ 47 ∷ 115 ∷ 62 ∷ []

-- the n-gram holds the word
abbrev pub holds : List ℕ → Ngram → Bool
holds word g = any (λ w. eq_bytes w word) g.words

-- it is longer than a word
abbrev pub is_longer : Ngram → Bool
is_longer g = leb 2 (length g.words)

-- its last word is that one
abbrev pub ends_in : List ℕ → Ngram → Bool
ends_in word g = eq_bytes (get_or g.words (length g.words - 1) []) word

-- "longer n-grams that hold it or end in `<s>`, and n-grams that hold `</s>` are passed over"
unfoldable pub is_passed_over : Ngram → Bool
is_passed_over g = holds stop_word g || (is_longer g && (holds unknown_word g || ends_in start_word g))

-- it becomes a line; `<unk>` alone becomes u
unfoldable pub is_imported : Ngram → Bool
is_imported g = not (is_passed_over g) && not (is_unknown g)

-- those that become lines, "in the file's order"
unfoldable pub imported_of : List ℕ → List Ngram
imported_of text = keep is_imported (ngrams_of text)

-- `<unk>` alone, where the file lists it
unfoldable pub unknown_of : List ℕ → List Ngram
unknown_of text = keep is_unknown (ngrams_of text)

-- ════ what becomes of the others

-- the line of an n-gram with these words, "U,y,s,k", "D,w,y,s,k" or "T,v,w,y,s"; the kinds are 4, 5 and 3
abbrev pub line_of : List ℕ → ℤ → ℤ → List ℤ
line_of [] s k = []
line_of (y ∷ []) s k = pos 4 ∷ pos y ∷ s ∷ k ∷ []
line_of (w ∷ y ∷ []) s k = pos 5 ∷ pos w ∷ pos y ∷ s ∷ k ∷ []
line_of (v ∷ w ∷ y ∷ []) s k = pos 3 ∷ pos v ∷ pos w ∷ pos y ∷ s ∷ []
line_of (t ∷ v ∷ w ∷ y ∷ words) s k = []

unfoldable pub imported_line : List ℕ → Ngram → List ℤ
imported_line list g = line_of (map (word_number list) g.words) g.score g.weight

-- the lines of a file
unfoldable pub imported_lines : List ℕ → List ℕ → List (List ℤ)
imported_lines text list = map (imported_line list) (imported_of text)

-- "`<unk>` sets u (the caller's u stays where the file has none)"
abbrev pub unseen_by : List Ngram → ℤ → ℤ
unseen_by [] u = u
unseen_by (g ∷ gs) u = g.score

-- a book's lines with that u
abbrev pub with_unseen : List Ngram → List (List ℤ) → List (List ℤ)
with_unseen unknown [] = []
with_unseen unknown (line ∷ lines) = set line 3 (unseen_by unknown (number_at line 3)) ∷ lines

-- the lines of "the longer one"
unfoldable pub longer_lines : List ℕ → List ℕ → List (List ℤ) → List (List ℤ)
longer_lines text list lines = with_unseen (unknown_of text) lines ++ imported_lines text list

-- its numbers in use; the B record's counts are "kept right .. by any later call that puts lines after a book's last"
unfoldable pub longer_book : List ℕ → List ℕ → List ℤ → ℕ → List ℤ
longer_book text list book used = loaded_book (longer_lines text list (lines_in_use book used))

-- ════ the questions

-- "24 when a word not passed over is not in the word list"
unfoldable pub are_known : List ℕ → List ℕ → Bool
are_known text list = all (λ g. all (is_known list) g.words) (imported_of text)

-- "25 when a rounded value not passed over leaves a score's range"; "`<unk>`'s weight" is passed over
unfoldable pub are_scores : List ℕ → Bool
are_scores text =
    all (λ g. is_score g.score && is_weight g.weight) (imported_of text)
    && all (λ g. is_score g.score) (unknown_of text)

-- 23 to 25
unfoldable pub arpa_refusal : List ℕ → List ℕ → ℕ
arpa_refusal text list =
    23 unless is_arpa text
    orelse 24 unless are_known text list
    orelse 25 unless are_scores text

-- "lent as in Ticket 5": 7 before all else; 23, 24, 25, "in that order, then the checks of the caller's book, of the longer one, and 7 if the list is too short"
unfoldable pub import_refusal : List ℕ → List ℕ → List ℤ → ℕ → ℕ
import_refusal text list book used =
    7 unless leb used (length book)
    orelse arpa_refusal text list
    orelse book_refusal (take used book)
    orelse book_refusal (longer_book text list book used)
    orelse 7 unless leb (length (longer_book text list book used)) (length book)

-- "Each such call reports the numbers then in use."
unfoldable pub import_arpa : List ℕ → List ℕ → List ℤ → ℕ → Reply ℕ
import_arpa text list book used = reply (import_refusal text list book used) (length (longer_book text list book used))

-- the lent list afterwards: a refusal changes nothing, and the tail behind the new lines is as before
unfoldable pub import_arpa_list : List ℕ → List ℕ → List ℤ → ℕ → List ℤ
import_arpa_list text list book used = written_if (import_refusal text list book used) (longer_book text list book used) book
