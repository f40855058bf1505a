-- The book: its text, its lines as numbers, questions 1 to 7, 20 and 21, and the model that it states.
-- A line is the list of its numbers, its kind first: "the letters B, P, T as 1, 2, 3"; "U's kind is 4 and D's 5".
use Rattle.std.specs.Prelude.{ℕ, zero, suc, ◌+◌, ◌-◌, Bool, true, false, not, ◌&&◌, cond, eqb, leb, ℤ, pos, neg_ℤ, length, get_or, take, drop}
use mathlib.Core.List.{List, [], ◌∷◌, ◌++◌, map, drop_last}
use Rattle.laws.specs.Integers.{eqℤ, nat_of}
use Rattle.laws.specs.Lists.{all, any, keep, count, is_empty, eq_list, none_twice, concat}
use Rattle.meaning.specs.Bounds.{word_most, score_most, penalty_most}
use Rattle.meaning.specs.Questions.{◌unless◌, ◌orelse◌, withinℤ}
use Rattle.meaning.specs.Numerals.{lines_of, is_ended, is_number, value_of}

-- ════ the kinds of lines: one table, with a row for each kind

-- number k of a line, its kind first; 0 behind its end
abbrev pub number_at : List ℤ → ℕ → ℤ
number_at line k = get_or line k (pos 0)

-- a number that is no negative one: a word, a limit, a count
abbrev pub natural_at : List ℤ → ℕ → ℕ
natural_at line k = nat_of (number_at line k)

-- "a and b each 1 to 8"
abbrev pub is_phrase_length : ℤ → Bool
is_phrase_length z = withinℤ (pos 1) (pos 8) z

-- a + b + 4; 0 where a or b is out of range or missing
abbrev pub phrase_size : List ℤ → ℕ
phrase_size line =
    cond (is_phrase_length (number_at line 1) && is_phrase_length (number_at line 2)) (natural_at line 1 + natural_at line 2 + 4) 0

-- "The scores u, g and s are −1,000,000 to 1,000,000"
abbrev pub is_score : ℤ → Bool
is_score z = withinℤ (neg_ℤ (pos score_most)) (pos score_most) z

-- "Words are 1 to 65,535."
abbrev pub is_word : ℤ → Bool
is_word z = withinℤ (pos 1) (pos word_most) z

-- a source or target word of a phrase
abbrev pub is_phrase_word : ℤ → Bool
is_phrase_word z = is_word z

-- the word v or w of a triple, the word w of a pair: "Word 0 is the start symbol and may stand only as v or w."; "Word 0 may be D's w"
abbrev pub is_history_word : ℤ → Bool
is_history_word z = withinℤ (pos 0) (pos word_most) z

-- the word y of a triple or of a pair, its last
abbrev pub is_last_word : ℤ → Bool
is_last_word z = is_word z

-- the word y of a U line: "Word 0 may be .. U's y"
abbrev pub is_lone_word : ℤ → Bool
is_lone_word z = withinℤ (pos 0) (pos word_most) z

-- "k is a back-off weight with a score's range"
abbrev pub is_weight : ℤ → Bool
is_weight z = is_score z

-- "reordering limit d, 0 to 32; penalty eta, −10,000 to 10,000; score u for an unseen triple"; "a stored count, which 4 passes over"
abbrev pub ranges_b : List ℤ → Bool
ranges_b line =
    withinℤ (pos 0) (pos 32) (number_at line 1)
    && withinℤ (neg_ℤ (pos penalty_most)) (pos penalty_most) (number_at line 2)
    && is_score (number_at line 3)

-- after the kind, a and b: words, and the score as the last
abbrev pub ranges_p : List ℤ → Bool
ranges_p line = all is_phrase_word (drop_last (drop 3 line)) && is_score (number_at line (length line - 1))

-- "the score s of target word y after the words v and w"
abbrev pub ranges_t : List ℤ → Bool
ranges_t line =
    is_history_word (number_at line 1)
    && is_history_word (number_at line 2)
    && is_last_word (number_at line 3)
    && is_score (number_at line 4)

-- "`U,y,s,k` for a word"
abbrev pub ranges_u : List ℤ → Bool
ranges_u line = is_lone_word (number_at line 1) && is_score (number_at line 2) && is_weight (number_at line 3)

-- "`D,w,y,s,k` for a pair"
abbrev pub ranges_d : List ℤ → Bool
ranges_d line =
    is_history_word (number_at line 1)
    && is_last_word (number_at line 2)
    && is_score (number_at line 3)
    && is_weight (number_at line 4)

-- how many P lines a book may have: "At most 4,096 P and 8,192 T lines."
abbrev pub phrases_most : ℕ
phrases_most = 4_096

-- how many T lines, how many U and how many D lines: "Up to 8,192 lines of each kind"
abbrev pub grams_most : ℕ
grams_most = 8_192

-- where a line stands: in a text, or in a loaded list
pub data Form : Type 0 where
  in_text : Form
  in_list : Form

-- a row of the table
pub record Kind : Type 0 where
  -- the byte of its letter
  pub letter : ℕ
  -- how many numbers its line takes in a text, and in a loaded list, its kind the first; 0 where the numbers that tell it are out
  -- of range or missing. Of every kind but B both are the same: "A loaded book is the same numbers in the same order"
  pub size : Form → List ℤ → ℕ
  -- whether the numbers of a line that has that size are in their ranges
  pub ranges : List ℤ → Bool
  -- how many such lines a book may have
  pub most : ℕ
  -- how many words the n-gram has that such a line lists, right behind its kind; 0 where it lists none
  pub order : ℕ

-- B,d,eta,u in a text; "The B record of a loaded book gains two numbers at its end", "The text does not change."
abbrev pub size_b : Form → ℕ
size_b in_text = 4
size_b in_list = 6

-- a B line; "Is the first line a B line, and the only one?"
abbrev pub kind_b : Kind
kind_b = record { letter = 66; size = λ form line. size_b form; ranges = ranges_b; most = 1; order = 0 }

-- P,a,b,x1..xa,y1..yb,g
abbrev pub kind_p : Kind
kind_p = record { letter = 80; size = λ form. phrase_size; ranges = ranges_p; most = phrases_most; order = 0 }

-- T,v,w,y,s
abbrev pub kind_t : Kind
kind_t = record { letter = 84; size = λ form line. 5; ranges = ranges_t; most = grams_most; order = 3 }

-- U,y,s,k
abbrev pub kind_u : Kind
kind_u = record { letter = 85; size = λ form line. 4; ranges = ranges_u; most = grams_most; order = 1 }

-- D,w,y,s,k
abbrev pub kind_d : Kind
kind_d = record { letter = 68; size = λ form line. 5; ranges = ranges_d; most = grams_most; order = 2 }

-- "the letters B, P, T as 1, 2, 3"; "In a loaded book U's kind is 4 and D's 5.": the k-th row is kind k
abbrev pub kinds : List Kind
kinds = kind_b ∷ kind_p ∷ kind_t ∷ kind_u ∷ kind_d ∷ []

-- the line is of kind k, the k-th row's
abbrev pub is_kind : ℕ → List ℤ → Bool
is_kind k line = eqℤ (number_at line 0) (pos k)

-- a B line
abbrev pub is_b : List ℤ → Bool
is_b line = is_kind 1 line

-- a P line
abbrev pub is_p : List ℤ → Bool
is_p line = is_kind 2 line

-- a T line
abbrev pub is_t : List ℤ → Bool
is_t line = is_kind 3 line

-- a U line
abbrev pub is_u : List ℤ → Bool
is_u line = is_kind 4 line

-- a D line
abbrev pub is_d : List ℤ → Bool
is_d line = is_kind 5 line

-- what the row of the line's kind says, among the rows from kind k on; `none` where it is of none of them
abbrev pub by_kind_from : {A : Type 0} → A → (Kind → A) → List ℤ → ℕ → List Kind → A
by_kind_from none says line k [] = none
by_kind_from none says line k (row ∷ rows) = cond (is_kind k line) (says row) (by_kind_from none says line (suc k) rows)

-- the same, of the whole table
abbrev pub by_kind : {A : Type 0} → A → (Kind → A) → List ℤ → A
by_kind none says line = by_kind_from none says line 1 kinds

-- the kind whose letter the byte is, among the rows from kind k on; 0 where it is the letter of none of them
abbrev pub kind_from : ℕ → ℕ → List Kind → ℕ
kind_from b k [] = 0
kind_from b k (row ∷ rows) = cond (eqb b row.letter) k (kind_from b (suc k) rows)

-- of each of the rows from kind k on, there are no more lines than it allows
abbrev pub are_few : List (List ℤ) → ℕ → List Kind → Bool
are_few lines k [] = true
are_few lines k (row ∷ rows) = leb (count (is_kind k) lines) row.most && are_few lines (suc k) rows

-- ════ the text: question 1

-- the kind of the line that a byte begins, 0 for what is no letter of a book
unfoldable pub kind_of_byte : ℕ → ℕ
kind_of_byte b = kind_from b 1 kinds

-- the kind of a letter, which is a field of one byte
unfoldable pub kind_of_letter : List ℕ → ℕ
kind_of_letter [] = 0
kind_of_letter (b ∷ []) = kind_of_byte b
kind_of_letter (b ∷ c ∷ bytes) = 0

-- "a letter B, P or T and then one or more decimal numbers .., each after one comma"; "New lines: `D,w,y,s,k` .. and `U,y,s,k`"
unfoldable pub is_text_line : List (List ℕ) → Bool
is_text_line [] = false
is_text_line (letter ∷ []) = false
is_text_line (letter ∷ field ∷ fields) = not (eqb (kind_of_letter letter) 0) && all is_number (field ∷ fields)

-- question 1: "Is the text one or more lines, each .."
unfoldable pub is_book_text : List ℕ → Bool
is_book_text text = not (is_empty (lines_of text)) && is_ended text && all is_text_line (lines_of text)

abbrev pub line_numbers : List (List ℕ) → List ℤ
line_numbers [] = []
line_numbers (letter ∷ fields) = pos (kind_of_letter letter) ∷ map value_of fields

-- the lines of a text, as numbers
unfoldable pub text_lines : List ℕ → List (List ℤ)
text_lines text = map line_numbers (lines_of text)

-- ════ lines as numbers: questions 2 to 6, 21 and 20

-- how many numbers the line takes that stands at the front; 0 for an unknown kind
unfoldable pub size_of : Form → List ℤ → ℕ
size_of form line = by_kind 0 (λ row. row.size form line) line

-- question 2, of a line: "Has each line the fields of its kind, with a and b in range?"
unfoldable pub is_whole : Form → List ℤ → Bool
is_whole form line = not (is_empty line) && eqb (length line) (size_of form line)

-- the lines of a loaded list. "So too for a loaded list with an unknown kind or a last line that is cut off": what cannot
-- be cut is one last line, which is not whole. `fuel` is the list's length, and each line takes at least one number
unfoldable pub cut_lines : ℕ → List ℤ → List (List ℤ)
cut_lines zero numbers = []
cut_lines (suc fuel) [] = []
cut_lines (suc fuel) (z ∷ numbers) =
    elim (size_of in_list (z ∷ numbers)) [
      | zero ↦ (z ∷ numbers) ∷ []
      | suc size ↦ (z ∷ take size numbers) ∷ cut_lines fuel (drop size numbers)
    ]

unfoldable pub loaded_lines : List ℤ → List (List ℤ)
loaded_lines loaded = cut_lines (length loaded) loaded

-- question 3: "Is the first line a B line, and the only one?" "An empty loaded list has no first line."
unfoldable pub is_one_bFirst : List (List ℤ) → Bool
is_one_bFirst [] = false
is_one_bFirst (line ∷ lines) = is_b line && not (any is_b lines)

-- question 4, of a line: "Is every number in its range?" Question 2 has refused an unknown kind
unfoldable pub is_in_range : List ℤ → Bool
is_in_range line = by_kind false (λ row. row.ranges line) line

-- question 5: "Are there no more P and T lines than allowed?"; "Up to 8,192 lines of each kind, under 5." It asks of every kind but B, the first row, of which question 3 asks
unfoldable pub is_not_too_long : List (List ℤ) → Bool
is_not_too_long lines = are_few lines 2 (drop 1 kinds)

-- the two numbers at the end of a loaded book's B record: "the P and then the T lines it holds"
abbrev pub stored_counts : List (List ℤ) → List ℤ
stored_counts lines = pos (count is_p lines) ∷ pos (count is_t lines) ∷ []

-- question 21: "when a stored count .. differs from the lines". A text stores none
unfoldable pub is_counted : Form → List (List ℤ) → Bool
is_counted in_text lines = true
is_counted in_list lines = eq_list eqℤ (drop (size_b in_text) (get_or lines 0 [])) (stored_counts lines)

-- how many words the n-gram has that the line lists: 3 of a T, 2 of a D, 1 of a U line
unfoldable pub order_of : List ℤ → ℕ
order_of line = by_kind 0 (λ row. row.order) line

-- its words as they stand in the line: v, w and y of a T line, w and y of a D line, y of a U line
abbrev pub gram_numbers : List ℤ → List ℤ
gram_numbers line = take (order_of line) (drop 1 line)

-- no two lines of a kind share them
abbrev pub is_none_twice : (List ℤ → Bool) → List (List ℤ) → Bool
is_none_twice isOne lines = none_twice (eq_list eqℤ) (map gram_numbers (keep isOne lines))

-- question 6: "Do no two T lines share v, w and y?"
unfoldable pub is_no_triple_twice : List (List ℤ) → Bool
is_no_triple_twice lines = is_none_twice is_t lines

-- question 20: "when two D lines share a pair or two U lines a word"
unfoldable pub is_no_shorter_twice : List (List ℤ) → Bool
is_no_shorter_twice lines = is_none_twice is_d lines && is_none_twice is_u lines

-- questions 2 to 6, "21, after 5", and "20, asked after 6", of the lines of a text or of a loaded list
unfoldable pub lines_refusal : Form → List (List ℤ) → ℕ
lines_refusal form lines =
    2 unless all (is_whole form) lines
    orelse 3 unless is_one_bFirst lines
    orelse 4 unless all is_in_range lines
    orelse 5 unless is_not_too_long lines
    orelse 21 unless is_counted form lines
    orelse 6 unless is_no_triple_twice lines
    orelse 20 unless is_no_shorter_twice lines

-- "Any call that takes a loaded book ..: 2 to 6."; 20, "and each check of a loaded book added later, counts among" them
unfoldable pub book_refusal : List ℤ → ℕ
book_refusal loaded = lines_refusal in_list (loaded_lines loaded)

-- ════ reading a book: questions 1 to 7

-- the two counts "kept right by reading, adding and removing, and by any later call that puts lines after a book's last": whatever stood behind
-- the B line's d, eta and u, the counts of these lines stand there
abbrev pub with_counts : List (List ℤ) → List (List ℤ)
with_counts [] = []
with_counts (line ∷ lines) = (take (size_b in_text) line ++ stored_counts (line ∷ lines)) ∷ lines

-- the loaded book of lines: "A loaded book is the same numbers in the same order", but for the counts
unfoldable pub loaded_book : List (List ℤ) → List ℤ
loaded_book lines = concat (with_counts lines)

unfoldable pub loaded_of : List ℕ → List ℤ
loaded_of text = loaded_book (text_lines text)

-- "Reading a book: 1 to 7." `places` is the length of the lent list
unfoldable pub read_refusal : List ℕ → ℕ → ℕ
read_refusal text places =
    1 unless is_book_text text
    orelse lines_refusal in_text (text_lines text)
    orelse 7 unless leb (length (loaded_of text)) places

-- ════ the model that a loaded book states

-- "a phrase of a source words and b target words, .. with score g"
pub record Entry : Type 0 where
  pub source : List ℕ
  pub target : List ℕ
  pub g : ℤ

-- an n-gram, a triple v, w, y, a pair w, y or a word y: its words, its score s, and its back-off weight k, 0 of a triple, which has none
pub record Gram : Type 0 where
  pub words : List ℕ
  pub s : ℤ
  pub k : ℤ

-- the reordering limit d (the notes' distortion limit), the penalty eta, the score u of an unseen word, the entries and
-- the n-grams (the notes' lexicon and language model)
pub record Book : Type 0 where
  pub limit : ℕ
  pub eta : ℤ
  pub unseen : ℤ
  pub entries : List Entry
  pub grams : List Gram

abbrev pub words_at : List ℤ → ℕ → ℕ → List ℕ
words_at line from many = map nat_of (take many (drop from line))

-- P,a,b,x1..xa,y1..yb,g
unfoldable pub entry_of : List ℤ → Entry
entry_of line = record {
  source = words_at line 3 (natural_at line 1);
  target = words_at line (3 + natural_at line 1) (natural_at line 2);
  g = number_at line (3 + natural_at line 1 + natural_at line 2);
}

-- T,v,w,y,s, D,w,y,s,k or U,y,s,k
unfoldable pub gram_of : List ℤ → Gram
gram_of line = record {
  words = words_at line 1 (order_of line);
  s = number_at line (1 + order_of line);
  k = number_at line (2 + order_of line);
}

-- the line lists an n-gram
unfoldable pub is_gram : List ℤ → Bool
is_gram line = leb 1 (order_of line)

-- B,d,eta,u; "The k-th P line is entry k."
unfoldable pub book_of_lines : List (List ℤ) → Book
book_of_lines lines = record {
  limit = natural_at (get_or lines 0 []) 1;
  eta = number_at (get_or lines 0 []) 2;
  unseen = number_at (get_or lines 0 []) 3;
  entries = map entry_of (keep is_p lines);
  grams = map gram_of (keep is_gram lines);
}

unfoldable pub book_of : List ℤ → Book
book_of loaded = book_of_lines (loaded_lines loaded)

-- ════ "An entry's target words can be had as that part of the loaded book itself"

-- where a part of a list starts, and how many numbers it has
pub record Part : Type 0 where
  pub start : ℕ
  pub size : ℕ

-- entry k's target words, among the lines that stand from `at` on; the empty part behind the last line where there is no entry k
unfoldable pub target_part_from : ℕ → ℕ → List (List ℤ) → Part
target_part_from k at [] = record { start = at; size = 0 }
target_part_from k at (line ∷ lines) =
    elim (is_p line && eqb k 1) [
      | true ↦ record { start = at + 3 + natural_at line 1; size = natural_at line 2 }
      | false ↦ target_part_from (cond (is_p line) (k - 1) k) (at + length line) lines
    ]

-- "for a number that is no entry, or a list that 2 to 6 refuse, the empty part at the list's end is given"
unfoldable pub target_part : List ℤ → ℕ → Part
target_part loaded k =
    cond (eqb (book_refusal loaded) 0) (target_part_from k 0 (loaded_lines loaded)) (record { start = length loaded; size = 0 })

-- the numbers of a part
unfoldable pub part_of : Part → List ℤ → List ℤ
part_of p loaded = take p.size (drop p.start loaded)
