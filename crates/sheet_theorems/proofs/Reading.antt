-- Ticket 8: a sheet that is read is its lines (`sheet_read`, `sheet_ended`), so it tells all that it was made of (`sheet_answers`).
use Prim.Native.Nat.{ℕ, suc}
use mathlib.Core.Path.{◌≡◌, refl, sym, ap, ◌∙◌}
use mathlib.Core.Bool.{Bool, true, not, ◌&&◌}
use mathlib.Core.List.{List, [], ◌∷◌, ◌++◌, map, map-map, append_assoc}
use lib.Dec.{eqb}
use lib.IntN.{ℤ}
use lib.ListN.{get_or, take, drop}
use Rattle.laws.specs.Integers.{nat_of}
use Rattle.laws.specs.Lists.{all, concat, keep}
use Rattle.laws.proofs.Lists.{all_++}
use Rattle.laws.proofs.Tests.{both, both_of}
use Rattle.meaning.specs.Numerals.{newline, comma, split, is_ended, lines_of, value_of}
use Rattle.meaning.specs.Render.{decimal, printed_line}
use Rattle.meaning.specs.Sheet.{Row, Line, direction_lines, occurred, answer_line, total_line, sheet_lines, printed, sheet_of}
use Rattle.theorems.proofs.Texts.{is_free, byte_lines, joined, lines_joined}
use Rattle.theorems.proofs.Printed.{fields_of, split_fields, no_line_end, values}
use Rattle.sheet_theorems.proofs.Sheet.{n_lines, answer_in, score_in, words_in, n_lines_lem}

-- ════ lines in a text

-- a letter that is neither a comma nor byte 10
abbrev pub is_letter : Line → Bool
is_letter line = not (eqb line.letter comma) && not (eqb line.letter newline)

-- the bytes of a line before its byte 10, and its fields: the letter, and each number
abbrev bytes_of : Line → List ℕ
bytes_of line = line.letter ∷ fields_of line.numbers

abbrev pub fields_in : Line → List (List ℕ)
fields_in line = (line.letter ∷ []) ∷ map decimal line.numbers

printed_joined : (lines : List Line) → concat (map printed lines) ≡ joined (map bytes_of lines)
unfolding printed_line
printed_joined [] = refl
printed_joined (line ∷ lines) =
    append_assoc (bytes_of line) (newline ∷ []) (concat (map printed lines)) ∙ ap (λ (bytes : List ℕ). bytes_of line ++ (newline ∷ bytes)) (printed_joined lines)

clean : (lines : List Line) → all is_letter lines ≡ true → all (is_free newline) (map bytes_of lines) ≡ true
clean [] h = refl
clean (line ∷ lines) h =
    let l = both (is_letter line) (all is_letter lines) h in let n = both (not (eqb line.letter comma)) (not (eqb line.letter newline)) l.0 in
    both_of (both_of n.1 (no_line_end line.numbers)) (clean lines l.1)

fields_are : (lines : List Line) → all is_letter lines ≡ true → map (split comma) (map bytes_of lines) ≡ map fields_in lines
fields_are [] h = refl
fields_are (line ∷ lines) h =
    let l = both (is_letter line) (all is_letter lines) h in let n = both (not (eqb line.letter comma)) (not (eqb line.letter newline)) l.0 in
    rw (split_fields (line.letter ∷ []) line.numbers (rw n.0), fields_are lines l.1)

-- lines that are printed one after the other are read as their fields, and the text is ended
pub lines_read : (lines : List Line) → all is_letter lines ≡ true → lines_of (concat (map printed lines)) ≡ map fields_in lines
unfolding lines_of
lines_read lines h =
    ap (λ (text : List ℕ). map (split comma) (byte_lines text)) (printed_joined lines) ∙ ap (map (split comma)) (lines_joined (map bytes_of lines) (clean lines h)).0 ∙ fields_are lines h

pub lines_ended : (lines : List Line) → all is_letter lines ≡ true → is_ended (concat (map printed lines)) ≡ true
lines_ended lines h = ap is_ended (printed_joined lines) ∙ (lines_joined (map bytes_of lines) (clean lines h)).1

-- ════ the sheet

n_letters : (number : ℕ) (rows : List Row) → all is_letter (direction_lines number rows) ≡ true
n_letters number [] = refl
n_letters number (row ∷ rows) = n_letters (suc number) rows

e_letters : (rows : List Row) (answers : List ℕ) → all is_letter (map (answer_line rows) answers) ≡ true
e_letters rows [] = refl
e_letters rows (k ∷ answers) = e_letters rows answers

-- a line of a text as a line: its first field's byte, and the numbers of the others
abbrev pub line_of : List (List ℕ) → Line
line_of fields = record { letter = get_or (get_or fields 0 []) 0 0; numbers = map value_of (drop 1 fields) }

line_back : (line : Line) → line_of (fields_in line) ≡ line
line_back line = ap (λ (zs : List ℤ). record { letter = line.letter; numbers = zs }) (values line.numbers)

module _ (rows : List Row) where
  abbrev ns : List Line
  ns = direction_lines 1 rows

  abbrev es : List Line
  es = map (answer_line rows) (occurred rows)

  letters : all is_letter (sheet_lines rows) ≡ true
  unfolding sheet_lines
  letters = all_++ is_letter (ns ++ es) (total_line rows ∷ []) ∙ rw (all_++ is_letter ns es, n_letters 1 rows, e_letters rows (occurred rows))

  -- each line of the sheet is its letter, and its numbers in decimal ..
  pub sheet_fields : lines_of (sheet_of rows) ≡ map fields_in (sheet_lines rows)
  unfolding sheet_of
  sheet_fields = lines_read (sheet_lines rows) letters

  -- .. each ended by byte 10 ..
  pub sheet_ended : is_ended (sheet_of rows) ≡ true
  unfolding sheet_of
  sheet_ended = lines_ended (sheet_lines rows) letters

  -- .. so what is read of the sheet, as a book is read, are its lines: their letters, and their numbers
  pub sheet_read : map line_of (lines_of (sheet_of rows)) ≡ sheet_lines rows
  sheet_read = ap (map line_of) sheet_fields ∙ map-map line_of fields_in (sheet_lines rows) ∙ back (sheet_lines rows)
    where
      back : (lines : List Line) → map (λ line. line_of (fields_in line)) lines ≡ lines
      back [] = refl
      back (line ∷ lines) = rw (line_back line, back lines)

  pub sheet_letters : map (take 1) (lines_of (sheet_of rows)) ≡ map (λ line. (line.letter ∷ []) ∷ []) (sheet_lines rows)
  sheet_letters = ap (map (take 1)) sheet_fields ∙ map-map (take 1) fields_in (sheet_lines rows)

  pub sheet_numbers : map (λ fields. map value_of (drop 1 fields)) (lines_of (sheet_of rows)) ≡ map (λ line. line.numbers) (sheet_lines rows)
  sheet_numbers = sym (map-map (λ line. line.numbers) line_of (lines_of (sheet_of rows))) ∙ ap (map (λ line. line.numbers)) sheet_read

-- ════ what it tells

-- an N line's row
abbrev pub row_in : Line → Row
row_in line = record { answer = nat_of (answer_in line); score = score_in line; words = nat_of (words_in line) }

rows_back : (number : ℕ) (rows : List Row) → map row_in (direction_lines number rows) ≡ rows
rows_back number [] = refl
rows_back number (row ∷ rows) = ap (λ (rs : List Row). row ∷ rs) (rows_back (suc number) rows)

-- the N lines are the rows
pub sheet_rows : (rows : List Row) → map row_in (n_lines rows) ≡ rows
sheet_rows rows = ap (map row_in) (n_lines_lem rows) ∙ rows_back 1 rows

-- so two rounds with the same sheet have the same answers, scores and numbers of words, direction by direction
pub sheet_answers : (rows rows' : List Row) → sheet_of rows ≡ sheet_of rows' → rows ≡ rows'
sheet_answers rows rows' e =
    let lines : sheet_lines rows ≡ sheet_lines rows' = sym (sheet_read rows) ∙ ap (λ (text : List ℕ). map line_of (lines_of text)) e ∙ sheet_read rows' in
    sym (sheet_rows rows) ∙ ap (λ (ls : List Line). map row_in (keep (λ line. eqb line.letter 78) ls)) lines ∙ sheet_rows rows'
