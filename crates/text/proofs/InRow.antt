-- A line read a field at a time: the invariant of that loop, a field more, the line's last field, and a line that is not as it should be.
use mathlib.Core.Path.{◌≡◌, refl, sym, ap, ◌∙◌}
use mathlib.Core.Bool.{Bool, true, false, cond}
use mathlib.Core.List.{List, [], ◌∷◌, ◌++◌}
use Prim.Native.Nat.{ℕ, ◌+◌, ◌-◌, ◌≤◌, ◌<◌}
use native.Mathlib.Omega.{arith}
use native.Mathlib.Numerals.{add-one}
use lib.IntN.{ℤ}
use lib.ListN.{length, take, drop, set, drop_of_length-le}
use Rattle.std.proofs.Common.{Some, None}
use Rattle.laws.proofs.Tests.{by_test, clash}
use Rattle.fields.specs.Scan.{Scan, Line, Field, next, run, at_line, scanned, emit, emit_line}
use Rattle.fields.specs.Fields.{line_length, start, PieceRead}
use Rattle.fields.specs.declared.Piece.{Piece}
use Rattle.text.specs.Walk.{text_numbers, RowRead}
use Rattle.fields.proofs.Cut.{Sort, sort}
use Rattle.meaning.proofs.Filled.{filled_length}
use Rattle.text.proofs.Row.{Writing, write_start, write_put, write_count, write_end}
use Rattle.text.proofs.Numbers.{book_numbers}
use Rattle.text.proofs.Lines.{At, next_line, loaded_next}
use Rattle.meaning.specs.Book.{text_lines}

-- the line from `at` on was read up to `end`, where a field starts
pub record InRow (t : List ℕ) (at : ℕ) (old row : List ℤ) (line : Bool) (count end : ℕ) : Type 0 where
  pub ends : at_line (run true (start line) (drop end t)) ≡ at_line (run true Line (drop at t))
  pub written : Writing old row count (emit_line true (start line) (drop end t)) (emit_line true Line (drop at t))
  pub long : end + line_length (drop end t) ≡ at + line_length (drop at t)
  pub few : count ≤ end
  pub within : end ≤ length t
  pub first : line ≡ true → end < length t

pub row_start : (t : List ℕ) (at : ℕ) (old : List ℤ) → at < length t → InRow t at old old true 0 at
row_start t at old h = record { ends = refl; written = write_start old _; long = refl; few = omega arith; within = omega arith; first = λ e. h }

-- at the text's end a line ends only where none was begun
text_end : (line : Bool) (t : List ℕ) (end : ℕ) → length t ≤ end → at_line (run true (start line) (drop end t)) ≡ line
text_end true t end h = rw (drop_of_length-le t h) refl
text_end false t end h = rw (drop_of_length-le t h) refl

module _ {t : List ℕ} {at : ℕ} {old row : List ℤ} {line : Bool} {count end : ℕ} (w : InRow t at old row line count end) where
  pub row_kept : length row ≡ length old
  row_kept = ap length w.written.holds ∙ filled_length w.written.new old

  -- a field more, and the number that it puts
  module _ (r : Piece) (f : PieceRead true (start line) t end r) where
    put_row : Writing old (set row count r.number) (count + 1) (cond r.last [] (emit_line true Field (drop r.end t))) (emit_line true Line (drop at t))
    put_row = write_put (rw f.row at w.written)

    pub row_more : r.last ≡ false → InRow t at old (set row count r.number) false (count + 1) r.end
    row_more l = record {
      ends = sym (f.ends ∙ ap (λ (x : Bool). at_line (run true (start x) (drop r.end t))) l) ∙ w.ends;
      written = rw l at put_row;
      long = sym (ap (λ (x : Bool). r.end + cond x 0 (line_length (drop r.end t))) l) ∙ sym f.long ∙ w.long;
      few = omega (arith, f.later, w.few);
      within = f.within;
      first = λ e. clash e refl;
    }

    pub row_last : r.last ≡ true → RowRead t at old (set row count r.number) (Some (record { count = count + 1; end = r.end }))
    row_last l = let p = rw l at put_row in record {
      ends = sym w.ends ∙ f.ends ∙ ap (λ (x : Bool). at_line (run true (start x) (drop r.end t))) l;
      counted = write_count p;
      holds = write_end p;
      long = let q : r.end + 0 ≡ end + line_length (drop end t) = sym (ap (λ (x : Bool). r.end + cond x 0 (line_length (drop r.end t))) l) ∙ sym f.long in omega (arith, w.long);
      within = f.within;
    }

  -- the line is not as it should be
  pub row_bad : at_line (run true (start line) (drop end t)) ≡ false → RowRead t at old row None
  row_bad e = sym w.ends ∙ e

  -- the text ends within the line
  pub row_cut : length t ≤ end → RowRead t at old row None
  row_cut h = row_bad (text_end line t end h ∙ by_test line (λ e. absurd (let x = w.first e in omega arith)) (λ e. e))

-- the numbers of a line are those that its marks end
pub emit_line_lem : (book : Bool) (s : Scan) (t : List ℕ) → emit_line book s t ≡ emit book s (take (line_length t) t)
emit_line_lem book s [] = refl
emit_line_lem book s (b ∷ bs) = by (sort b) (emit_line_lem book (next book s b) bs)
  where
    by : Sort b → emit_line book (next book s b) bs ≡ emit book (next book s b) (take (line_length bs) bs) → emit_line book s (b ∷ bs) ≡ emit book s (take (line_length (b ∷ bs)) (b ∷ bs))
    by (Sort.ten e) ih = rw e refl
    by (Sort.comma e) ih = rw (e, add-one) (ap (λ (x : List ℤ). scanned s ∷ x) (rw e at ih))
    by (Sort.other e f) ih = simp (e, f, add-one) ih

-- each of them has a byte of the line at least, its mark
pub emit_few : (book : Bool) (s : Scan) (t : List ℕ) → length (emit_line book s t) ≤ line_length t
emit_few book s [] = omega arith
emit_few book s (b ∷ bs) = by (sort b) (emit_few book (next book s b) bs)
  where
    by : Sort b → length (emit_line book (next book s b) bs) ≤ line_length bs → length (emit_line book s (b ∷ bs)) ≤ line_length (b ∷ bs)
    by (Sort.ten e) ih = rw e (omega arith)
    by (Sort.comma e) ih = let h = rw e at ih in rw e (omega (arith, h))
    by (Sort.other e f) ih = simp (e, f) (omega (arith, ih))

-- ════ the lines of a book's text, a row at a time

-- the line from `at` to e as numbers, and the lines after it
pub record NextRow (t : List ℕ) (at e : ℕ) : Type 0 where
  pub lines : text_lines (drop at t) ≡ emit_line true Line (drop at t) ∷ text_lines (drop e t)
  pub loaded : text_numbers (drop at t) ≡ emit_line true Line (drop at t) ++ text_numbers (drop e t)
  pub then : At t e

pub next_row : (t : List ℕ) (at e : ℕ) → At t at → at < length t → e ≡ at + line_length (drop at t) → NextRow t at e
next_row t at e a h q =
    let n = next_line t at e a h q in
    let k : line_length (drop at t) ≡ e - at = omega arith in
    let r : text_numbers (take (e - at) (drop at t)) ≡ emit_line true Line (drop at t) =
    sym (emit_line_lem true Line (drop at t) ∙ ap (λ (m : ℕ). emit true Line (take m (drop at t))) k ∙ book_numbers (take (e - at) (drop at t)) n.part) in
    record {
      lines = n.lines ∙ ap (λ (x : List ℤ). x ∷ text_lines (drop e t)) r;
      loaded = loaded_next n ∙ ap (λ (x : List ℤ). x ++ text_numbers (drop e t)) r;
      then = n.then;
    }
