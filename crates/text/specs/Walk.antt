-- The numbers of a book's text, and a line of it read to a list that takes as many numbers as it has places.
use Rattle.std.specs.Prelude.{ℕ, ◌+◌, ◌≤◌, ◌≡◌, true, false, List, ℤ, Option, Some, None, length, drop}
use Rattle.laws.specs.Lists.{concat}
use Rattle.meaning.specs.Book.{text_lines}
use Rattle.meaning.specs.Reply.{filled_with}
use Rattle.fields.specs.Scan.{Line, run, at_line, emit_line}
use Rattle.fields.specs.Fields.{line_length}
use Rattle.text.specs.declared.TextLine.{TextLine}

-- the numbers of a book's text, line after line
unfoldable pub text_numbers : List ℕ → List ℤ
text_numbers text = concat (text_lines text)

-- the line from `at` on was read to the list that was `old`, and is now `new`
pub record LineRead (t : List ℕ) (at : ℕ) (old new : List ℤ) (r : TextLine) : Type 0 where
  pub ends : at_line (run true Line (drop at t)) ≡ at_line (run true Line (drop r.end t))
  pub counted : r.count ≡ length (emit_line true Line (drop at t))
  pub holds : new ≡ filled_with (emit_line true Line (drop at t)) old
  pub long : r.end ≡ at + line_length (drop at t)
  pub within : r.end ≤ length t

-- a line was read from `at` on; where there is none, the text is not as it should be
abbrev pub RowRead : List ℕ → ℕ → List ℤ → List ℤ → Option TextLine → Type 0
RowRead t at old new None = at_line (run true Line (drop at t)) ≡ false
RowRead t at old new (Some r) = LineRead t at old new r
