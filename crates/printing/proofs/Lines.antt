-- A line as its parts, in the order in which they are put.
use Prim.Native.Nat.{ℕ, ◌+◌}
use mathlib.Core.Path.{◌≡◌, refl, ap, ◌∙◌}
use mathlib.Core.List.{List, [], ◌∷◌, ◌++◌, map}
use native.Mathlib.Omega.{arith}
use lib.IntN.{ℤ, pos}
use lib.ListN.{length, length-append}
use Rattle.laws.specs.Lists.{concat}
use Rattle.meaning.specs.Numerals.{newline}
use Rattle.meaning.specs.Reply.{counts_of}
use Rattle.meaning.specs.Render.{printed_line, printed_step, printed_answer}
use Rattle.meaning.specs.declared.Answer.{Answer}
use Rattle.records.specs.Plain.{steps_of}
use Rattle.printing.specs.Lines.{plain_of}
use Rattle.decimals.specs.Put.{field}

-- the letter, the fields and the end
pub line_is : (l : ℕ) (ns : List ℤ) → printed_line l ns ≡ (l ∷ []) ++ concat (map field ns) ++ (newline ∷ [])
unfolding printed_line
line_is l ns = refl

pub line_long : (l : ℕ) (ns : List ℤ) → length (printed_line l ns) ≡ 2 + length (concat (map field ns))
line_long l ns = ap length (line_is l ns) ∙ simp length-append (omega arith)

-- an answer: its numbers, its steps, its words
pub answer_is : (a : Answer) (plain words : List ℕ)
    → printed_answer a (steps_of (plain_of plain a.steps)) words
    ≡ printed_line 65 (counts_of a) ++ concat (map printed_step (steps_of (plain_of plain a.steps))) ++ printed_line 87 (map pos words)
unfolding printed_answer
answer_is a plain words = refl

pub answer_long : (a : Answer) (plain words : List ℕ)
    → length (printed_answer a (steps_of (plain_of plain a.steps)) words)
    ≡ length (printed_line 65 (counts_of a))
    + length (concat (map printed_step (steps_of (plain_of plain a.steps))))
    + length (printed_line 87 (map pos words))
answer_long a plain words = ap length (answer_is a plain words) ∙ simp length-append
