-- Question 5: a book with one line too many of any kind, and the refusal that it gets, computed from the definitions; 0 where nothing is wrong.
use mathlib.Core.Path.{◌≡◌, refl}
use mathlib.Core.Bool.{true}
use mathlib.Core.List.{List, [], ◌∷◌}
use lib.IntN.{ℤ}
use lib.ListN.{take, replicate}
use Rattle.laws.specs.Lists.{all}
use Rattle.meaning.specs.Book.{in_text, lines_refusal}
use Rattle.meaning.proofs.Computing.{computing}
use Rattle.meaning.proofs.Refusals.{Row, agrees, b_line, p_line, t_line, u_line, d_line}

-- a B line as a text has it, without the counts
abbrev pub text_b : List ℤ
text_b = take 4 (b_line 0 0)

-- equal lines are not asked about before
unfoldable pub many : List Row
many =
    (lines_refusal in_text (text_b ∷ replicate 4096 p_line), 0)
    ∷ (lines_refusal in_text (text_b ∷ replicate 4097 p_line), 5)
    ∷ (lines_refusal in_text (text_b ∷ replicate 8193 t_line), 5)
    ∷ (lines_refusal in_text (text_b ∷ replicate 8193 u_line), 5)
    ∷ (lines_refusal in_text (text_b ∷ replicate 8193 d_line), 5)
    ∷ (lines_refusal in_text (text_b ∷ replicate 8192 d_line), 20)
    ∷ []

pub many_agree : all agrees many ≡ true
unfolding computing many
many_agree = refl
