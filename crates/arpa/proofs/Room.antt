-- How many lines a text has room for: a line that is not blank has a byte, one of two fields has three, and a byte 10 parts each from the next.
use Prim.Native.Nat.{ℕ, suc, ◌+◌, ◌*◌, ◌≤◌}
use mathlib.Core.Path.{◌≡◌, refl, sym, ap, ◌∙◌}
use mathlib.Core.Bool.{Bool, not, cond}
use mathlib.Core.List.{List, [], ◌∷◌, map}
use native.Mathlib.Omega.{arith}
use lib.Dec.{eqb}
use lib.ListN.{length}
use Rattle.laws.specs.Lists.{keep, count}
use Rattle.laws.proofs.Tests.{by_test}
use Rattle.meaning.specs.Numerals.{newline, before, split}
use Rattle.arpa.specs.Lines.{is_blank, is_filled, split_blank, fields_of, filled_lines}

-- the bytes of the parts, and one more for each
abbrev room : List (List ℕ) → ℕ
room [] = 0
room (part ∷ parts) = suc (length part) + room parts

before_room : (b : ℕ) (parts : List (List ℕ)) → 1 ≤ room parts → room (before b parts) ≡ suc (room parts)
before_room b [] h = absurd (omega arith)
before_room b (part ∷ parts) h = omega arith

-- a text has its parts, and the bytes between them; so has a line
split_room : (text : List ℕ) → room (split newline text) ≡ suc (length text)
unfolding split
split_room [] = refl
split_room (b ∷ text) =
    let ih = split_room text in
    by_test (eqb b newline) (λ t. rw t (omega arith)) (λ f. rw f (before_room b (split newline text) (omega arith) ∙ ap suc ih))

blank_room : (line : List ℕ) → room (split_blank line) ≡ suc (length line)
unfolding split_blank
blank_room [] = refl
blank_room (b ∷ line) =
    let ih = blank_room line in
    by_test (is_blank b) (λ t. rw t (omega arith)) (λ f. rw f (before_room b (split_blank line) (omega arith) ∙ ap suc ih))

-- each part that is not empty has room for two
filled_room : (parts : List (List ℕ)) → 2 * length (keep is_filled parts) ≤ room parts
filled_room [] = omega arith
filled_room ([] ∷ parts) = let ih = filled_room parts in omega arith
filled_room ((b ∷ part) ∷ parts) = let ih = filled_room parts in omega arith

fields_room : (line : List ℕ) → 2 * length (fields_of line) ≤ suc (length line)
unfolding fields_of
fields_room line = rw (sym (blank_room line)) (filled_room (split_blank line))

-- a line of more than one field
abbrev pub is_long : List (List ℕ) → Bool
is_long line = not (eqb (length line) 1)

lines_room : (parts : List (List ℕ)) → 4 * count is_long (keep is_filled (map fields_of parts)) ≤ room parts
lines_room [] = omega arith
lines_room (part ∷ parts) = by (fields_of part) (fields_room part) (lines_room parts)
  where
    by : (fields : List (List ℕ)) → 2 * length fields ≤ suc (length part) → 4 * count is_long (keep is_filled (map fields_of parts)) ≤ room parts
        → 4 * count is_long (cond (is_filled fields) (fields ∷ keep is_filled (map fields_of parts)) (keep is_filled (map fields_of parts))) ≤ suc (length part) + room parts
    by [] h ih = omega arith
    by (field ∷ []) h ih = omega arith
    by (field ∷ next ∷ fields) h ih = by_test (is_long (field ∷ next ∷ fields)) (λ t. rw t (omega arith)) (λ f. rw f (omega arith))

-- a line of two fields takes four bytes, its end among them
pub long_few : (text : List ℕ) → 4 * count is_long (filled_lines text) ≤ suc (length text)
unfolding filled_lines
long_few text = rw (sym (split_room text)) (lines_room (split newline text))

filled_lines_lem : (parts : List (List ℕ)) → 2 * length (keep is_filled (map fields_of parts)) ≤ room parts
unfolding fields_of split_blank
filled_lines_lem [] = omega arith
filled_lines_lem ([] ∷ parts) = let ih = filled_lines_lem parts in omega arith
filled_lines_lem ((b ∷ part) ∷ parts) =
    let ih = filled_lines_lem parts in
    by_test (is_filled (fields_of (b ∷ part))) (λ t. rw t (omega arith)) (λ f. rw f (omega arith))

-- a line that is not blank takes two
pub filled_few : (text : List ℕ) → 2 * length (filled_lines text) ≤ suc (length text)
unfolding filled_lines
filled_few text = rw (sym (split_room text)) (filled_lines_lem (split newline text))
