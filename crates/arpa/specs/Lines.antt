-- Lines and fields: "Byte 10 or the text's end ends a line; fields are parted by spaces or tabs; blank lines .. are passed over."
use Rattle.std.specs.Prelude.{ℕ, Bool, not, ◌||◌, cond, List, [], ◌∷◌, map, eqb}
use Rattle.laws.specs.Lists.{keep, is_empty, eq_list}
use Rattle.meaning.specs.Numerals.{newline, before, split}

-- a space or a tab
abbrev pub is_blank : ℕ → Bool
is_blank b = eqb b 32 || eqb b 9

-- the same bytes
abbrev pub eq_bytes : List ℕ → List ℕ → Bool
eq_bytes xs ys = eq_list eqb xs ys

module _ {A : Type 0} where
  -- it has an element
  abbrev pub is_filled : List A → Bool
  is_filled xs = not (is_empty xs)

-- what stands between the spaces and tabs of a line: one part more than there are such bytes, empty ones among them
unfoldable pub split_blank : List ℕ → List (List ℕ)
split_blank [] = [] ∷ []
split_blank (b ∷ line) = cond (is_blank b) ([] ∷ split_blank line) (before b (split_blank line))

-- the fields of a line
unfoldable pub fields_of : List ℕ → List (List ℕ)
fields_of line = keep is_filled (split_blank line)

-- the lines of a text that are not blank, each as its fields
unfoldable pub filled_lines : List ℕ → List (List (List ℕ))
filled_lines text = keep is_filled (map fields_of (split newline text))
