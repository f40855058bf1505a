-- Steps as C lends them, three numbers each.
use Rattle.std.specs.Prelude.{ℕ, ◌*◌, min, List, [], ◌∷◌, ℤ, length}
use Rattle.meaning.specs.Book.{book_of}
use Rattle.meaning.specs.Search.{answer}
use Rattle.meaning.specs.Reply.{written_if, Lent, decode_refusal, answer_steps}
use Rattle.meaning.specs.Round.{Form}
use Rattle.meaning.specs.declared.Step.{Step}

-- "Steps are three numbers each (first, last, entry); numbers left over behind the last whole step are no place."
abbrev pub records_in : List ℕ → List Step
records_in [] = []
records_in (first ∷ []) = []
records_in (first ∷ last ∷ []) = []
records_in (first ∷ last ∷ entry ∷ numbers) = record { first = first; last = last; entry = entry } ∷ records_in numbers

-- the numbers that steps are
abbrev pub numbers_of : List Step → List ℕ
numbers_of [] = []
numbers_of (step ∷ steps) = step.first ∷ step.last ∷ step.entry ∷ numbers_of steps

-- what is lent: each whole step is a place of the step list
abbrev pub lent_numbers : List ℕ → List ℕ → List ℤ → Lent
lent_numbers steps words store = record { steps = length (records_in steps); words = length words; store = length store }

-- the steps as numbers, at the beginning of those that are lent
unfoldable pub decoded_numbers : List ℤ → List ℕ → ℤ → Lent → List ℕ → List ℕ
decoded_numbers loaded direction width lent numbers =
    written_if (decode_refusal loaded direction width lent) (numbers_of (answer_steps (answer (book_of loaded) direction width))) numbers

-- the steps of a round as numbers: 32 places are 96 of them
abbrev pub as_numbers : Form ℕ
as_numbers = record { places = λ numbers. length (records_in numbers); size = 96; decoded = decoded_numbers }

-- how many of a caller's places for steps so many directions, but no more than 64, can need
abbrev pub places_for : ℕ → ℕ → ℕ
places_for count places = min (32 * min count 64) places
