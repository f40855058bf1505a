-- What the rendering program prints: the bytes of `book.txt` and of standard input to the bytes of standard output.
use Rattle.std.specs.Prelude.{ℕ, zero, suc, ◌+◌, ◌*◌, ◌/◌, ◌%◌, true, false, ◌&&◌, List, [], ◌∷◌, ◌++◌, map, leb, ltb, ℤ, pos, negsuc, length}
use Rattle.laws.specs.Lists.{concat}
use Rattle.meaning.specs.Questions.{◌unless◌, ◌orelse◌}
use Rattle.meaning.specs.Numerals.{newline, comma, minus}
use Rattle.meaning.specs.Book.{loaded_of, book_of, read_refusal}
use Rattle.meaning.specs.Direction.{word_count, direction_of, read_direction_refusal}
use Rattle.meaning.specs.Derivation.{target_words}
use Rattle.meaning.specs.Search.{answer}
use Rattle.meaning.specs.Reply.{Reply, refused, done, counts_of, answer_steps, decode}
use Rattle.meaning.specs.declared.Step.{Step}
use Rattle.meaning.specs.declared.Answer.{Answer}

-- ════ printed numbers and lines

-- the digits of n before `rest`; `fuel` is more than n has digits
abbrev pub digits_before : ℕ → ℕ → List ℕ → List ℕ
digits_before zero n rest = rest
digits_before (suc fuel) n rest =
    elim (ltb n 10) [
      | true ↦ (48 + n) ∷ rest
      | false ↦ digits_before fuel (n / 10) ((48 + n % 10) ∷ rest)
    ]

unfoldable pub decimal : ℤ → List ℕ
decimal (pos n) = digits_before (suc n) n []
decimal (negsuc n) = minus ∷ digits_before (suc (suc n)) (suc n) []

-- a letter, then each number after a comma, then byte 10
unfoldable pub printed_line : ℕ → List ℤ → List ℕ
printed_line letter numbers = letter ∷ concat (map (λ z. comma ∷ decimal z) numbers) ++ (newline ∷ [])

abbrev pub printed_step : Step → List ℕ
printed_step step = printed_line 83 (pos step.first ∷ pos step.last ∷ pos step.entry ∷ [])

-- "A refusal prints `R,` and its number"
abbrev pub printed_refusal : ℕ → List ℕ
printed_refusal k = printed_line 82 (pos k ∷ [])

-- "A: score, steps, words, states; S: first, last, entry; W: the target words"; ticket 3: "The A line prints them after the states."
unfoldable pub printed_answer : Answer → List Step → List ℕ → List ℕ
printed_answer a steps words =
    printed_line 65 (counts_of a)
    ++ concat (map printed_step steps)
    ++ printed_line 87 (map pos words)

abbrev pub printed_reply : Reply Answer → List Step → List ℕ → List ℕ
printed_reply (refused k) steps words = printed_refusal k
printed_reply (done a) steps words = printed_answer a steps words

-- ════ the program

-- "`book.txt` (to 8,192 bytes) and a direction on standard input (to 512) .. More bytes than that in either print `R,7`, before
-- any question."; "the book is read before the direction"; every list is long enough
unfoldable pub input_refusal : List ℕ → List ℕ → ℕ
input_refusal book_text directionText =
    7 unless (leb (length book_text) 8_192 && leb (length directionText) 512)
    orelse read_refusal book_text (length (loaded_of book_text))
    orelse read_direction_refusal directionText (length (direction_of directionText))

-- "decodes with pruning off, a store of 512 states and every other list long enough"
unfoldable pub render_decode : List ℕ → List ℕ → Reply Answer
render_decode book_text directionText =
    decode (loaded_of book_text) (direction_of directionText) (negsuc 0)
    (record { steps = word_count (direction_of directionText); words = 8 * word_count (direction_of directionText); store = 8 * 512 })

-- what is printed of a decode's reply: "its steps, its target words" are those of the search with pruning off
abbrev pub printed_decode : List ℤ → List ℕ → Reply Answer → List ℕ
printed_decode loaded direction reply =
    printed_reply reply (answer_steps (answer (book_of loaded) direction (negsuc 0)))
    (target_words (book_of loaded) (answer_steps (answer (book_of loaded) direction (negsuc 0))))

abbrev pub rendered_after : ℕ → List ℕ → List ℕ → List ℕ
rendered_after zero book_text directionText = printed_decode (loaded_of book_text) (direction_of directionText) (render_decode book_text directionText)
rendered_after (suc k) book_text directionText = printed_refusal (suc k)

-- what the program writes
unfoldable pub rendered : List ℕ → List ℕ → List ℕ
rendered book_text directionText = rendered_after (input_refusal book_text directionText) book_text directionText
