-- The replies of the calls, and what the lent lists hold afterwards.
use Rattle.std.specs.declared.result.Result.TheVariants.{Ok, Err}
use Rattle.std.specs.declared.result.Result.{Result}
use Rattle.meaning.specs.declared.Refusal.{Refusal}
use Rattle.std.specs.Prelude.{ℕ, zero, suc, ◌*◌, ◌/◌, ◌≡◌, not, ◌&&◌, ◌||◌, List, [], ◌∷◌, ◌++◌, leb, ℤ, pos, negsuc, length, drop, replicate}
use Rattle.std.proofs.Math.Option.{Option, none, some}
use Rattle.std.specs.Int.Signed.{le_z}
use Rattle.laws.specs.Lists.{all, is_empty}
use Rattle.meaning.specs.Questions.{◌unless◌, ◌orelse◌, number}
use Rattle.meaning.specs.Book.{Book, book_refusal, book_of, read_refusal, loaded_of}
use Rattle.meaning.specs.Direction.{word_count, direction_refusal, read_direction_refusal, direction_of}
use Rattle.meaning.specs.Derivation.{fits, jump, target_words, score_of, supplied_of}
use Rattle.meaning.specs.State.{Key, Hyp, start, next_key, is_free}
use Rattle.meaning.specs.Search.{is_off, entered, last_set, answer}
use Rattle.meaning.specs.declared.Step.{Step}
use Rattle.meaning.specs.declared.Supplied.{Supplied}
use Rattle.meaning.specs.declared.Totals.{Totals}
use Rattle.meaning.specs.declared.Answer.{Answer}

-- "A refusal is its number and no more."; else what is reported
pub data Reply (A : Type 0) : Type 0 where
  refused : ℕ → Reply A
  done : A → Reply A

-- the reply of a chain of questions
abbrev pub reply : {A : Type 0} → ℕ → A → Reply A
reply zero a = done a
reply (suc k) a = refused (suc k)

-- number and values of each case of a call's answer
abbrev pub reply_of : {A : Type 0} → Result A Refusal → Reply A
reply_of (Ok a) = done a
reply_of (Err refusal) = refused (number refusal)

-- a lent list after `new` was written at its beginning: "places beyond the reported counts are unchanged"
abbrev pub written_over : {A : Type 0} → List A → List A → List A
written_over new old = new ++ drop (length new) old

-- a lent list after as many of `new` as it has places for were written at its beginning: "A report list gets as many of its values as
-- it has places"
unfoldable pub filled_with : {A : Type 0} → List A → List A → List A
filled_with [] old = old
filled_with (x ∷ new) [] = []
filled_with (x ∷ new) (y ∷ old) = x ∷ filled_with new old

-- a lent list after a call that writes `new` where no question refuses
abbrev pub written_if : {A : Type 0} → ℕ → List A → List A → List A
written_if zero new old = written_over new old
written_if (suc k) new old = old

-- ════ reading a book, and a direction

-- "Reading reports how many numbers it wrote .."
unfoldable pub read_book : List ℕ → ℕ → Reply ℕ
read_book text places = reply (read_refusal text places) (length (loaded_of text))

-- ".. and changes no place beyond them"
unfoldable pub read_book_list : List ℕ → List ℤ → List ℤ
read_book_list text lent = written_if (read_refusal text (length lent)) (loaded_of text) lent

-- "Reading the text fills such a list, reports the count and changes no place beyond it."
unfoldable pub read_direction : List ℕ → ℕ → Reply ℕ
read_direction text places = reply (read_direction_refusal text places) (length (direction_of text))

unfoldable pub read_direction_list : List ℕ → List ℕ → List ℕ
read_direction_list text lent = written_if (read_direction_refusal text (length lent)) (direction_of text) lent

-- ════ checking a loaded book

unfoldable pub check_book : List ℤ → Reply Unit
check_book loaded = reply (book_refusal loaded) tt

-- ════ scoring a proposed list

-- the four counts in the order of a report: ticket 3, "triple, pair, word or u .. four counts in that order"
abbrev pub supplied_numbers : Supplied → List ℤ
supplied_numbers s = pos s.triples ∷ pos s.pairs ∷ pos s.words ∷ pos s.unseen ∷ []

-- the numbers of a scoring in the order of a report: score, triples, pairs, words, u
abbrev pub totals_numbers : Totals → List ℤ
totals_numbers t = t.score ∷ supplied_numbers t.supplied

-- 16, 17 and 18 of one step, and then what is asked after it
abbrev pub step_refusal : Book → List ℕ → Key → Step → ℕ → ℕ
step_refusal book direction k step rest =
    16 unless fits book direction step
    orelse 17 unless is_free step 1 k.covered
    orelse 18 unless leb (jump k.r step) book.limit
    orelse rest

-- "For each step in order, stopping at the first no"; "After the last step, is every word covered?": 19
unfoldable pub steps_refusal : Book → List ℕ → Key → List Step → ℕ
steps_refusal book direction k [] = 19 unless all (λ bit. bit) k.covered
steps_refusal book direction k (step ∷ steps) = step_refusal book direction k step (steps_refusal book direction (next_key book k step) steps)

-- "Scoring a proposed list, after 2 to 6, 9 and 10."
unfoldable pub proposal_refusal : List ℤ → List ℕ → List Step → ℕ
proposal_refusal loaded direction steps =
    book_refusal loaded
    orelse direction_refusal direction
    orelse steps_refusal (book_of loaded) direction (start (word_count direction)) steps

-- ticket 3: "a successful scoring report[s] four counts"
abbrev pub totals_of : Book → List Step → Totals
totals_of book steps = record { score = score_of book steps; supplied = supplied_of book steps }

unfoldable pub score_proposal : List ℤ → List ℕ → List Step → Reply Totals
score_proposal loaded direction steps = reply (proposal_refusal loaded direction steps) (totals_of (book_of loaded) steps)

-- ════ decoding

-- the numbers of an answer in the order of a report: score, steps, words, states, triples, pairs, words, u
abbrev pub counts_of : Answer → List ℤ
counts_of a = a.score ∷ pos a.steps ∷ pos a.words ∷ pos a.states ∷ supplied_numbers a.supplied

-- the lengths of the lent lists: step records, words, and the store's numbers
pub record Lent : Type 0 where
  pub steps : ℕ
  pub words : ℕ
  pub store : ℕ

-- "Decoding, after 2 to 6, 9 and 10": 11 and 12. These change no lent list
unfoldable pub before_search : List ℤ → List ℕ → ℤ → Lent → ℕ
before_search loaded direction width lent =
    book_refusal loaded
    orelse direction_refusal direction
    orelse 11 unless le_z (negsuc 0) width
    orelse 12 unless (leb (word_count direction) lent.steps && leb (8 * word_count direction) lent.words)

-- "Does the store hold the states entered ..? It is a lent list of signed 64-bit numbers, 8 to a state, so length / 8 rounded
-- down.": 13. "With pruning off, is there a valid derivation?": 14 (proofs/Demands: set n is empty exactly where there is none).
-- "With a width, is set n not empty?": 15
unfoldable pub after_search : Book → List ℕ → ℤ → Lent → ℕ
after_search book direction width lent =
    13 unless leb (length (entered book direction width)) (lent.store / 8)
    orelse 14 unless (not (is_off width) || not (is_empty (last_set book direction width)))
    orelse 15 unless not (is_empty (last_set book direction width))

unfoldable pub decode_refusal : List ℤ → List ℕ → ℤ → Lent → ℕ
decode_refusal loaded direction width lent =
    before_search loaded direction width lent
    orelse after_search (book_of loaded) direction width lent

-- "The answer is a highest score in set n, its steps ..": where there is none, a question refused
abbrev pub answer_score : Option Hyp → ℤ
answer_score none = pos 0
answer_score (some q) = q.score

abbrev pub answer_steps : Option Hyp → List Step
answer_steps none = []
answer_steps (some q) = q.steps

-- what the search of the notes determines: "a highest score in set n", how many steps and target words its derivation has,
-- "the number of different states entered in all sets", and, ticket 3, who supplied the scores of its target words
abbrev pub search_answer : Book → List ℕ → ℤ → Answer
search_answer book direction width = record {
  score = answer_score (answer book direction width);
  steps = length (answer_steps (answer book direction width));
  words = length (target_words book (answer_steps (answer book direction width)));
  states = length (entered book direction width);
  supplied = supplied_of book (answer_steps (answer book direction width));
}

unfoldable pub decode : List ℤ → List ℕ → ℤ → Lent → Reply Answer
decode loaded direction width lent = reply (decode_refusal loaded direction width lent) (search_answer (book_of loaded) direction width)

-- "After 13, 14, 15 and after success the store is all zero"; "Those up to 12 .. change no lent list."
abbrev pub cleared_if : ℕ → List ℤ → List ℤ
cleared_if zero store = replicate (length store) (pos 0)
cleared_if (suc k) store = store

unfoldable pub decoded_store : List ℤ → List ℕ → ℤ → Lent → List ℤ → List ℤ
decoded_store loaded direction width lent store = cleared_if (before_search loaded direction width lent) store

-- "On success the steps stand in the caller's list of step records .. places beyond the reported counts are unchanged."; after a
-- refusal "the steps and words are as before". Ticket 1: "an answer's steps are now determined too"
unfoldable pub decoded_steps : List ℤ → List ℕ → ℤ → Lent → List Step → List Step
decoded_steps loaded direction width lent steps =
    written_if (decode_refusal loaded direction width lent) (answer_steps (answer (book_of loaded) direction width)) steps

-- "and each step's target words follow those of the step before"
unfoldable pub decoded_words : List ℤ → List ℕ → ℤ → Lent → List ℕ → List ℕ
decoded_words loaded direction width lent words =
    written_if (decode_refusal loaded direction width lent)
    (target_words (book_of loaded) (answer_steps (answer (book_of loaded) direction width))) words

-- the whole of a decode, on all inputs: its reply, and each lent list before (₀) and after (₁)
pub record Decodes (loaded : List ℤ) (direction : List ℕ) (width : ℤ) (steps₀ steps₁ : List Step) (words₀ words₁ : List ℕ)
    (store₀ store₁ : List ℤ) (result : Result Answer Refusal) : Type 0 where
  pub reply_is : reply_of result ≡ decode loaded direction width (record { steps = length steps₀; words = length words₀; store = length store₀ })
  pub steps_are : steps₁ ≡ decoded_steps loaded direction width (record { steps = length steps₀; words = length words₀; store = length store₀ }) steps₀
  pub words_are : words₁ ≡ decoded_words loaded direction width (record { steps = length steps₀; words = length words₀; store = length store₀ }) words₀
  pub store_is : store₁ ≡ decoded_store loaded direction width (record { steps = length steps₀; words = length words₀; store = length store₀ }) store₀
