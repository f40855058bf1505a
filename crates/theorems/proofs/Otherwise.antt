-- Ticket 3 puts four counts into an answer and a scoring, and changes nothing otherwise. Ticket 2's replies stand here once more, as definitions: those of the
-- calls with the counts left out are they (`decode_otherwise`, `scoring_otherwise`), a report of no more places than ticket 2 had values is filled as it was
-- (`report_otherwise`, `score_otherwise`), and an answer is printed as it was but for the counts at the end of its first line (`printed_otherwise`). What they are
-- said of did not change a line: the refusals of each call (`proposal_refusal`, `decode_refusal`), `score_of`, `answer`, `entered`, and the lent lists after a decode
-- (`decoded_steps`, `decoded_words`, `decoded_store`).
use Prim.Native.Nat.{ℕ, zero, suc, ◌≤◌}
use native.Mathlib.Omega.{arith}
use mathlib.Core.Path.{◌≡◌, refl, ap, ◌∙◌}
use mathlib.Core.List.{List, [], ◌∷◌, ◌++◌, map, append_assoc}
use lib.IntN.{ℤ, pos}
use lib.ListN.{length}
use Rattle.laws.specs.Lists.{concat}
use Rattle.laws.proofs.Lists.{concat_++}
use Rattle.meaning.specs.Numerals.{newline, comma}
use Rattle.meaning.specs.Book.{Book, book_of}
use Rattle.meaning.specs.Derivation.{target_words, score_of}
use Rattle.meaning.specs.Search.{entered, answer}
use Rattle.meaning.specs.Reply.{Reply, refused, done, reply, filled_with, Lent, supplied_numbers, totals_numbers, counts_of, proposal_refusal, score_proposal, decode_refusal, decode, answer_score, answer_steps}
use Rattle.meaning.specs.Render.{decimal, printed_line, printed_step, printed_answer}
use Rattle.meaning.specs.declared.Step.{Step}
use Rattle.meaning.specs.declared.Totals.{Totals}
use Rattle.meaning.specs.declared.Answer.{Answer}

-- ════ what ticket 2 had

pub record EarlierAnswer : Type 0 where
  pub score : ℤ
  pub steps : ℕ
  pub words : ℕ
  pub states : ℕ

-- "a highest score in set n", how many steps and target words its derivation has, and "the number of different states entered in all sets"
abbrev pub earlier_search : Book → List ℕ → ℤ → EarlierAnswer
earlier_search book direction width = record {
  score = answer_score (answer book direction width);
  steps = length (answer_steps (answer book direction width));
  words = length (target_words book (answer_steps (answer book direction width)));
  states = length (entered book direction width);
}

abbrev pub earlier_decode : List ℤ → List ℕ → ℤ → Lent → Reply EarlierAnswer
earlier_decode loaded direction width lent = reply (decode_refusal loaded direction width lent) (earlier_search (book_of loaded) direction width)

abbrev pub earlier_scoring : List ℤ → List ℕ → List Step → Reply ℤ
earlier_scoring loaded direction steps = reply (proposal_refusal loaded direction steps) (score_of (book_of loaded) steps)

-- "score, steps, words, states"
abbrev pub earlier_counts : EarlierAnswer → List ℤ
earlier_counts a = a.score ∷ pos a.steps ∷ pos a.words ∷ pos a.states ∷ []

abbrev pub earlier_printed : EarlierAnswer → List Step → List ℕ → List ℕ
earlier_printed a steps words =
    printed_line 65 (earlier_counts a)
    ++ concat (map printed_step steps)
    ++ printed_line 87 (map pos words)

-- ════ the replies

-- an answer with the four counts left out
abbrev pub earlier : Answer → EarlierAnswer
earlier a = record { score = a.score; steps = a.steps; words = a.words; states = a.states }

-- a reply of which a part is looked at
abbrev pub replied : {A B : Type 0} → (A → B) → Reply A → Reply B
replied part (refused k) = refused k
replied part (done a) = done (part a)

replied_is : {A B : Type 0} (part : A → B) (k : ℕ) (a : A) → replied part (reply k a) ≡ reply k (part a)
replied_is part zero a = refl
replied_is part (suc k) a = refl

pub decode_otherwise : (loaded : List ℤ) (direction : List ℕ) (width : ℤ) (lent : Lent) → replied earlier (decode loaded direction width lent) ≡ earlier_decode loaded direction width lent
unfolding decode
decode_otherwise loaded direction width lent = replied_is earlier (decode_refusal loaded direction width lent) _

pub scoring_otherwise : (loaded : List ℤ) (direction : List ℕ) (steps : List Step) → replied (λ t. t.score) (score_proposal loaded direction steps) ≡ earlier_scoring loaded direction steps
unfolding score_proposal
scoring_otherwise loaded direction steps = replied_is (λ (t : Totals). t.score) (proposal_refusal loaded direction steps) _

-- ════ the reports

-- values behind those that a list has places for do not change it
filled_more : (new more old : List ℤ) → length old ≤ length new → filled_with (new ++ more) old ≡ filled_with new old
unfolding filled_with
filled_more [] [] old h = refl
filled_more [] (x ∷ more) [] h = refl
filled_more [] (x ∷ more) (y ∷ old) h = absurd (omega arith)
filled_more (x ∷ new) more [] h = refl
filled_more (x ∷ new) more (y ∷ old) h = ap (λ (l : List ℤ). x ∷ l) (filled_more new more old (omega arith))

pub report_otherwise : (a : Answer) (report : List ℤ) → length report ≤ 4 → filled_with (counts_of a) report ≡ filled_with (earlier_counts (earlier a)) report
report_otherwise a report h = filled_more (earlier_counts (earlier a)) (supplied_numbers a.supplied) report h

pub score_otherwise : (t : Totals) (report : List ℤ) → length report ≤ 1 → filled_with (totals_numbers t) report ≡ filled_with (t.score ∷ []) report
score_otherwise t report h = filled_more (t.score ∷ []) (supplied_numbers t.supplied) report h

-- ════ the printed answer

-- each number after a comma
abbrev pub fields_of : List ℤ → List ℕ
fields_of numbers = concat (map (λ z. comma ∷ decimal z) numbers)

-- ticket 2's answer with some bytes put at the end of its first line, before byte 10
abbrev pub printed_with : List ℕ → EarlierAnswer → List Step → List ℕ → List ℕ
printed_with bytes a steps words =
    (65 ∷ fields_of (earlier_counts a) ++ (bytes ++ (newline ∷ [])))
    ++ concat (map printed_step steps)
    ++ printed_line 87 (map pos words)

pub printed_earlier : (a : EarlierAnswer) (steps : List Step) (words : List ℕ) → earlier_printed a steps words ≡ printed_with [] a steps words
unfolding printed_line
printed_earlier a steps words = refl

-- "The A line prints them after the states."
pub printed_otherwise : (a : Answer) (steps : List Step) (words : List ℕ) → printed_answer a steps words ≡ printed_with (fields_of (supplied_numbers a.supplied)) (earlier a) steps words
unfolding printed_answer printed_line
printed_otherwise a steps words =
    ap (λ (line : List ℕ). (65 ∷ line) ++ concat (map printed_step steps) ++ printed_line 87 (map pos words))
    (ap (λ (l : List ℕ). l ++ (newline ∷ [])) (concat_++ (map (λ z. comma ∷ decimal z) (earlier_counts (earlier a))) (map (λ z. comma ∷ decimal z) (supplied_numbers a.supplied)))
    ∙ append_assoc (fields_of (earlier_counts (earlier a))) (fields_of (supplied_numbers a.supplied)) (newline ∷ []))
