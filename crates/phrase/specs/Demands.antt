-- The three demands as statements, with no proof. proofs/Demanded.antt shows them from the contracts of `decode` and `score` alone, on every input
-- and without any other condition: `decode_demands`, `same_answer`, `score_demands`. That every call ends is part of what a contract means.
-- The contracts of the other calls are equations with a definition: they are demand 1 as they stand.
-- The definitions are those of crate meaning; `negsuc 0` is −1, and the empty type ⊥ says "never".
use Rattle.std.specs.declared.result.Result.TheVariants.{Ok, Err}
use Rattle.std.specs.declared.result.Result.{Result}
use Rattle.std.specs.Prelude.{ℕ, ◌/◌, ◌≤◌, ◌<◌, ◌≡◌, ◌↔◌, ◌⊎◌, true, false, ℤ, pos, negsuc, ◌≤ℤ◌, length, take, drop, replicate}
use mathlib.Core.List.{List, [], Memᴰ}
use Rattle.meaning.specs.Questions.{number, is_of_search, is_of_steps}
use Rattle.meaning.specs.Book.{Book, book_of, book_refusal}
use Rattle.meaning.specs.Direction.{direction_refusal}
use Rattle.meaning.specs.Derivation.{IsDerivation, is_valid, target_words, score_of, supplied_of, in_all, comes_before}
use Rattle.meaning.specs.State.{Key, Hyp, AreReachable}
use Rattle.meaning.specs.Search.{entered, last_set, answer}
use Rattle.meaning.specs.Reply.{Lent, proposal_refusal, totals_of, score_proposal, reply_of, before_search, decode_refusal, answer_steps}
use Rattle.meaning.specs.declared.Step.{Step}
use Rattle.meaning.specs.declared.Answer.{Answer}
use Rattle.meaning.specs.declared.Totals.{Totals}
use Rattle.meaning.specs.declared.Refusal.{Refusal}
use Rattle.meaning.specs.declared.Refusal.TheVariants.{StoreTooSmall, NoDerivation, LastSetEmpty}

-- ════ a decode: what is handed in, each lent list before (₀) and after (₁), and the result

module _ (loaded : List ℤ) (direction : List ℕ) (width : ℤ) (steps₀ steps₁ : List Step) (words₀ words₁ : List ℕ) (store₀ store₁ : List ℤ) (result : Result Answer Refusal) where
  abbrev book : Book
  book = book_of loaded

  abbrev lent : Lent
  lent = record { steps = length steps₀; words = length words₀; store = length store₀ }

  -- "−1 (pruning off)"
  abbrev PruningOff : Type 0
  PruningOff = width ≡ negsuc 0

  -- an answer is given
  abbrev IsAnswered : Type 0
  IsAnswered = (a : Answer) × (result ≡ Ok a)

  -- the questions before the search, 2 to 6, 21, 20 and 9 to 12, all pass
  abbrev Begins : Type 0
  Begins = before_search loaded direction width lent ≡ 0

  -- the store holds ("length / 8 rounded down") the states that the transitions can reach, or is too small for them; one of the two is so (`room_or_small`)
  abbrev HasRoom : Type 0
  HasRoom = (keys : List Key) × AreReachable book direction keys × (length keys ≤ length store₀ / 8)

  abbrev IsTooSmall : Type 0
  IsTooSmall = (keys : List Key) × AreReachable book direction keys × (length store₀ / 8 < length keys)

  abbrev zeros : List ℤ
  zeros = replicate (length store₀) (pos 0)

  -- Demand 1. "Whatever is handed in is taken, or turned down with exactly the number that the papers give; every call ends; a refusal leaves
  -- steps and words untouched, the store untouched or, once the search began, all zero." It began where one of 13 to 15 is given
  pub record Demand1 : Type 0 where
    pub taken : (decode_refusal loaded direction width lent ≡ 0) ↔ IsAnswered
    pub turned_down : (refusal : Refusal) → (decode_refusal loaded direction width lent ≡ number refusal) ↔ (result ≡ Err refusal)
    pub steps_kept : (refusal : Refusal) → result ≡ Err refusal → steps₁ ≡ steps₀
    pub words_kept : (refusal : Refusal) → result ≡ Err refusal → words₁ ≡ words₀
    pub store_kept : (refusal : Refusal) → result ≡ Err refusal → is_of_search (number refusal) ≡ false → store₁ ≡ store₀
    pub store_cleared : (refusal : Refusal) → result ≡ Err refusal → is_of_search (number refusal) ≡ true → store₁ ≡ zeros
    pub answered_cleared : IsAnswered → store₁ ≡ zeros

  -- Demand 2. "What is handed back is a valid derivation as Collins' notes define it, with its score to the last unit; [a proposed list: see
  -- ScoreDemands]; the states entered are those of the notes' procedure, pruning on or off."
  pub record Demand2 : Type 0 where
    -- it stands at the beginning of the step list, and its words at the beginning of the word list; the rest of both is as before
    pub valid_and_exact : (a : Answer) → result ≡ Ok a → IsDerivation book direction a.score (take a.steps steps₁) (take a.words words₁)
    pub rest_kept : (a : Answer) → result ≡ Ok a → (drop a.steps steps₁ ≡ drop a.steps steps₀) × (drop a.words words₁ ≡ drop a.words words₀)
    -- ticket 1: "an answer's steps are now determined too"
    pub steps_are : (a : Answer) → result ≡ Ok a → take a.steps steps₁ ≡ answer_steps (answer book direction width)
    -- ticket 3: the "four counts in that order, of the target words each supplied", those of the steps; "they add up to all target words"
    pub supplied_are : (a : Answer) → result ≡ Ok a → a.supplied ≡ supplied_of book (take a.steps steps₁)
    pub supplied_in_all : (a : Answer) → result ≡ Ok a → in_all a.supplied ≡ a.words
    -- scoring the steps that were written, by the contract of `score`, reports the same score and the same counts
    pub scored_again : (a : Answer) → result ≡ Ok a → (s : Result Totals Refusal) → reply_of s ≡ score_proposal loaded direction (take a.steps steps₁)
        → s ≡ Ok (record { score = a.score; supplied = a.supplied })
    -- the number of the states entered is reported; with pruning off it is the number of those that the transitions can reach
    pub states_entered : (a : Answer) → result ≡ Ok a → a.states ≡ length (entered book direction width)
    pub states_reachable : PruningOff → (a : Answer) → result ≡ Ok a → (keys : List Key) → AreReachable book direction keys → a.states ≡ length keys

  -- Demand 3. "With pruning off, 14 means that no valid derivation exists; otherwise no valid derivation scores higher; 13 only when the store
  -- is too small for the states that can be reached. With a width: valid, exact [demand 2], and the best of the last set."
  pub record Demand3 : Type 0 where
    -- 14 means that none exists, and where none exists 14 is given
    pub none_valid : PruningOff → result ≡ Err NoDerivation → (steps : List Step) → is_valid book direction steps ≡ false
    pub gives_14 : PruningOff → Begins → HasRoom → ((steps : List Step) → is_valid book direction steps ≡ false) → result ≡ Err NoDerivation
    -- none scores higher
    pub none_higher : PruningOff → (a : Answer) → result ≡ Ok a → (steps : List Step) → is_valid book direction steps ≡ true → score_of book steps ≤ℤ a.score
    -- ticket 1: "with pruning off no valid derivation of that score comes earlier", and each other one comes later
    pub none_earlier : PruningOff → (a : Answer) → result ≡ Ok a → (steps : List Step) → is_valid book direction steps ≡ true → score_of book steps ≡ a.score
        → comes_before steps (take a.steps steps₁) ≡ false
    pub others_later : PruningOff → (a : Answer) → result ≡ Ok a → (steps : List Step) → is_valid book direction steps ≡ true → score_of book steps ≡ a.score
        → (take a.steps steps₁ ≡ steps) ⊎ (comes_before (take a.steps steps₁) steps ≡ true)
    -- 13 only when the store is too small, with any width; with pruning off, always then
    pub only_13 : result ≡ Err StoreTooSmall → IsTooSmall
    pub never_13 : HasRoom → result ≡ Err StoreTooSmall → ⊥
    pub gives_13 : PruningOff → Begins → IsTooSmall → result ≡ Err StoreTooSmall
    -- the best of the last set ..
    pub best_of_last_set : (a : Answer) → result ≡ Ok a → (q : Hyp) → Memᴰ q (last_set book direction width) → q.score ≤ℤ a.score
    -- .. and of those with its score the first in order; with a width never 14, and 15 only where that set is empty
    pub first_of_last_set : (a : Answer) → result ≡ Ok a → (q : Hyp) → Memᴰ q (last_set book direction width) → q.score ≡ a.score → comes_before q.steps (take a.steps steps₁) ≡ false
    pub never_14 : (β : ℕ) → width ≡ pos β → result ≡ Err NoDerivation → ⊥
    pub only_15 : result ≡ Err LastSetEmpty → last_set book direction width ≡ []
    -- with room nothing is given but an answer or 14, with a width an answer or 15
    pub answer_or_14 : PruningOff → Begins → HasRoom → IsAnswered ⊎ (result ≡ Err NoDerivation)
    pub answer_or_15 : (β : ℕ) → width ≡ pos β → Begins → HasRoom → IsAnswered ⊎ (result ≡ Err LastSetEmpty)

  pub record DecodeDemands : Type 0 where
    pub demand1 : Demand1
    pub demand2 : Demand2
    pub demand3 : Demand3

-- ════ two decodes of one book, direction and width, each with lent lists of its own: ticket 1, "Two cabinets in one corridor showed different wordings of
-- one direction, both at the top score"

module _ (steps₁ steps₂ : List Step) (words₁ words₂ : List ℕ) (result₁ result₂ : Result Answer Refusal) where
  -- the answer depends on the book, the direction and the width alone
  pub record SameAnswer : Type 0 where
    pub same : (a b : Answer) → result₁ ≡ Ok a → result₂ ≡ Ok b → a ≡ b
    pub same_steps : (a b : Answer) → result₁ ≡ Ok a → result₂ ≡ Ok b → take a.steps steps₁ ≡ take b.steps steps₂
    pub same_words : (a b : Answer) → result₁ ≡ Ok a → result₂ ≡ Ok b → take a.words words₁ ≡ take b.words words₂

-- ════ a scoring of proposed steps: what is handed in, and the result

module _ (loaded : List ℤ) (direction : List ℕ) (steps : List Step) (result : Result Totals Refusal) where
  abbrev book' : Book
  book' = book_of loaded

  -- Demand 1, and of demand 2: "a proposed list is found valid exactly when the notes say so"
  pub record ScoreDemands : Type 0 where
    pub turned_down : (refusal : Refusal) → (proposal_refusal loaded direction steps ≡ number refusal) ↔ (result ≡ Err refusal)
    -- what is scored is valid, with its score to the last unit ..
    pub scored_valid : (t : Totals) → result ≡ Ok t → (is_valid book' direction steps ≡ true) × (score_of book' steps ≡ t.score)
    -- .. what is valid is scored, where the book and the direction pass ..
    pub valid_scored : book_refusal loaded ≡ 0 → direction_refusal direction ≡ 0 → is_valid book' direction steps ≡ true → result ≡ Ok (totals_of book' steps)
    -- .. what gets one of 16 to 19 is not valid, and what is not valid gets one of them
    pub refused_invalid : (refusal : Refusal) → result ≡ Err refusal → is_of_steps (number refusal) ≡ true → is_valid book' direction steps ≡ false
    pub invalid_refused : book_refusal loaded ≡ 0 → direction_refusal direction ≡ 0 → is_valid book' direction steps ≡ false
        → (refusal : Refusal) × (result ≡ Err refusal) × (is_of_steps (number refusal) ≡ true)
    -- ticket 3: the four counts are those of the steps' target words, and add up to all of them
    pub supplied_are : (t : Totals) → result ≡ Ok t → t.supplied ≡ supplied_of book' steps
    pub supplied_in_all : (t : Totals) → result ≡ Ok t → in_all t.supplied ≡ length (target_words book' steps)
