-- The twelve inputs that document 01 marks to be proved (its "marked drawers"), two of them with all that is handed back, its
-- printed example, and four inputs beyond the twelve, each computed from the definitions.
use Prim.Native.Nat.{ℕ, ◌*◌, ◌≤◌}
use Prim.Native.String.{String, [] as emptyText, ◌∷◌ as ◌then◌}
use Prim.Native.Char.{code}
use native.Mathlib.Omega.{arith}
use mathlib.Core.Path.{◌≡◌, refl, ◌∙◌}
use mathlib.Core.Bool.{Bool, true, false, ◌&&◌}
use mathlib.Core.List.{List, [], ◌∷◌, ◌++◌}
use lib.Dec.{eqb}
use lib.IntN.{ℤ, pos, neg_ℤ}
use lib.ListN.{set}
use Rattle.laws.specs.Integers.{eqℤ}
use Rattle.laws.specs.Lists.{all, eq_list}
use Rattle.meaning.specs.Book.{loaded_of, book_of}
use Rattle.meaning.specs.Direction.{word_count}
use Rattle.meaning.specs.Derivation.{is_valid, target_words, score_of}
use Rattle.meaning.specs.Search.{answer}
use Rattle.meaning.specs.Reply.{Reply, refused, done, Lent, supplied_numbers, answer_steps, decode, score_proposal}
use Rattle.meaning.specs.Render.{rendered}
use Rattle.meaning.specs.declared.Step.{Step}
use Rattle.meaning.specs.declared.Supplied.{Supplied}
use Rattle.meaning.specs.declared.Totals.{Totals}
use Rattle.meaning.specs.declared.Answer.{Answer}
use Rattle.meaning.proofs.Computing.{computing}
use Rattle.meaning.proofs.Rooms.{decode_room}

-- ════ the inputs

unfoldable pub bytes : String → List ℕ
bytes emptyText = []
bytes (c then s) = code c ∷ bytes s

abbrev pub lines1to3 : List ℕ
lines1to3 = bytes "B,2,-10,-500\n" ++ bytes "P,1,1,11,101,-20\n" ++ bytes "P,1,1,12,102,-30\n"

abbrev pub line4 : List ℕ
line4 = bytes "P,2,2,11,12,102,101,-70\n"

abbrev pub lines5to8 : List ℕ
lines5to8 = bytes "T,0,0,101,-40\n" ++ bytes "T,0,101,102,-60\n" ++ bytes "T,0,0,102,-15\n" ++ bytes "T,0,102,101,-25\n"

-- document 01's book
unfoldable pub book_text : List ℕ
book_text = lines1to3 ++ line4 ++ lines5to8

-- the loaded book with limit d; "short" is without its fourth line
unfoldable pub book : ℕ → List ℤ
book d = set (loaded_of book_text) 1 (pos d)

unfoldable pub short : ℕ → List ℤ
short d = set (loaded_of (lines1to3 ++ lines5to8)) 1 (pos d)

abbrev pub direction : List ℕ
direction = 11 ∷ 12 ∷ []

abbrev pub minus : ℕ → ℤ
minus n = neg_ℤ (pos n)

-- pruning off
abbrev pub off : ℤ
off = minus 1

abbrev pub step : ℕ → ℕ → ℕ → Step
step first last entry = record { first = first; last = last; entry = entry }

-- ════ the rows

pub data Input : Type 0 where
  -- a loaded book, a direction, a width and how many states the store holds
  decoding : List ℤ → List ℕ → ℤ → ℕ → Input
  -- a loaded book, a direction and a proposed list
  scoring : List ℤ → List ℕ → List Step → Input

pub data Says : Type 0 where
  refuses : ℕ → Says
  scores : ℤ → Says
  scores_states : ℤ → ℕ → Says
  scores_steps : ℤ → List Step → Says
  -- ticket 3: how many target words were supplied by triples, pairs, words and u
  scores_by : ℤ → ℕ → ℕ → ℕ → ℕ → Says

pub record Row : Type 0 where
  pub letter : String
  pub input : Input
  pub says : Says

abbrev pub row : String → Input → Says → Row
row letter input says = record { letter = letter; input = input; says = says }

-- ════ a row agrees with the definitions

abbrev pub eq_step : Step → Step → Bool
eq_step p q = eqb p.first q.first && eqb p.last q.last && eqb p.entry q.entry

abbrev pub answered_as : Answer → List Step → Says → Bool
answered_as a steps (refuses k) = false
answered_as a steps (scores z) = eqℤ a.score z
answered_as a steps (scores_states z n) = eqℤ a.score z && eqb a.states n
answered_as a steps (scores_steps z want) = eqℤ a.score z && eq_list eq_step steps want
answered_as a steps (scores_by z triples pairs words unseen) =
    eqℤ a.score z && eq_list eqℤ (supplied_numbers a.supplied) (pos triples ∷ pos pairs ∷ pos words ∷ pos unseen ∷ [])

abbrev pub refused_as : ℕ → Says → Bool
refused_as k (refuses m) = eqb k m
refused_as k (scores z) = false
refused_as k (scores_states z n) = false
refused_as k (scores_steps z want) = false
refused_as k (scores_by z triples pairs words unseen) = false

-- an answer's steps are also held to be a valid derivation of its score
abbrev pub decoded_as : List ℤ → List ℕ → List Step → Reply Answer → Says → Bool
decoded_as loaded words steps (refused k) says = refused_as k says
decoded_as loaded words steps (done a) says =
    answered_as a steps says && is_valid (book_of loaded) words steps && eqℤ (score_of (book_of loaded) steps) a.score

abbrev pub scored_as : Reply Totals → Says → Bool
scored_as (refused k) says = refused_as k says
scored_as (done t) says = answered_as (record { score = t.score; steps = 0; words = 0; states = 0; supplied = t.supplied }) [] says

-- lists long enough for these words, and a store of this many states
abbrev pub lent : List ℕ → ℕ → Lent
lent words states = record { steps = word_count words; words = 8 * word_count words; store = 8 * states }

abbrev pub answers_as : Input → Says → Bool
answers_as (decoding loaded words width states) says =
    decoded_as loaded words (answer_steps (answer (book_of loaded) words width)) (decode loaded words width (lent words states)) says
answers_as (scoring loaded words steps) says = scored_as (score_proposal loaded words steps) says

abbrev pub agrees : Row → Bool
agrees r = answers_as r.input r.says

-- ════ the table

unfoldable pub drawers : List Row
drawers =
    row "a" (decoding (book 2) direction off 6) (scores (minus 110))
    ∷ row "b" (decoding (book 2) direction off 5) (refuses 13)
    ∷ row "c" (decoding (book 0) direction off 512) (scores_states (minus 110) 4)
    ∷ row "d" (decoding (short 2) direction off 512) (scores_steps (minus 120) (step 2 2 2 ∷ step 1 1 1 ∷ []))
    ∷ row "e" (decoding (short 1) direction off 512) (scores_steps (minus 150) (step 1 1 1 ∷ step 2 2 2 ∷ []))
    ∷ row "f" (decoding (short 1) direction (pos 0) 512) (refuses 15)
    ∷ row "g" (decoding (short 1) direction (pos 5) 512) (scores (minus 150))
    ∷ row "h" (decoding (book 2) direction (pos 0) 512) (scores_states (minus 110) 5)
    ∷ row "i" (decoding (book 2) (11 ∷ 13 ∷ []) off 512) (refuses 14)
    ∷ row "j" (decoding (book 2) [] off 512) (refuses 9)
    ∷ row "k" (decoding (book 2) direction (minus 2) 512) (refuses 11)
    ∷ row "l" (scoring (book 2) direction []) (refuses 19)
    ∷ []

pub drawers_agree : all agrees drawers ≡ true
unfolding computing drawers bytes book_text book short
drawers_agree = refl

-- ════ drawers d and e, into lists of n and 8 × n places or more, and a store of 512 states

abbrev pub Decoding : List ℤ → ℕ → ℕ → Answer → Type 0
Decoding loaded steps words a = decode loaded direction off (record { steps = steps; words = words; store = 8 * 512 }) ≡ done a

room : (loaded : List ℤ) (steps words : ℕ) (a : Answer) → 2 ≤ steps → 16 ≤ words → Decoding loaded 2 16 a → Decoding loaded steps words a
unfolding word_count
room loaded steps words a h g e = decode_room loaded direction off steps words 2 16 (8 * 512) (λ _. (h, g)) (λ _. (omega arith, omega arith)) ∙ e

-- the steps and the target words that the search arrives at
abbrev pub Found : List ℤ → List Step → List ℕ → Type 0
Found loaded steps words =
    (answer_steps (answer (book_of loaded) direction off) ≡ steps) × (target_words (book_of loaded) (answer_steps (answer (book_of loaded) direction off)) ≡ words)

-- both words end listed triples
abbrev by_triples : Supplied
by_triples = record { triples = 2; pairs = 0; words = 0; unseen = 0 }

abbrev pub answer_d : Answer
answer_d = record { score = minus 120; steps = 2; words = 2; states = 5; supplied = by_triples }

shortest_d : Decoding (short 2) 2 16 answer_d
unfolding computing bytes short
shortest_d = refl

pub decode_d : (steps words : ℕ) → 2 ≤ steps → 16 ≤ words → Decoding (short 2) steps words answer_d
decode_d steps words h g = room (short 2) steps words _ h g shortest_d

pub found_d : Found (short 2) (step 2 2 2 ∷ step 1 1 1 ∷ []) (102 ∷ 101 ∷ [])
unfolding computing bytes short
found_d = (refl, refl)

abbrev pub answer_e : Answer
answer_e = record { score = minus 150; steps = 2; words = 2; states = 4; supplied = by_triples }

shortest_e : Decoding (short 1) 2 16 answer_e
unfolding computing bytes short
shortest_e = refl

pub decode_e : (steps words : ℕ) → 2 ≤ steps → 16 ≤ words → Decoding (short 1) steps words answer_e
decode_e steps words h g = room (short 1) steps words _ h g shortest_e

pub found_e : Found (short 1) (step 1 1 1 ∷ step 2 2 2 ∷ []) (101 ∷ 102 ∷ [])
unfolding computing bytes short
found_e = (refl, refl)

-- ════ the printed example, from the two texts

pub example_prints : rendered book_text (bytes "11,12\n") ≡ bytes "A,-110,1,2,6,2,0,0,0\nS,1,2,3\nW,102,101\n"
unfolding computing bytes book_text
example_prints = refl

-- ════ beyond the twelve

unfoldable pub more : List Row
more =
    -- three target words in a row: an old word kept in the wrong slot would show
    row "three words" (decoding (book 2) (11 ∷ 12 ∷ 11 ∷ []) off 512) (scores_states (minus 630) 14)
    -- an unseen triple, by decoding and by scoring: none of the twelve scores one
    ∷ row "unseen, decoded" (decoding (book 2) (11 ∷ 11 ∷ []) off 512) (scores (minus 580))
    ∷ row "unseen, scored" (scoring (book 2) (11 ∷ 11 ∷ []) (step 1 1 1 ∷ step 2 2 1 ∷ [])) (scores (minus 580))
    -- a first jump counts: −30 −15 −10 and −20 −25 −20
    ∷ row "first jump" (scoring (book 2) direction (step 2 2 2 ∷ step 1 1 1 ∷ [])) (scores (minus 120))
    ∷ []

pub more_agree : all agrees more ≡ true
unfolding computing more bytes book_text book
more_agree = refl
