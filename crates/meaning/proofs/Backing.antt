-- Each way in which a triple can be scored, computed from the definitions. The numbers are worked out from Ticket 2: "A triple v, w, y
-- without a T line scores the weight of pair v, w (0 if unlisted) plus the score of pair w, y; an unlisted pair scores the weight of w
-- (0 if unlisted) plus the score of word y, or u if unlisted."
use Prim.Native.Nat.{ℕ}
use mathlib.Core.Path.{◌≡◌, refl}
use mathlib.Core.Bool.{true}
use mathlib.Core.List.{List, [], ◌∷◌, ◌++◌}
use lib.IntN.{ℤ, pos}
use Rattle.laws.specs.Lists.{all}
use Rattle.meaning.specs.Book.{loaded_of}
use Rattle.meaning.proofs.Computing.{computing}
use Rattle.meaning.proofs.Drawers.{bytes, minus, off, step, decoding, scoring, scores, scores_states, scores_steps, scores_by, Row, row, agrees}

-- u is −500, no jump but 0 is allowed, and the phrases 11 to 101, 12 to 102 and 13 to 103 add nothing
abbrev pub phrases : List ℕ
phrases = bytes "B,0,0,-500\n" ++ bytes "P,1,1,11,101,0\n" ++ bytes "P,1,1,12,102,0\n" ++ bytes "P,1,1,13,103,0\n"

-- ════ after two words, which score −1 and −2 by their T lines: the triple 101, 102, 103

-- the book with these lines too
abbrev pub with : List ℕ → List ℤ
with lines = loaded_of (phrases ++ bytes "T,0,0,101,-1\n" ++ bytes "T,0,101,102,-2\n" ++ lines)

abbrev pub three : List ℕ
three = 11 ∷ 12 ∷ 13 ∷ []

-- the triple's line; the pairs 101, 102 and 102, 103; the words 102 and 103
abbrev pub T123 : List ℕ
T123 = bytes "T,101,102,103,-10\n"

abbrev pub D12 : List ℕ
D12 = bytes "D,101,102,-8,3\n"

abbrev pub D23 : List ℕ
D23 = bytes "D,102,103,-20,7\n"

abbrev pub U2 : List ℕ
U2 = bytes "U,102,-6,5\n"

abbrev pub U3 : List ℕ
U3 = bytes "U,103,-40,9\n"

-- −1 −2 and the triple's score
abbrev pub judged : List ℕ → ℤ → Row
judged lines z = row "" (scoring (with lines) three (step 1 1 1 ∷ step 2 2 2 ∷ step 3 3 3 ∷ [])) (scores z)

unfoldable pub ways : List Row
ways =
    -- its T line, whatever else is listed: −10
    judged (T123 ++ D12 ++ D23 ++ U2 ++ U3) (minus 13)
    -- the pair 102, 103: −20; no word counts then, nor a weight of its own
    ∷ judged D23 (minus 23)
    ∷ judged (U2 ++ U3 ++ D23) (minus 23)
    -- the weight of 101, 102, and the pair: 3 − 20
    ∷ judged (D12 ++ D23) (minus 20)
    ∷ judged (D23 ++ U3 ++ U2 ++ D12) (minus 20)
    -- the word 103: −40
    ∷ judged U3 (minus 43)
    -- weights and the word: 5 − 40; 3 − 40; 3 + 5 − 40
    ∷ judged (U2 ++ U3) (minus 38)
    ∷ judged (D12 ++ U3) (minus 40)
    ∷ judged (D12 ++ U2 ++ U3) (minus 35)
    -- u: −500; with weights: 5 − 500, 3 − 500, 3 + 5 − 500
    ∷ judged [] (minus 503)
    ∷ judged U2 (minus 498)
    ∷ judged D12 (minus 500)
    ∷ judged (U2 ++ D12) (minus 495)
    -- weights below 0: −3 −5 −40, −3 −20 and −3 + 5 − 500
    ∷ judged (bytes "D,101,102,-8,-3\n" ++ bytes "U,102,-6,-5\n" ++ U3) (minus 51)
    ∷ judged (bytes "D,101,102,-8,-3\n" ++ D23) (minus 26)
    ∷ judged (bytes "D,101,102,-8,-3\n" ++ U2) (minus 501)
    -- the most that a triple can score, 3,000,000
    ∷ judged (bytes "D,101,102,0,1000000\n" ++ bytes "U,102,0,1000000\n" ++ bytes "U,103,1000000,0\n") (pos 2_999_997)
    -- neither the weight of a pair turned round nor that of another word counts: −40
    ∷ judged (bytes "D,102,101,-8,3\n" ++ bytes "D,103,102,-8,3\n" ++ bytes "U,101,-6,5\n" ++ U3) (minus 43)
    ∷ []

pub ways_agree : all agrees ways ≡ true
unfolding computing ways bytes
ways_agree = refl

-- ════ word 0: "Word 0 may be D's w or U's y."

-- a direction of one word, 101 after two start symbols, and of two
abbrev pub one : List ℕ → ℤ → Row
one lines z = row "" (scoring (loaded_of (phrases ++ lines)) (11 ∷ []) (step 1 1 1 ∷ [])) (scores z)

abbrev pub two : List ℕ → ℤ → Row
two lines z = row "" (scoring (loaded_of (phrases ++ lines)) (11 ∷ 12 ∷ []) (step 1 1 1 ∷ step 2 2 2 ∷ [])) (scores z)

unfoldable pub starts : List Row
starts =
    -- the pair 0, 101: −20
    one (bytes "D,0,101,-20,7\n") (minus 20)
    -- the weight of word 0, and the word 101 or u: 4 − 40, 4 − 500. Word 0's own score, −70, is nobody's
    ∷ one (bytes "U,0,-70,4\n" ++ bytes "U,101,-40,9\n") (minus 36)
    ∷ one (bytes "U,0,-70,4\n") (minus 496)
    ∷ one (bytes "U,0,-70,-4\n") (minus 504)
    -- −20, and then the weight of 0, 101, and the word 102: 7 − 6
    ∷ two (bytes "D,0,101,-20,7\n" ++ bytes "U,102,-6,5\n") (minus 19)
    -- 4 − 500, and then the pair 101, 102, without the weight of word 0: −8
    ∷ two (bytes "U,0,-70,4\n" ++ bytes "D,101,102,-8,3\n") (minus 504)
    ∷ []

pub starts_agree : all agrees starts ≡ true
unfolding computing starts bytes
starts_agree = refl

-- ════ by decoding

-- two wordings of 11, and 12: "A flat score for every unseen triple ranks a familiar pair no better than nonsense"
abbrev pub wordings : List ℕ
wordings = bytes "B,0,0,-500\n" ++ bytes "P,1,1,11,101,0\n" ++ bytes "P,1,1,11,104,-10\n" ++ bytes "P,1,1,12,102,0\n"

abbrev pub decodes : List ℕ → ℤ → ℕ → Row
decodes lines z entry = row "" (decoding (loaded_of (wordings ++ lines)) (11 ∷ 12 ∷ []) off 512) (scores_steps z (step 1 1 entry ∷ step 2 2 3 ∷ []))

unfoldable pub decoded : List Row
decoded =
    -- nothing is listed: 0 −500 −500
    decodes [] (minus 1_000) 1
    -- the pair 104, 102 is familiar: −10 −500 −30
    ∷ decodes (bytes "D,104,102,-30,0\n") (minus 540) 2
    -- the word 104 has a weight: −10 −500 and 100 − 500
    ∷ decodes (bytes "U,104,-500,100\n") (minus 910) 2
    -- and the pair 0, 101 a larger one: −500 and 200 − 500
    ∷ decodes (bytes "U,104,-500,100\n" ++ bytes "D,0,101,-500,200\n") (minus 800) 1
    -- as scored above, with one state for each set
    ∷ row "" (decoding (with (D12 ++ U2 ++ U3)) three off 4) (scores_states (minus 35) 4)
    ∷ []

pub decoded_agree : all agrees decoded ≡ true
unfolding computing decoded bytes
decoded_agree = refl

-- ════ ticket 3: who supplied the scores, in the order triples, pairs, words, u

-- the first two words end listed triples
abbrev pub third : List ℕ → ℤ → ℕ → ℕ → ℕ → ℕ → Row
third lines z triples pairs words unseen =
    row "" (scoring (with lines) three (step 1 1 1 ∷ step 2 2 2 ∷ step 3 3 3 ∷ [])) (scores_by z triples pairs words unseen)

-- the word 101 after two start symbols, and a direction of four words, by decoding
abbrev pub first : List ℕ → ℤ → ℕ → ℕ → ℕ → ℕ → Row
first lines z triples pairs words unseen = row "" (decoding (loaded_of (phrases ++ lines)) (11 ∷ []) off 2) (scores_by z triples pairs words unseen)

unfoldable pub supplies : List Row
supplies =
    third (T123 ++ D12 ++ D23 ++ U2 ++ U3) (minus 13) 3 0 0 0
    ∷ third (D12 ++ D23 ++ U2 ++ U3) (minus 20) 2 1 0 0
    -- the weights of 101, 102 and of 102 are added, and supply nothing
    ∷ third (D12 ++ U2 ++ U3) (minus 35) 2 0 1 0
    ∷ third (D12 ++ U2) (minus 495) 2 0 0 1
    -- each alone; word 0's line and its weight are no supplier
    ∷ first (bytes "T,0,0,101,-1\n") (minus 1) 1 0 0 0
    ∷ first (bytes "D,0,101,-20,7\n") (minus 20) 0 1 0 0
    ∷ first (bytes "U,0,-70,4\n" ++ bytes "U,101,-40,9\n") (minus 36) 0 0 1 0
    ∷ first (bytes "U,0,-70,4\n") (minus 496) 0 0 0 1
    -- −1 by the triple, −8 by the pair, 3 − 40 by the word, 9 − 500 by u: a pair whose first word is of the step before
    ∷ row "" (decoding (loaded_of (phrases ++ bytes "T,0,0,101,-1\n" ++ D12 ++ U3)) (11 ∷ 12 ∷ 13 ∷ 11 ∷ []) off 5) (scores_by (minus 537) 1 1 1 1)
    ∷ []

pub supplies_agree : all agrees supplies ≡ true
unfolding computing supplies bytes
supplies_agree = refl
