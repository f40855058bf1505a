-- Broken texts, loaded books, directions and proposals, and the refusal that each gets; 0 where nothing is wrong.
use Prim.Native.Nat.{ℕ}
use mathlib.Core.Path.{◌≡◌, refl}
use mathlib.Core.Bool.{Bool, true}
use mathlib.Core.List.{List, [], ◌∷◌, ◌++◌}
use lib.Dec.{eqb}
use lib.IntN.{ℤ, pos, negsuc}
use lib.ListN.{replicate, take, length, set}
use Rattle.laws.specs.Lists.{all}
use Rattle.meaning.specs.Book.{book_refusal, read_refusal, target_part, part_of}
use Rattle.meaning.specs.Direction.{direction_refusal, read_direction_refusal}
use Rattle.meaning.specs.Reply.{proposal_refusal, before_search}
use Rattle.meaning.specs.declared.Step.{Step}
use Rattle.meaning.proofs.Computing.{computing}
use Rattle.meaning.proofs.Drawers.{bytes, book_text, book, direction, off, minus, step}

-- a refusal, and what it should be
abbrev pub Row : Type 0
Row = ℕ × ℕ

abbrev pub agrees : Row → Bool
agrees row = eqb row.0 row.1

-- reading a book, into 1,000 places
abbrev pub reads : List ℕ → ℕ
reads text = read_refusal text 1000

abbrev pub B : List ℕ
B = bytes "B,2,-10,-500\n"

unfoldable pub texts : List Row
texts =
    (reads book_text, 0)
    ∷ (read_refusal book_text 46, 0)
    ∷ (read_refusal book_text 45, 7)
    ∷ (reads B, 0)
    -- 1: no line; no byte 10 at the end; an empty line; no number; an empty number; another letter; two letters
    ∷ (reads [], 1)
    ∷ (reads (bytes "B,2,-10,-500"), 1)
    ∷ (reads (B ++ bytes "\n"), 1)
    ∷ (reads (bytes "B\n"), 1)
    ∷ (reads (bytes "B,2,,-500\n"), 1)
    ∷ (reads (bytes "B,2,-10,-500,\n"), 1)
    ∷ (reads (bytes "C,2,-10,-500\n"), 1)
    ∷ (reads (bytes "BB,2,-10,-500\n"), 1)
    -- 1: a needless zero; minus zero; a minus alone; a plus; 8 digits; a space; byte 13
    ∷ (reads (bytes "B,02,-10,-500\n"), 1)
    ∷ (reads (bytes "B,2,-0,-500\n"), 1)
    ∷ (reads (bytes "B,2,-01,-500\n"), 1)
    ∷ (reads (bytes "B,2,00,-500\n"), 1)
    ∷ (reads (bytes "B,2,-,-500\n"), 1)
    ∷ (reads (bytes "B,+2,-10,-500\n"), 1)
    ∷ (reads (bytes "B,2,-10,-10000000\n"), 1)
    ∷ (reads (bytes "B,2,-10,9999999\n"), 4)
    ∷ (reads (bytes "B,2, -10,-500\n"), 1)
    ∷ (reads (bytes "B,2,-10,-500\r\n"), 1)
    -- 2: too few fields; too many; a = 0; b = 9; fewer words than a says; a T line of 3. Each before 3 and 4
    ∷ (reads (bytes "B,1\n"), 2)
    ∷ (reads (bytes "B,2,-10\n"), 2)
    -- two lines that load as one good B line
    ∷ (reads (bytes "B,2\n" ++ bytes "B,5\n"), 2)
    ∷ (reads (bytes "B,2,-10,-500,0\n"), 2)
    ∷ (reads (B ++ bytes "P,1\n"), 2)
    ∷ (reads (B ++ bytes "P,0,1,101,-20\n"), 2)
    ∷ (reads (B ++ bytes "P,1,9,11,1,2,3,4,5,6,7,8,9,-20\n"), 2)
    ∷ (reads (B ++ bytes "P,2,1,11,101,-20\n"), 2)
    ∷ (reads (bytes "T,0,0,-40\n" ++ B), 2)
    -- 3: no B line first; a second one. Each before 4
    ∷ (reads (bytes "P,1,1,11,101,-20\n" ++ B), 3)
    ∷ (reads (B ++ bytes "P,1,1,0,101,-20\n" ++ B), 3)
    -- 4
    ∷ (reads (bytes "B,33,-10,-500\n"), 4)
    ∷ (reads (bytes "B,-1,-10,-500\n"), 4)
    ∷ (reads (bytes "B,2,10001,-500\n"), 4)
    ∷ (reads (bytes "B,2,-10,-1000001\n"), 4)
    ∷ (reads (bytes "B,32,-10000,-1000000\n" ++ bytes "P,1,1,65535,1,1000000\n"), 0)
    ∷ (reads (bytes "B,32,10000,1000000\n" ++ bytes "P,1,1,1,65535,-1000000\n"), 0)
    ∷ (reads (bytes "B,2,-10001,-500\n"), 4)
    ∷ (reads (bytes "B,2,-10,1000001\n"), 4)
    ∷ (reads (B ++ bytes "P,1,1,65536,101,-20\n"), 4)
    ∷ (reads (B ++ bytes "P,1,1,11,101,-1000001\n"), 4)
    ∷ (reads (B ++ bytes "T,-1,0,101,-40\n"), 4)
    ∷ (reads (B ++ bytes "T,0,65536,101,-40\n"), 4)
    ∷ (reads (B ++ bytes "T,0,0,101,1000001\n"), 4)
    ∷ (reads (B ++ bytes "T,0,0,101,1000000\n"), 0)
    ∷ (reads (B ++ bytes "P,1,1,11,0,-20\n"), 4)
    ∷ (reads (B ++ bytes "P,1,1,11,101,1000001\n"), 4)
    ∷ (reads (B ++ bytes "T,0,0,0,-40\n"), 4)
    ∷ (reads (B ++ bytes "T,0,65535,65535,-40\n"), 0)
    -- 6: whatever the score, also the same one; equal P lines are allowed
    ∷ (reads (book_text ++ bytes "T,0,101,102,-60\n"), 6)
    ∷ (reads (book_text ++ bytes "P,1,1,11,101,-20\n"), 0)
    ∷ (reads (book_text ++ bytes "T,0,101,102,-61\n"), 6)
    ∷ []

pub texts_agree : all agrees texts ≡ true
unfolding computing texts bytes book_text
texts_agree = refl

-- the same with U and D lines
abbrev pub U : List ℕ
U = bytes "U,101,-40,5\n"

abbrev pub D : List ℕ
D = bytes "D,101,102,-60,-7\n"

unfoldable pub shorter_texts : List Row
shorter_texts =
    -- in any order, before and behind the others; a word and a pair of one word; pairs that share one of their words
    (reads (book_text ++ U ++ D), 0)
    ∷ (reads (B ++ D ++ U ++ bytes "P,1,1,11,101,-20\n"), 0)
    ∷ (reads (B ++ bytes "D,101,101,0,0\n" ++ U), 0)
    ∷ (reads (B ++ D ++ bytes "D,102,101,-60,-7\n" ++ bytes "D,101,101,-60,-7\n" ++ bytes "D,102,102,-60,-7\n"), 0)
    -- 1: another letter; a small one; two letters; no number
    ∷ (reads (B ++ bytes "V,101,-40,5\n"), 1)
    ∷ (reads (B ++ bytes "E,101,102,-60,-7\n"), 1)
    ∷ (reads (B ++ bytes "u,101,-40,5\n"), 1)
    ∷ (reads (B ++ bytes "d,101,102,-60,-7\n"), 1)
    ∷ (reads (B ++ bytes "DU,101,102,-60,-7\n"), 1)
    ∷ (reads (B ++ bytes "D\n"), 1)
    -- 2: too few fields; too many; those of the other kind. Each before 3
    ∷ (reads (B ++ bytes "U,101,-40\n"), 2)
    ∷ (reads (B ++ bytes "U,101,-40,5,0\n"), 2)
    ∷ (reads (B ++ bytes "D,101,102,-60\n"), 2)
    ∷ (reads (B ++ bytes "D,101,102,-60,-7,0\n"), 2)
    ∷ (reads (B ++ bytes "U,101,102,-60,-7\n"), 2)
    ∷ (reads (bytes "D,101,-40,5\n" ++ B), 2)
    -- 3, before 4
    ∷ (reads (U ++ B), 3)
    ∷ (reads (bytes "D,101,0,-60,-7\n" ++ B), 3)
    -- 4, of a U line: its word, its score, its weight
    ∷ (reads (B ++ bytes "U,-1,-40,5\n"), 4)
    ∷ (reads (B ++ bytes "U,65536,-40,5\n"), 4)
    ∷ (reads (B ++ bytes "U,101,-1000001,5\n"), 4)
    ∷ (reads (B ++ bytes "U,101,1000001,5\n"), 4)
    ∷ (reads (B ++ bytes "U,101,-40,-1000001\n"), 4)
    ∷ (reads (B ++ bytes "U,101,-40,1000001\n"), 4)
    ∷ (reads (B ++ bytes "U,0,-1000000,1000000\n" ++ bytes "U,65535,1000000,-1000000\n"), 0)
    -- 4, of a D line: w, y, its score, its weight. 0 may be its w, not its y
    ∷ (reads (B ++ bytes "D,-1,102,-60,-7\n"), 4)
    ∷ (reads (B ++ bytes "D,65536,102,-60,-7\n"), 4)
    ∷ (reads (B ++ bytes "D,101,0,-60,-7\n"), 4)
    ∷ (reads (B ++ bytes "D,0,0,-60,-7\n"), 4)
    ∷ (reads (B ++ bytes "D,101,65536,-60,-7\n"), 4)
    ∷ (reads (B ++ bytes "D,101,102,-1000001,-7\n"), 4)
    ∷ (reads (B ++ bytes "D,101,102,1000001,-7\n"), 4)
    ∷ (reads (B ++ bytes "D,101,102,-60,-1000001\n"), 4)
    ∷ (reads (B ++ bytes "D,101,102,-60,1000001\n"), 4)
    ∷ (reads (B ++ bytes "D,0,65535,-1000000,1000000\n" ++ bytes "D,65535,1,1000000,-1000000\n"), 0)
    -- 20: a pair twice, a word twice, whatever else their lines say, also the same; word 0 as well. 4 and 6 before it, and it before 7
    ∷ (reads (book_text ++ D ++ U ++ bytes "D,101,102,1,2\n"), 20)
    ∷ (reads (book_text ++ D ++ D), 20)
    ∷ (reads (book_text ++ U ++ D ++ bytes "U,101,1,2\n"), 20)
    ∷ (reads (book_text ++ U ++ U), 20)
    ∷ (reads (B ++ bytes "U,0,1,2\n" ++ bytes "U,0,3,4\n"), 20)
    ∷ (reads (B ++ D ++ D ++ bytes "U,-1,-40,5\n"), 4)
    ∷ (reads (book_text ++ D ++ D ++ bytes "T,0,101,102,-61\n"), 6)
    ∷ (read_refusal (book_text ++ D ++ D) 45, 20)
    ∷ (read_refusal (book_text ++ D ++ U) 54, 7)
    ∷ (read_refusal (book_text ++ D ++ U) 55, 0)
    ∷ []

pub shorter_texts_agree : all agrees shorter_texts ≡ true
unfolding computing shorter_texts bytes book_text
shorter_texts_agree = refl

-- ════ loaded books

-- the B record of a book of p P lines and t T lines
abbrev pub b_line : ℕ → ℕ → List ℤ
b_line p t = pos 1 ∷ pos 2 ∷ negsuc 9 ∷ negsuc 499 ∷ pos p ∷ pos t ∷ []

abbrev pub p_line : List ℤ
p_line = pos 2 ∷ pos 1 ∷ pos 1 ∷ pos 11 ∷ pos 101 ∷ negsuc 19 ∷ []

abbrev pub t_line : List ℤ
t_line = pos 3 ∷ pos 0 ∷ pos 0 ∷ pos 101 ∷ negsuc 39 ∷ []

abbrev pub u_line : List ℤ
u_line = pos 4 ∷ pos 101 ∷ negsuc 39 ∷ pos 5 ∷ []

abbrev pub d_line : List ℤ
d_line = pos 5 ∷ pos 101 ∷ pos 102 ∷ negsuc 59 ∷ negsuc 6 ∷ []

-- a list that 20 refuses
abbrev pub twice : List ℤ
twice = b_line 1 0 ++ p_line ++ d_line ++ d_line

unfoldable pub loaded : List Row
loaded =
    (book_refusal (book 2), 0)
    ∷ (book_refusal (book 33), 4)
    ∷ (book_refusal (b_line 1 1 ++ p_line ++ t_line), 0)
    -- an empty list has no line that is not whole, and no first line
    ∷ (book_refusal [], 3)
    -- 2: cut off; an unknown kind; a number behind the last line; a out of range, also as a negative number
    ∷ (book_refusal (take 3 (b_line 0 0)), 2)
    ∷ (book_refusal (take 4 (b_line 0 0)), 2)
    ∷ (book_refusal (take 5 (b_line 0 0)), 2)
    ∷ (book_refusal (b_line 1 0 ++ p_line ++ take 4 t_line), 2)
    ∷ (book_refusal (b_line 0 0 ++ take 1 p_line), 2)
    ∷ (book_refusal (pos 6 ∷ b_line 0 0), 2)
    ∷ (book_refusal (negsuc 0 ∷ []), 2)
    ∷ (book_refusal (b_line 0 0 ++ (pos 0 ∷ [])), 2)
    ∷ (book_refusal (b_line 2 0 ++ (pos 2 ∷ pos 9 ∷ p_line ++ p_line)), 2)
    ∷ (book_refusal (b_line 1 0 ++ (pos 2 ∷ negsuc 0 ∷ pos 1 ∷ p_line)), 2)
    ∷ (book_refusal (p_line ++ b_line 1 0), 3)
    ∷ (book_refusal (b_line 0 1 ++ t_line ++ b_line 0 1), 3)
    ∷ (book_refusal (b_line 1 2 ++ t_line ++ p_line ++ t_line), 6)
    -- U and D lines: whole; cut off; one's numbers under the other's kind; a repeated word or pair, after 6
    ∷ (book_refusal (b_line 1 1 ++ u_line ++ p_line ++ d_line ++ t_line), 0)
    ∷ (book_refusal (b_line 0 0 ++ take 3 u_line), 2)
    ∷ (book_refusal (b_line 0 0 ++ take 1 u_line), 2)
    ∷ (book_refusal (b_line 0 0 ++ u_line ++ take 4 d_line), 2)
    ∷ (book_refusal (b_line 0 0 ++ u_line ++ take 1 d_line), 2)
    ∷ (book_refusal (b_line 0 0 ++ set d_line 0 (pos 4)), 2)
    ∷ (book_refusal (b_line 0 0 ++ set u_line 0 (pos 5)), 2)
    ∷ (book_refusal (u_line ++ b_line 0 0), 3)
    ∷ (book_refusal (b_line 0 0 ++ set d_line 2 (pos 0)), 4)
    ∷ (book_refusal (b_line 0 0 ++ set d_line 1 (pos 0) ++ set u_line 1 (pos 0)), 0)
    ∷ (book_refusal twice, 20)
    ∷ (book_refusal (b_line 0 0 ++ u_line ++ d_line ++ u_line), 20)
    ∷ (book_refusal (twice ++ t_line ++ t_line), 21)
    ∷ (book_refusal (b_line 1 2 ++ p_line ++ d_line ++ d_line ++ t_line ++ t_line), 6)
    -- 21: a P line or a T line too many or too few, the two turned round, a negative count; after 4, before 6 and 20
    ∷ (book_refusal (b_line 0 1 ++ p_line ++ t_line), 21)
    ∷ (book_refusal (b_line 2 1 ++ p_line ++ t_line), 21)
    ∷ (book_refusal (b_line 1 0 ++ p_line ++ t_line), 21)
    ∷ (book_refusal (b_line 1 2 ++ p_line ++ t_line), 21)
    ∷ (book_refusal (b_line 1 2 ++ p_line ++ t_line ++ p_line), 21)
    ∷ (book_refusal (set (b_line 1 1) 4 (negsuc 0) ++ p_line ++ t_line), 21)
    ∷ (book_refusal (set (b_line 0 0) 5 (negsuc 0)), 21)
    ∷ (book_refusal (b_line 0 0 ++ p_line ++ set d_line 2 (pos 0)), 4)
    ∷ (book_refusal (b_line 0 2 ++ t_line ++ p_line ++ t_line), 21)
    ∷ (book_refusal (b_line 0 0 ++ p_line ++ d_line ++ d_line), 21)
    ∷ []

pub loaded_agree : all agrees loaded ≡ true
unfolding computing loaded bytes book_text book
loaded_agree = refl

-- ════ directions, into 32 places

abbrev pub reads_direction : List ℕ → ℕ
reads_direction text = read_direction_refusal text 32

unfoldable pub directions : List Row
directions =
    (reads_direction (bytes "11,12\n"), 0)
    ∷ (read_direction_refusal (bytes "11,12\n") 1, 7)
    -- 8: no line; a line of no number; no byte 10; two lines; an empty number; a letter
    ∷ (reads_direction [], 8)
    ∷ (reads_direction (bytes "\n"), 8)
    ∷ (reads_direction (bytes "11,12"), 8)
    ∷ (reads_direction (bytes "11\n12\n"), 8)
    ∷ (reads_direction (bytes "11\n\n"), 8)
    ∷ (reads_direction (bytes "11,,12\n"), 8)
    ∷ (reads_direction (bytes "B,11\n"), 8)
    -- 10, and 9 before it
    ∷ (reads_direction (bytes "11,0\n"), 10)
    ∷ (reads_direction (bytes "-11\n"), 10)
    ∷ (reads_direction (bytes "65535\n"), 0)
    ∷ (reads_direction (bytes "65536\n"), 10)
    ∷ (direction_refusal (replicate 32 11), 0)
    ∷ (direction_refusal (replicate 33 0), 9)
    ∷ (direction_refusal [], 9)
    ∷ (direction_refusal (11 ∷ 0 ∷ []), 10)
    ∷ []

pub directions_agree : all agrees directions ≡ true
unfolding computing directions bytes
directions_agree = refl

-- ════ proposed lists, for the direction 11,12

abbrev pub proposes : ℕ → List Step → ℕ
proposes d steps = proposal_refusal (book d) (11 ∷ 12 ∷ []) steps

unfoldable pub proposals : List Row
proposals =
    (proposes 2 (step 1 2 3 ∷ []), 0)
    ∷ (proposes 2 (step 2 2 2 ∷ step 1 1 1 ∷ []), 0)
    -- 16: no such entry; other words; a place too long, too short, turned round, outside
    ∷ (proposes 2 (step 1 1 0 ∷ []), 16)
    ∷ (proposes 2 (step 1 1 4 ∷ []), 16)
    ∷ (proposes 2 (step 2 2 1 ∷ []), 16)
    ∷ (proposes 2 (step 1 2 1 ∷ []), 16)
    ∷ (proposes 2 (step 1 1 3 ∷ []), 16)
    ∷ (proposes 2 (step 2 1 3 ∷ []), 16)
    ∷ (proposes 2 (step 0 1 3 ∷ []), 16)
    ∷ (proposes 2 (step 2 3 2 ∷ []), 16)
    -- 17 comes at the second step, and 18 at the first, before the second step's 16
    ∷ (proposes 2 (step 1 1 1 ∷ step 1 2 3 ∷ []), 17)
    ∷ (proposes 1 (step 2 2 2 ∷ step 1 1 1 ∷ []), 18)
    ∷ (proposes 0 (step 2 2 2 ∷ step 1 1 9 ∷ []), 18)
    ∷ (proposes 2 (step 1 1 1 ∷ []), 19)
    ∷ (proposal_refusal (book 2) [] [], 9)
    ∷ (proposal_refusal [] [] [], 3)
    ∷ (proposal_refusal twice [] [], 20)
    ∷ []

pub proposals_agree : all agrees proposals ≡ true
unfolding computing proposals bytes book_text book
proposals_agree = refl

-- ════ an entry's target words, as a part of the loaded book

unfoldable pub parts : List Row
parts =
    (length (part_of (target_part (book 2) 3) (book 2)), 2)
    ∷ ((target_part (book 2) 1).start, 10)
    ∷ ((target_part (book 2) 3).start, 23)
    ∷ ((target_part (book 2) 4).start, 46)
    ∷ ((target_part (book 2) 4).size, 0)
    ∷ ((target_part (book 2) 0).start, 46)
    ∷ ((target_part (book 33) 1).start, 46)
    ∷ ((target_part (book 33) 1).size, 0)
    ∷ ((target_part twice 1).start, 22)
    ∷ ((target_part twice 1).size, 0)
    -- behind a U and a D line
    ∷ ((target_part (b_line 1 0 ++ u_line ++ d_line ++ p_line) 1).start, 19)
    ∷ ((target_part (b_line 1 0 ++ u_line ++ d_line ++ p_line) 1).size, 1)
    ∷ []

pub parts_agree : all agrees parts ≡ true
unfolding computing parts bytes book_text book
parts_agree = refl

-- ════ what is asked before the search, for the direction 11,12: the width, and the lists' places

abbrev pub asks : ℤ → ℕ → ℕ → ℕ
asks width steps words = before_search (book 2) direction width (record { steps = steps; words = words; store = 0 })

unfoldable pub lists : List Row
lists =
    (asks off 2 16, 0)
    ∷ (asks off 1 16, 12)
    ∷ (asks off 2 15, 12)
    ∷ (asks (pos 0) 2 16, 0)
    ∷ (asks (minus 2) 0 0, 11)
    ∷ (asks (pos 9_223_372_036_854_775_807) 2 16, 0)
    ∷ (before_search (book 2) [] (minus 2) (record { steps = 0; words = 0; store = 0 }), 9)
    ∷ (before_search (book 33) [] (minus 2) (record { steps = 0; words = 0; store = 0 }), 4)
    ∷ (before_search twice [] (minus 2) (record { steps = 0; words = 0; store = 0 }), 20)
    ∷ []

pub lists_agree : all agrees lists ≡ true
unfolding computing lists bytes book_text book
lists_agree = refl
