-- The numbers that bound a book's numbers, by name.
use Rattle.std.specs.Prelude.{ℕ, ◌*◌}

-- "Words are 1 to 65,535."
abbrev pub word_most : ℕ
word_most = 65_535

-- the numbers from 0, the start symbol, to the last word
abbrev pub word_span : ℕ
word_span = 65_536

-- "The scores u, g and s are −1,000,000 to 1,000,000"; "k is a back-off weight with a score's range"
abbrev pub score_most : ℕ
score_most = 1_000_000

-- "penalty eta, −10,000 to 10,000"
abbrev pub penalty_most : ℕ
penalty_most = 10_000

-- what the triple that a target word ends can score: the weight of a pair, the weight of a word, and a score
abbrev pub triple_bound : ℕ
triple_bound = 3 * score_most

-- what the triples that the target words of an entry end can add: at most 8 words
abbrev pub words_bound : ℕ
words_bound = 8 * triple_bound
