-- Derivations of a direction: which are valid, and the score of each. "Positions and entries count from 1."
use Rattle.std.specs.Prelude.{ℕ, suc, ◌+◌, ◌-◌, ◌≡◌, Bool, true, ◌&&◌, cond, List, [], ◌∷◌, map, eqb, leb, ltb, ℤ, pos, ◌+ℤ◌, ◌*ℤ◌, length, get_or}
use Rattle.std.proofs.Math.Seq.{slice}
use Rattle.laws.specs.Lists.{all, any, count, eq_list, concat, one_to, sumℤ}
use Rattle.search_theory.specs.Orders.{before}
use Rattle.meaning.specs.Questions.{within}
use Rattle.meaning.specs.Book.{Book, Entry, Gram}
use Rattle.meaning.specs.Direction.{word_count}
use Rattle.meaning.specs.declared.Step.{Step}
use Rattle.meaning.specs.declared.Supplier.{Supplier}
use Rattle.meaning.specs.declared.Supplier.TheVariants.{Triple, Pair, Word, Unseen}
use Rattle.meaning.specs.declared.Supplied.{Supplied}

-- ════ the language model

-- a number of the first n-gram listed that has these words, or `other` where none has them
abbrev pub listed : (Gram → ℤ) → ℤ → List ℕ → List Gram → ℤ
listed number other words [] = other
listed number other words (g ∷ gs) = cond (eq_list eqb g.words words) (number g) (listed number other words gs)

module _ (grams : List Gram) where
  abbrev pub score_or : ℤ → List ℕ → ℤ
  score_or other words = listed (λ g. g.s) other words grams

  -- "the weight of .. (0 if unlisted)"
  abbrev pub weight : List ℕ → ℤ
  weight words = listed (λ g. g.k) (pos 0) words grams

module _ (u : ℤ) (grams : List Gram) where
  -- "the score of word y, or u if unlisted"
  unfoldable pub word_score : ℕ → ℤ
  word_score y = score_or grams u (y ∷ [])

  -- "an unlisted pair scores the weight of w (0 if unlisted) plus the score of word y"
  unfoldable pub pair_score : ℕ → ℕ → ℤ
  pair_score w y = score_or grams (weight grams (w ∷ []) +ℤ word_score y) (w ∷ y ∷ [])

  -- "A triple v, w, y without a T line scores the weight of pair v, w (0 if unlisted) plus the score of pair w, y"
  unfoldable pub backed_off : ℕ → ℕ → ℕ → ℤ
  backed_off v w y = score_or grams (weight grams (v ∷ w ∷ []) +ℤ pair_score w y) (v ∷ w ∷ y ∷ [])

-- the score of the triple v, w, y in a book
unfoldable pub triple_score : Book → ℕ → ℕ → ℕ → ℤ
triple_score book v w y = backed_off book.unseen book.grams v w y

-- "for each target word in turn, the score of the triple it ends", in a row that goes on from v and w
unfoldable pub words_score : Book → ℕ → ℕ → List ℕ → ℤ
words_score book v w [] = pos 0
words_score book v w (y ∷ ys) = triple_score book v w y +ℤ words_score book w y ys

-- ════ how each word was judged: ticket 3

-- an n-gram of these words is listed
abbrev pub is_listed : List Gram → List ℕ → Bool
is_listed grams words = any (λ g. eq_list eqb g.words words) grams

-- "whether triple, pair, word or u supplied the final score": the first of them that is listed. A weight that is added on the way supplies nothing
unfoldable pub supplier : List Gram → ℕ → ℕ → ℕ → Supplier
supplier grams v w y =
    cond (is_listed grams (v ∷ w ∷ y ∷ [])) Triple
    (cond (is_listed grams (w ∷ y ∷ [])) Pair
    (cond (is_listed grams (y ∷ [])) Word Unseen))

-- the place of each among the four counts: "triple, pair, word or u .. in that order"
abbrev pub place : Supplier → ℕ
place Triple = 1
place Pair = 2
place Word = 3
place Unseen = 4

-- who supplied the score of each target word in turn, in a row that goes on from v and w
unfoldable pub suppliers : List Gram → ℕ → ℕ → List ℕ → List Supplier
suppliers grams v w [] = []
suppliers grams v w (y ∷ ys) = supplier grams v w y ∷ suppliers grams w y ys

-- how many of them stand at place k
abbrev pub count_at : ℕ → List Supplier → ℕ
count_at k row = count (λ s. eqb (place s) k) row

-- "four counts in that order, of the target words each supplied"
abbrev pub counts_by : List Supplier → Supplied
counts_by row = record { triples = count_at 1 row; pairs = count_at 2 row; words = count_at 3 row; unseen = count_at 4 row }

-- the four together: "they add up to all target words" (proofs/Judging)
abbrev pub in_all : Supplied → ℕ
in_all s = s.triples + s.pairs + s.words + s.unseen

-- ════ steps

abbrev pub no_entry : Entry
no_entry = record { source = []; target = []; g = pos 0 }

-- what stands behind the end of a list of steps
abbrev pub no_step : Step
no_step = record { first = 0; last = 0; entry = 0 }

-- "the entry is in the book"
unfoldable pub is_entry : Book → ℕ → Bool
is_entry book k = within 1 (length book.entries) k

-- entry k of the book
unfoldable pub entry_at : Book → ℕ → Entry
entry_at book k = get_or book.entries (k - 1) no_entry

-- "the direction's words first to last"
unfoldable pub words_from_to : ℕ → ℕ → List ℕ → List ℕ
words_from_to first last direction = slice (first - 1) last direction

-- "It fits when the entry is in the book and its source words are the direction's words first to last, no more and no fewer"
unfoldable pub fits : Book → List ℕ → Step → Bool
fits book direction step =
    is_entry book step.entry
    && leb 1 step.first
    && leb step.first step.last
    && leb step.last (word_count direction)
    && eq_list eqb (entry_at book step.entry).source (words_from_to step.first step.last direction)

-- "it covers those positions"
unfoldable pub covers : Step → ℕ → Bool
covers step i = within step.first step.last i

-- "The jump of a step is |r + 1 − first|, where r is the last position of the step before it, or 0 for the first step."
unfoldable pub jump : ℕ → Step → ℕ
jump r step = (suc r - step.first) + (step.first - suc r)

-- the jump of each step, the first after position r
unfoldable pub jumps : ℕ → List Step → List ℕ
jumps r [] = []
jumps r (step ∷ steps) = jump r step ∷ jumps step.last steps

-- ════ valid derivations

unfoldable pub times_covered : List Step → ℕ → ℕ
times_covered steps i = count (λ step. covers step i) steps

-- "It is valid when each step fits, each word of the direction is covered exactly once, and every jump is at most d."
unfoldable pub is_valid : Book → List ℕ → List Step → Bool
is_valid book direction steps =
    all (fits book direction) steps
    && all (λ i. eqb (times_covered steps i) 1) (one_to (word_count direction))
    && all (λ j. leb j book.limit) (jumps 0 steps)

-- ════ scores

-- the target words of the steps, one step's after the other's
unfoldable pub target_words : Book → List Step → List ℕ
target_words book steps = concat (map (λ step. (entry_at book step.entry).target) steps)

-- "Its score is the sum of the entries' g, plus eta × jump for every step, plus, for each target word in turn, the score of
-- the triple it ends. .. Two start symbols stand before the first target word."
unfoldable pub score_of : Book → List Step → ℤ
score_of book steps =
    sumℤ (map (λ step. (entry_at book step.entry).g) steps)
    +ℤ sumℤ (map (λ j. book.eta *ℤ pos j) (jumps 0 steps))
    +ℤ words_score book 0 0 (target_words book steps)

-- ticket 3: who supplied the scores of the derivation's target words
unfoldable pub supplied_of : Book → List Step → Supplied
supplied_of book steps = counts_by (suppliers book.grams 0 0 (target_words book steps))

-- "the steps are a valid derivation of the score reported, and the words are theirs"
pub record IsDerivation (book : Book) (direction : List ℕ) (score : ℤ) (steps : List Step) (words : List ℕ) : Type 0 where
  pub steps_valid : is_valid book direction steps ≡ true
  pub steps_score : score_of book steps ≡ score
  pub steps_words : target_words book steps ≡ words

-- ════ the order of derivations: "compare step by step by first, then last, then entry". The first difference decides (search_theory/specs/Orders)

abbrev pub order_numbers : Step → List ℕ
order_numbers step = step.first ∷ step.last ∷ step.entry ∷ []

unfoldable pub step_before : Step → Step → Bool
step_before a b = before ltb (order_numbers a) (order_numbers b)

unfoldable pub comes_before : List Step → List Step → Bool
comes_before a b = before step_before a b
