-- How the lists and numbers of the code stand for the book: the language model, and an entry by its places.
use Rattle.std.specs.Prelude.{ℕ, ◌+◌, ◌%◌, ◌≤◌, ◌<◌, ◌≡◌, List, [], ◌∷◌, ℤ, pos, ◌+ℤ◌, length, get_or}
use Rattle.laws.specs.Integers.{Within, nat_of}
use Rattle.meaning.specs.Bounds.{word_most, word_span, score_most, triple_bound}
use Rattle.meaning.specs.Book.{Entry}
use Rattle.meaning.specs.Derivation.{backed_off}
use Rattle.ngrams.specs.Grams.{grams_in}
use Rattle.language.specs.Language.{IsModel}
use Rattle.derivation.specs.declared.Setup.{Setup}
use Rattle.derivation.specs.declared.Row.{Row}
use Rattle.derivation.specs.declared.Phrase.{Phrase}

-- ════ the language model

-- the score of the triple v, w, y by the list
unfoldable pub model_score : List ℕ → Setup → ℕ → ℕ → ℕ → ℤ
model_score index t v w y = backed_off t.model.unseen (grams_in index t.model.count) v w y

-- the list has the n-grams, and no triple's score passes its bound
pub record Model (index : List ℕ) (t : Setup) : Type 0 where
  pub is_model : IsModel index t.model
  pub scores_within : (v w y : ℕ) → Within triple_bound (model_score index t v w y)

-- no words yet, after two words
abbrev pub empty_row : ℕ → ℕ → Row
empty_row v w = record { score = pos 0; word1 = v; word2 = w }

-- one target word more, and a row of them
unfoldable pub with_word : List ℕ → Setup → Row → ℕ → Row
with_word index t s y = record { score = s.score +ℤ model_score index t s.word1 s.word2 y; word1 = s.word2; word2 = y }

unfoldable pub with_words : List ℕ → Setup → Row → List ℕ → Row
with_words index t s [] = s
with_words index t s (y ∷ ys) = with_words index t (with_word index t s y) ys

-- ════ an entry

-- a number of the list as a word
unfoldable pub word_of : ℤ → ℕ
word_of x = nat_of x % word_span

-- the number at a place of the list as a word
abbrev pub word_in : List ℤ → ℕ → ℕ
word_in loaded k = word_of (get_or loaded k (pos 0))

-- the words stand in the list from a place on
pub record WordsAt (loaded : List ℤ) (from many : ℕ) (words : List ℕ) : Type 0 where
  pub inside : from + many ≤ length loaded
  pub many_are : many ≡ length words
  pub few : many ≤ 8
  pub some : 1 ≤ many
  pub word_at : (j : ℕ) → j < many → get_or loaded (from + j) (pos 0) ≡ pos (get_or words j 0)
  pub word_to : (j : ℕ) → j < many → get_or words j 0 ≤ word_most

-- the places and the score are those of the entry
pub record PhraseOf (loaded : List ℤ) (e : Entry) (p : Phrase) : Type 0 where
  pub source_at : WordsAt loaded p.source p.long e.source
  pub target_at : WordsAt loaded p.target p.count e.target
  pub g_is : p.g ≡ e.g
  pub g_within : Within score_most e.g

-- they are those of some entry
pub record Phrased (loaded : List ℤ) (p : Phrase) : Type 0 where
  pub entry : Entry
  pub is : PhraseOf loaded entry p
