-- The n-grams of the language model as records of the one list, and the index by which they are found.
use Rattle.std.specs.Prelude.{ℕ, zero, suc, ◌+◌, ◌*◌, ◌/◌, ◌%◌, ◌≤◌, ◌<◌, ◌≡◌, Bool, true, ◌&&◌, cond, Option, Some, None, is_none, List, [], ◌∷◌, ◌++◌, eqb, leb, ltb, ℤ, length, get_or, take}
use Rattle.laws.specs.Index.{latest, Chained}
use Rattle.laws.specs.Lists.{none_twice, set_from}
use Rattle.meaning.specs.Bounds.{word_span}
use Rattle.meaning.specs.Questions.{◌unless◌, ◌orelse◌, number}
use Rattle.meaning.specs.declared.Refusal.{Refusal}
use Rattle.meaning.specs.Book.{Gram, number_at, natural_at, order_of}
use Rattle.halves.specs.Halves.{halves_of, shifted, signed_at}
use Rattle.ngrams.specs.declared.Key.{Key}
use Rattle.ngrams.specs.Parts.{bucket_count, records_most, record_at, head_at, link_at, record_named, KeptFrom, KeptRecords}

-- ---- the records

-- the words of record k, as many as its order says, and 0 for each that it does not have
unfoldable pub key_at : List ℕ → ℕ → Key
key_at index k = record {
  first = get_or index (record_at k) 0;
  second = get_or index (record_at k + 1) 0;
  third = get_or index (record_at k + 2) 0;
  order = get_or index (record_at k + 3) 0;
}

-- its score, and its weight
abbrev pub score_at : List ℕ → ℕ → ℤ
score_at index k = signed_at index (record_at k + 4)

abbrev pub weight_at : List ℕ → ℕ → ℤ
weight_at index k = signed_at index (record_at k + 6)

-- the words of a key, and the key of one, two or three words
unfoldable pub words_of : Key → List ℕ
words_of key = take key.order (key.first ∷ key.second ∷ key.third ∷ [])

unfoldable pub key_of : List ℕ → Key
key_of words = record { first = get_or words 0 0; second = get_or words 1 0; third = get_or words 2 0; order = length words }

-- record k as an n-gram of the book
unfoldable pub gram_at : List ℕ → ℕ → Gram
gram_at index k = record { words = words_of (key_at index k); s = score_at index k; k = weight_at index k }

-- f 0, f 1, .., as many as n
unfoldable pub firsts : {A : Type 0} → (ℕ → A) → ℕ → List A
firsts f zero = []
firsts f (suc n) = firsts f n ++ (f n ∷ [])

-- the first n records in their order: their words, and the n-grams that they are
abbrev pub keys_in : List ℕ → ℕ → List Key
keys_in index n = firsts (key_at index) n

abbrev pub grams_in : List ℕ → ℕ → List Gram
grams_in index n = firsts (gram_at index) n

-- word j, from 1 on, of a line that lists n words (those that question 4 passes are below 65,536); 0 where it lists fewer
unfoldable pub word_or0 : List ℤ → ℕ → ℕ → ℕ
word_or0 line n j = cond (leb j n) (natural_at line j % word_span) 0

-- the record of a line: the words that it lists, how many they are, and the score and the weight behind them in two halves each
unfoldable pub record_of : List ℤ → List ℕ
record_of line =
    word_or0 line (order_of line) 1 ∷ word_or0 line (order_of line) 2 ∷ word_or0 line (order_of line) 3 ∷ order_of line
    ∷ (halves_of (shifted (number_at line (order_of line + 1))) ++ halves_of (shifted (number_at line (order_of line + 2))))

-- it is put as record k
unfoldable pub put_record : List ℕ → ℕ → List ℤ → List ℕ
put_record index k line = set_from index (record_at k) (record_of line)

-- ---- the index

-- b has the words of a
unfoldable pub same_key : Key → Key → Bool
same_key a b = eqb b.first a.first && eqb b.second a.second && eqb b.third a.third && eqb b.order a.order

-- record k has the words of the key
unfoldable pub holds : List ℕ → Key → ℕ → Bool
holds index key k = same_key key (key_at index k)

-- the bucket of a key, and that of record k
unfoldable pub bucket_of : Key → ℕ
bucket_of key = (key.first % word_span * 40503 + key.second % word_span * 60493 + key.third % word_span * 25717) / 16 % bucket_count

unfoldable pub bucket_at : List ℕ → ℕ → ℕ
bucket_at index k = bucket_of (key_at index k)

-- n records are not too many, and the list is long enough for its parts with them
pub record Room (index : List ℕ) (n : ℕ) : Type 0 where
  pub parts : record_at n ≤ length index
  pub few : n ≤ records_most

-- there is a place for record n
unfoldable pub has_place : List ℕ → ℕ → Bool
has_place index n = ltb n records_most && leb (record_at (n + 1)) (length index)

-- the first n records are indexed
pub record Indexed (index : List ℕ) (n : ℕ) : Type 0 where
  pub room : Room index n
  pub chained : Chained (bucket_at index) (head_at index) (link_at index) bucket_count n

-- ---- what the writers leave

-- no bucket has a record, and the rest is kept
pub record Cleared (old new : List ℕ) : Type 0 where
  pub none : (h : ℕ) → h < bucket_count → head_at new h ≡ 0
  pub kept : KeptFrom bucket_count old new

-- record i is indexed too, and the records are kept
pub record Inserted (old new : List ℕ) (i : ℕ) : Type 0 where
  pub indexed : Indexed new (i + 1)
  pub kept : KeptRecords old new

-- ---- what the calls answer

-- the latest of the first n records that has the words of the key, if one has
unfoldable pub latest_with : List ℕ → Key → ℕ → Option ℕ
latest_with index key n = record_named (latest (holds index key) n)

-- the latest record before record i that has its words, if one has
abbrev pub earlier_alike : List ℕ → ℕ → Option ℕ
earlier_alike index i = latest_with index (key_at index i) i

-- both are triples, and the same one
abbrev pub same_triple : Key → Key → Bool
same_triple a b = eqb a.order 3 && same_key a b

-- questions 6 and 20 of the first n records: the first that they do not pass, or 0
unfoldable pub repeat_refusal : List ℕ → ℕ → ℕ
repeat_refusal index n = 6 unless none_twice same_triple (keys_in index n) orelse 20 unless none_twice same_key (keys_in index n)

-- one record more, of that order: what those before it answered, and which of them has its words
abbrev pub with_repeat : ℕ → Option ℕ → ℕ → ℕ
with_repeat found alike order = cond (eqb found 6) 6 (cond (is_none alike) found (cond (eqb order 3) 6 20))

-- the papers' number of a refusal, 0 for none
abbrev pub number_or0 : Option Refusal → ℕ
number_or0 None = 0
number_or0 (Some refusal) = number refusal

-- the answer r to both questions, the list before and after, which is left as the records' index
pub record Compared (old new : List ℕ) (n : ℕ) (r : Option Refusal) : Type 0 where
  pub answer : number_or0 r ≡ repeat_refusal old n
  pub indexed : Indexed new n
  pub kept : KeptRecords old new

-- ---- a book's n-grams

-- the first n records are different n-grams, indexed; none is shorter than a triple where `shorter`, the number of those that are, is 0
pub record Listing (index : List ℕ) (n shorter : ℕ) : Type 0 where
  pub indexed : Indexed index n
  pub different : none_twice same_key (keys_in index n) ≡ true
  pub padded : (k : ℕ) → k < n → key_at index k ≡ key_of (words_of (key_at index k))
  pub only_triples : shorter ≡ 0 → (k : ℕ) → k < n → (key_at index k).order ≡ 3
