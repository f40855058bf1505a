-- The index of the word list's lines: one list in named parts, the heads of the buckets and the lines' links.
use Rattle.std.specs.Prelude.{ℕ, ◌+◌, ◌*◌, ◌/◌, ◌%◌, ◌≤◌, ◌<◌, ◌≡◌, Bool, ◌&&◌, cond, List, [], ◌∷◌, eqb, length, get_or, take, Option, MatchOption}
use Rattle.laws.specs.Index.{Chained}
use Rattle.arpa.specs.Lines.{eq_bytes}
use Rattle.arpa.specs.Words.{spelled_most, spellings, first_from}
use Rattle.spelling.specs.Lines.{line_at, Starts}

-- ---- the buckets

-- how many there are, and the one more, of the lines that equal an earlier one
abbrev pub bucket_count : ℕ
bucket_count = 65_536

abbrev pub repeats : ℕ
repeats = bucket_count

-- a word's bucket is made of its bytes in their order
abbrev pub hash_from : ℕ → List ℕ → ℕ
hash_from h [] = h
hash_from h (b ∷ word) = hash_from ((h * 16_777_619 + b + 1) % 4_294_967_296) word

unfoldable pub bucket_of : List ℕ → ℕ
bucket_of word = hash_from 0 word * 2_654_435_769 % 4_294_967_296 / 65_536

-- the number of a word by the first n lines, 0 where it is none of them
unfoldable pub spelled_before : List ℕ → ℕ → List ℕ → ℕ
spelled_before list n word = first_from 1 word (take n (spellings list))

-- the number n of a word as code has it, which has none for 0
abbrev pub NumberIs : ℕ → Option ℕ → Type 0
NumberIs n number = MatchOption number (n ≡ 0) (λ k. (0 < k) × (k ≡ n))

-- no line before line k equals it
unfoldable pub is_first : List ℕ → ℕ → Bool
is_first list k = eqb (spelled_before list k (line_at list k)) 0

-- "of equal lines the first": only that one lies in the bucket of its bytes
unfoldable pub bucket_at : List ℕ → ℕ → ℕ
bucket_at list k = cond (is_first list k) (bucket_of (line_at list k)) repeats

-- line k is the word, and the first that is
unfoldable pub spells : List ℕ → List ℕ → ℕ → Bool
spells list word k = is_first list k && eq_bytes (line_at list k) word

-- ---- the list

-- where the links begin, and how long the list is
abbrev pub links_from : ℕ
links_from = repeats + 1

abbrev pub index_size : ℕ
index_size = links_from + spelled_most

-- the head of bucket h and the link of line k: 1 + a line's number, or 0
unfoldable pub head_at : List ℕ → ℕ → ℕ
head_at index h = get_or index h 0

unfoldable pub link_at : List ℕ → ℕ → ℕ
link_at index k = get_or index (links_from + k) 0

-- no bucket has a line
pub record Cleared (index : List ℕ) : Type 0 where
  pub none : (h : ℕ) → h < links_from → head_at index h ≡ 0

-- the first n lines are indexed
pub record Indexed (list index starts : List ℕ) (n : ℕ) : Type 0 where
  pub lines : Starts list starts n
  pub room : index_size ≤ length index
  pub chained : Chained (bucket_at list) (head_at index) (link_at index) links_from n

-- all of its lines are
pub record Spelling (list index starts : List ℕ) (n : ℕ) : Type 0 where
  pub indexed : Indexed list index starts n
  pub all : n ≡ length (spellings list)
