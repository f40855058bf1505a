-- An n-gram's words, by the places of its line's fields: word k, from 1 on, is field k.
use Prim.Native.Nat.{ℕ, zero, suc, ◌+◌, ◌-◌, ◌≤◌, ◌<◌}
use mathlib.Core.Path.{◌≡◌, refl, ap, ◌∙◌}
use mathlib.Core.Bool.{Bool, true, false}
use mathlib.Core.List.{List, [], ◌∷◌, map}
use native.Mathlib.Omega.{arith}
use lib.ListN.{length, get_or, take, drop, length-map}
use lib.Seq.{drop-cons}
use borrow.Author.Tests.{lt-leb, le-leb}
use Rattle.laws.specs.Lists.{any, numbers_from}
use Rattle.laws.proofs.Lists.{numbers_length, numbers_first}
use Rattle.arpa.specs.Lines.{eq_bytes}
use Rattle.arpa.specs.File.{Ngram, unknown_word, ngram_of}
use Rattle.arpa.specs.Words.{start_word}
use Rattle.arpa.specs.Import.{stop_word, holds, is_passed_over}
use Rattle.arpa.proofs.Ngrams.{gram_long}
use Rattle.tokens.specs.Scan.{field_at, FieldNoted, Noted}
use Rattle.tokens.specs.Fields.{FieldsAt}
use Rattle.ngram_lines.specs.Gram.{GramRead}

module _ (text places : List ℕ) where
  -- the fields from k on, so many
  abbrev pub fields_from : ℕ → ℕ → List (List ℕ)
  fields_from k many = map (field_at text places) (numbers_from k many)

  noted_part : {fields : List (List ℕ)} → Noted text places fields → (many k : ℕ) → k + many ≤ 5 → k + many ≤ length fields → take many (drop k fields) ≡ fields_from k many
  noted_part n zero k few long = refl
  noted_part {fields} n (suc many) k few long =
      rw (drop-cons fields k [] (omega arith), n.is k (omega arith) (omega arith)) (ap (λ (rest : List (List ℕ)). get_or fields k [] ∷ rest) (noted_part n many (suc k) (omega arith) (omega arith)))

words_part : (n : ℕ) (fields : List (List ℕ)) → (ngram_of n fields).words ≡ take n (drop 1 fields)
unfolding ngram_of
words_part zero [] = refl
words_part (suc n) [] = refl
words_part n (value ∷ fields) = refl

-- ---- a line that was read

module _ {text places : List ℕ} {count order : ℕ} (r : GramRead text places count order) where
  pub read_long : order < count
  read_long = omega (arith, gram_long r.top order r.fields r.is, r.at.long)

  pub read_noted : (k : ℕ) → k ≤ order + 1 → k < count → FieldNoted text places k
  read_noted k l m = r.at.noted.part k (omega (arith, r.order_to)) (omega (arith, r.at.long))

  pub word_noted : (k : ℕ) → k ≤ order → FieldNoted text places k
  word_noted k l = read_noted k (omega arith) (omega (arith, read_long))

  pub words_are : (fields : List (List ℕ)) → FieldsAt text places count fields → (ngram_of order fields).words ≡ fields_from text places 1 order
  words_are fields f = words_part order fields ∙ noted_part text places f.noted order 1 (omega (arith, r.order_to)) (omega (arith, read_long, f.long))

-- ---- one of the words: a turn of a loop

module _ (text places word : List ℕ) (k many : ℕ) where
  -- the word is one of the fields from k on
  abbrev pub is_among : Bool
  is_among = any (λ w. eq_bytes w word) (fields_from text places k many)

pub holds_among : {text places : List ℕ} {count order : ℕ} (r : GramRead text places count order) (word : List ℕ) (fields : List (List ℕ)) → FieldsAt text places count fields
    → holds word (ngram_of order fields) ≡ is_among text places word 1 order
holds_among r word fields f = ap (any (λ w. eq_bytes w word)) (words_are r fields f)

module _ (text places word : List ℕ) (k many : ℕ) (l : 0 < many) where
  pub among_hit : eq_bytes (field_at text places k) word ≡ true → is_among text places word k many ≡ true
  among_hit t = rw (numbers_first k many l, t)

  pub among_next : eq_bytes (field_at text places k) word ≡ false → is_among text places word k many ≡ is_among text places word (k + 1) (many - 1)
  among_next f = rw (numbers_first k many l, f)

-- ---- passed over

-- the last word
last_field : (text places : List ℕ) (order : ℕ) → 2 ≤ order → order ≤ 3 → get_or (fields_from text places 1 order) (length (fields_from text places 1 order) - 1) [] ≡ field_at text places order
last_field text places zero lo hi = absurd (omega arith)
last_field text places (suc zero) lo hi = absurd (omega arith)
last_field text places (suc (suc zero)) lo hi = refl
last_field text places (suc (suc (suc zero))) lo hi = refl
last_field text places (suc (suc (suc (suc order)))) lo hi = absurd (omega arith)

module _ {text places : List ℕ} {count order : ℕ} (r : GramRead text places count order) (fields : List (List ℕ)) (f : FieldsAt text places count fields) where
  -- the n-gram
  abbrev g : Ngram
  g = ngram_of order fields

  words_long : length g.words ≡ order
  words_long = ap length (words_are r fields f) ∙ length-map (numbers_from 1 order) (field_at text places) ∙ numbers_length 1 order

  pub stop_passed : holds stop_word g ≡ true → is_passed_over g ≡ true
  unfolding is_passed_over
  stop_passed t = rw t

  pub short_kept : holds stop_word g ≡ false → order < 2 → is_passed_over g ≡ false
  unfolding is_passed_over
  short_kept n l = rw (n, lt-leb 2 (length g.words) (omega (arith, words_long)))

  pub unknown_passed : holds stop_word g ≡ false → 2 ≤ order → holds unknown_word g ≡ true → is_passed_over g ≡ true
  unfolding is_passed_over
  unknown_passed n l t = rw (n, le-leb 2 (length g.words) (omega (arith, words_long)), t)

  pub last_passed : holds stop_word g ≡ false → 2 ≤ order → holds unknown_word g ≡ false → is_passed_over g ≡ eq_bytes (field_at text places order) start_word
  unfolding is_passed_over
  last_passed n l u =
      rw (n, le-leb 2 (length g.words) (omega (arith, words_long)), u)
      (ap (λ (ws : List (List ℕ)). eq_bytes (get_or ws (length ws - 1) []) start_word) (words_are r fields f) ∙ ap (λ (w : List ℕ). eq_bytes w start_word) (last_field text places order l r.order_to))
