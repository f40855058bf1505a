-- A row of target words, one word at a time.
use Prim.Native.Nat.{ℕ, ◌+◌, ◌-◌, ◌*◌, ◌≤◌, ◌<◌}
use native.Mathlib.Nat.{mod-eq_of_lt}
use native.Mathlib.Omega.{arith}
use mathlib.Core.Path.{◌≡◌, ap, ◌∙◌}
use mathlib.Core.List.{List, map}
use lib.IntN.{ℤ, pos, ◌+ℤ◌}
use lib.ListN.{length, get_or, take, drop, drop_of_length-le, length-drop, length-map, get_or-map}
use lib.Seq.{get_or-take, get_or-drop, length-take-le}
use Rattle.std.proofs.lemmas.List.{same_lists, get_or_default}
use Rattle.laws.specs.Integers.{Within}
use Rattle.laws.proofs.Bounds.{within_+, within_mono}
use Rattle.laws.proofs.Lists.{drop_next, part_size}
use Rattle.positions.specs.Runs.{mask_of}
use Rattle.meaning.specs.Bounds.{word_most, triple_bound}
use Rattle.meaning.specs.Book.{Entry}
use Rattle.meaning.specs.declared.State.{State}
use Rattle.derivation.specs.Model.{model_score, empty_row, with_word, with_words, word_of, word_in, WordsAt}
use Rattle.derivation.specs.Next.{jump_from, gain_by, state_by, next_state}
use Rattle.derivation.specs.declared.Phrase.{Phrase}
use Rattle.derivation.specs.declared.Setup.{Setup}
use Rattle.derivation.specs.declared.Row.{Row}

-- the word at a place is the entry's
pub word_is : {loaded : List ℤ} {from many : ℕ} {words : List ℕ} → WordsAt loaded from many words → (j : ℕ) → j < many → word_in loaded (from + j) ≡ get_or words j 0
unfolding word_of
word_is {loaded} {from} {many} {words} w j h =
    rw (w.word_at j h) (let k : get_or words j 0 ≤ word_most = w.word_to j h in mod-eq_of_lt (omega arith))

-- the numbers at the places of an entry's words are those words
pub words_are : {loaded : List ℤ} {from many : ℕ} {words : List ℕ} → WordsAt loaded from many words → map word_of (take (from + many - from) (drop from loaded)) ≡ words
unfolding word_of
words_are {loaded} {from} {many} {words} w = ap (map word_of) (part_size loaded from many) ∙ same_lists (map word_of part) words long at
  where
    part : List ℤ
    part = take many (drop from loaded)

    part_long : length part ≡ many
    part_long = length-take-le many (drop from loaded) (let l = length-drop from loaded in let i = w.inside in omega arith)

    long : length (map word_of part) ≡ length words
    long = length-map part word_of ∙ part_long ∙ w.many_are

    at : (j d : ℕ) → j < length (map word_of part) → get_or (map word_of part) j d ≡ get_or words j d
    at j d h =
        let inside : j < many = let a = long in let b = w.many_are in omega arith in
        get_or_default (map word_of part) j d 0 h
        ∙ get_or-map word_of part j (pos 0)
        ∙ ap word_of (get_or-take many (drop from loaded) j (pos 0) inside ∙ get_or-drop from loaded j (pos 0))
        ∙ word_is w j inside
        ∙ get_or_default words j 0 d (let a = long in omega arith)

module _ (index : List ℕ) (t : Setup) where
  -- one number of the book more of the row
  pub row_next : (s : Row) (numbers : List ℤ) (j : ℕ) → j < length numbers
      → with_words index t s (map word_of (drop j numbers)) ≡ with_words index t (with_word index t s (word_of (get_or numbers j (pos 0)))) (map word_of (drop (j + 1) numbers))
  unfolding with_words
  row_next s numbers j h = ap (λ (xs : List ℤ). with_words index t s (map word_of xs)) (drop_next numbers j (pos 0) h)

  pub row_end : (s : Row) (numbers : List ℤ) (j : ℕ) → length numbers ≤ j → with_words index t s (map word_of (drop j numbers)) ≡ s
  unfolding with_words
  row_end s numbers j h = ap (λ (xs : List ℤ). with_words index t s (map word_of xs)) (drop_of_length-le numbers {i = j} h)

  pub row_within : ((v w y : ℕ) → Within triple_bound (model_score index t v w y)) → (s : Row) (y j : ℕ) → Within (j * triple_bound) s.score → Within ((j + 1) * triple_bound) (with_word index t s y).score
  unfolding with_word
  row_within each s y j h = within_mono (omega arith) (within_+ h (each s.word1 s.word2 y))

-- a state whose fields are what the calls gave is the next one
pub next_is : (t : Setup) (p : Phrase) (first last : ℕ) (s : State) (row : Row) (far cov : ℕ) (more score : ℤ)
    → far ≡ jump_from s.r first → cov ≡ s.covered + mask_of first last → more ≡ gain_by t p far row → score ≡ s.score +ℤ more
    → ◌≡◌ {A = State} (record { word1 = row.word1; word2 = row.word2; covered = cov; r = last; score = score }) (state_by t p row first last s)
next_is t p first last s row far cov more score b d f g = rw (g, f, d, b)

-- by the row of an entry's words
pub next_by : (index : List ℕ) (t : Setup) (p : Phrase) (e : Entry) (first last : ℕ) (s r : State) (row : Row) → row ≡ with_words index t (empty_row s.word1 s.word2) e.target
    → r ≡ state_by t p row first last s → r ≡ next_state index t p e first last s
unfolding next_state
next_by index t p e first last s r row a q = q ∙ ap (λ (x : Row). state_by t p x first last s) a
