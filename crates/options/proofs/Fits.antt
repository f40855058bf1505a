-- Whether a step fits, word by word.
use Prim.Native.Nat.{ℕ, ◌+◌, ◌-◌, ◌≤◌, ◌<◌}
use native.Mathlib.Omega.{arith}
use mathlib.Core.Path.{◌≡◌, refl, sym, ◌∙◌, ap}
use mathlib.Core.Bool.{Bool, true, false, ◌&&◌}
use mathlib.Core.List.{List}
use borrow.Author.Tests.{le-leb, lt-leb, eq-eqb, ne_eqb}
use lib.Dec.{eqb, leb}
use lib.IntN.{ℤ}
use lib.ListN.{length, get_or, drop, take, drop_of_length-le}
use lib.Seq.{slice, length-slice, get_or-drop, get_or-take}
use Rattle.laws.specs.Lists.{eq_list}
use Rattle.laws.proofs.Tests.{is_false}
use Rattle.laws.proofs.Lists.{eq_list_drop, eq_list_length}
use Rattle.meaning.specs.Book.{Book, Entry}
use Rattle.meaning.specs.Direction.{word_count}
use Rattle.meaning.specs.Derivation.{is_entry, entry_at, words_from_to, fits}
use Rattle.meaning.specs.Search.{step_at}
use Rattle.derivation.specs.Model.{word_in, PhraseOf}
use Rattle.derivation.specs.declared.Phrase.{Phrase}
use Rattle.derivation.proofs.Rows.{word_is}

-- the source words from place j on are the direction's
abbrev pub agree : List ℕ → List ℕ → ℕ → ℕ → ℕ → Bool
agree source direction first last j = eq_list eqb (drop j source) (drop j (slice (first - 1) last direction))

module _ (source direction : List ℕ) (first last j : ℕ) (from : 1 ≤ first) (to : last ≤ length direction) (many : length source ≡ last + 1 - first) where
  long : length (slice (first - 1) last direction) ≡ length source
  long = length-slice (first - 1) last direction to ∙ (omega arith)

  module _ (inside : j < length source) where
    there : get_or (slice (first - 1) last direction) j 0 ≡ get_or direction (first - 1 + j) 0
    there = get_or-drop (first - 1) (take last direction) j 0 ∙ get_or-take last direction (first - 1 + j) 0 (omega arith)

    next : agree source direction first last j ≡ eqb (get_or source j 0) (get_or direction (first - 1 + j) 0) && agree source direction first last (j + 1)
    next =
        let l = long in
        eq_list_drop eqb source (slice (first - 1) last direction) j 0 inside (omega arith)
        ∙ ap (λ (x : ℕ). eqb (get_or source j 0) x && agree source direction first last (j + 1)) there

    pub agree_more : get_or source j 0 ≡ get_or direction (first - 1 + j) 0 → agree source direction first last (j + 1) ≡ agree source direction first last j
    agree_more e = sym (next ∙ rw (eq-eqb _ _ e) refl)

    pub agree_stops : (get_or source j 0 ≡ get_or direction (first - 1 + j) 0 → ⊥) → agree source direction first last j ≡ false
    agree_stops e = next ∙ rw (ne_eqb _ _ e) refl

  pub agree_ends : length source ≤ j → agree source direction first last j ≡ true
  agree_ends h =
      let l = long in
      rw (drop_of_length-le source {i = j} h, drop_of_length-le (slice (first - 1) last direction) {i = j} (omega arith))

-- ════ what the code reads: the words of an entry's places

-- the first j words agree: what is left decides
abbrev pub Agreed : List ℤ → List ℕ → ℕ → ℕ → Phrase → ℕ → Type 0
Agreed loaded direction first last p j = (e : Entry) → PhraseOf loaded e p → agree e.source direction first last j ≡ agree e.source direction first last 0

module _ (loaded : List ℤ) (direction : List ℕ) (first last : ℕ) (p : Phrase) (j : ℕ) (from : 1 ≤ first) (to : last ≤ length direction) (many : p.long ≡ last + 1 - first)
    (so_far : Agreed loaded direction first last p j) where
  pub agreed_more : j < p.long → word_in loaded (p.source + j) ≡ get_or direction (first - 1 + j) 0 → Agreed loaded direction first last p (j + 1)
  agreed_more h t = λ e q.
      let w = q.source_at in
      let m = w.many_are in
      agree_more e.source direction first last j from to (omega arith) (omega arith) (sym (word_is w j h) ∙ t) ∙ so_far e q

  pub agreed_stops : j < p.long → (word_in loaded (p.source + j) ≡ get_or direction (first - 1 + j) 0 → ⊥) → (e : Entry) → PhraseOf loaded e p → agree e.source direction first last 0 ≡ false
  agreed_stops h t e q =
      let w = q.source_at in
      let m = w.many_are in
      sym (so_far e q) ∙ agree_stops e.source direction first last j from to (omega arith) (omega arith) (λ x. t (word_is w j h ∙ x))

  pub agreed_ends : p.long ≤ j → (e : Entry) → PhraseOf loaded e p → agree e.source direction first last 0 ≡ true
  agreed_ends h e q =
      let m = q.source_at.many_are in
      sym (so_far e q) ∙ agree_ends e.source direction first last j from to (omega arith) (omega arith)

-- ════ a proposed step: one test after the other

module _ (source direction : List ℕ) (first last : ℕ) where
  abbrev pub has_words : Bool
  has_words = leb 1 first && leb first last && leb last (length direction) && eq_list eqb source (words_from_to first last direction)

  pub no_first : first < 1 → false ≡ has_words
  no_first h = rw (lt-leb 1 first h)

  module _ (a : 1 ≤ first) where
    pub no_last : last < first → false ≡ has_words
    no_last h = rw (le-leb 1 first a, lt-leb first last h)

    module _ (b : first ≤ last) where
      pub no_end : length direction < last → false ≡ has_words
      no_end h = rw (le-leb 1 first a, le-leb first last b, lt-leb last (length direction) h)

      module _ (d : last ≤ length direction) where
        pub no_many : (last + 1 - first ≡ length source → ⊥) → false ≡ has_words
        unfolding words_from_to
        no_many h =
            rw (le-leb 1 first a, le-leb first last b, le-leb last (length direction) d)
            (sym (is_false (λ e. h (let x = eq_list_length eqb source (slice (first - 1) last direction) e in let y = length-slice (first - 1) last direction d in omega arith))))

        pub by_words : agree source direction first last 0 ≡ has_words
        unfolding words_from_to
        by_words = rw (le-leb 1 first a, le-leb first last b, le-leb last (length direction) d)

-- ════ an entry at a first position

module _ (book : Book) (direction : List ℕ) (first last k : ℕ) (from : 1 ≤ k) (to : k ≤ length book.entries) (a : 1 ≤ first) (some : 1 ≤ length (entry_at book k).source)
    (end : last ≡ first + length (entry_at book k).source - 1) where
  fits_here : last ≤ length direction → fits book direction (step_at book first k) ≡ agree (entry_at book k).source direction first last 0
  unfolding fits is_entry words_from_to word_count
  fits_here h =
      let d : leb (first + length (entry_at book k).source - 1) (length direction) ≡ true = le-leb (first + length (entry_at book k).source - 1) (length direction) (omega arith) in
      let b : leb first (first + length (entry_at book k).source - 1) ≡ true = le-leb first (first + length (entry_at book k).source - 1) (omega arith) in
      rw (end, le-leb 1 k from, le-leb k (length book.entries) to, le-leb 1 first a, b, d)

  fits_past : length direction < last → fits book direction (step_at book first k) ≡ false
  unfolding fits is_entry words_from_to word_count
  fits_past h =
      let d : leb (first + length (entry_at book k).source - 1) (length direction) ≡ false = lt-leb (first + length (entry_at book k).source - 1) (length direction) (omega arith) in
      let b : leb first (first + length (entry_at book k).source - 1) ≡ true = le-leb first (first + length (entry_at book k).source - 1) (omega arith) in
      rw (le-leb 1 k from, le-leb k (length book.entries) to, le-leb 1 first a, b, d)

-- the same of an entry by its places
module _ (loaded : List ℤ) (book : Book) (direction : List ℕ) (first k : ℕ) (p : Phrase) (stands : PhraseOf loaded (entry_at book k) p) (from : 1 ≤ k) (to : k ≤ length book.entries) (a : 1 ≤ first) where
  end : first + p.long - 1 ≡ first + length (entry_at book k).source - 1
  end = let m = stands.source_at.many_are in omega arith

  some : 1 ≤ length (entry_at book k).source
  some = let m = stands.source_at.many_are in let o = stands.source_at.some in omega arith

  pub entry_past : length direction < first - 1 + p.long → fits book direction (step_at book first k) ≡ false
  entry_past h = fits_past book direction first (first + p.long - 1) k from to a some end (omega arith)

  pub entry_here : first - 1 + p.long ≤ length direction → fits book direction (step_at book first k) ≡ agree (entry_at book k).source direction first (first + p.long - 1) 0
  entry_here h = fits_here book direction first (first + p.long - 1) k from to a some end (omega arith)
