-- The index: a line that is the word and the first of its spelling lies in the word's bucket, so the walk of one chain is enough; and how the index starts and grows.
use Prim.Native.Nat.{ℕ, ◌+◌, ◌-◌, ◌≤◌, ◌<◌}
use mathlib.Core.Path.{◌≡◌, refl, sym, ap, ◌∙◌}
use mathlib.Core.Bool.{true, false}
use mathlib.Core.List.{List}
use native.Mathlib.Omega.{arith}
use lib.ListN.{length, get_or, set, length-set}
use lib.Seq.{get_or-set_same, get_or-set_other}
use Rattle.laws.specs.Index.{Walk}
use Rattle.laws.proofs.Index.{chained_none, chained_more, walk_start, walk_step, walk_less, walk_out, walk_hit}
use Rattle.arpa.specs.Lines.{eq_bytes}
use Rattle.spelling.specs.Lines.{line_at, Starts}
use Rattle.spelling.specs.Index.{bucket_count, bucket_of, spelled_before, bucket_at, spells, links_from, index_size, head_at, link_at, Cleared, Indexed}
use Rattle.spelling.proofs.Lines.{starts_less}
use Rattle.spelling.proofs.Words.{latest_spells, spells_bucket, bucket_spells}

-- ---- the walk

-- in search of the word, along the chain of its bucket
abbrev pub Search : List ℕ → List ℕ → ℕ → ℕ → Type 0
Search list word n at = Walk (bucket_at list) (spells list word) (bucket_of word) n at

module _ {list index starts : List ℕ} {n : ℕ} (x : Indexed list index starts n) (word : List ℕ) where
  pub search_start : {h at : ℕ} → h ≡ bucket_of word → h < bucket_count → at ≡ get_or index h 0 → Search list word n at
  unfolding head_at
  search_start e l q = walk_start x.chained (spells list word) (bucket_of word) (λ k m t. spells_bucket list word k t) e (omega arith) q

  -- the line at which the walk is: whether it is the word is all that is left to ask
  module _ {h at : ℕ} (e : h ≡ bucket_of word) (l : h < bucket_count) (w : Search list word n at) (p : 0 < at) where
    here_spells : spells list word (at - 1) ≡ eq_bytes (line_at list (at - 1)) word
    here_spells = bucket_spells list word (at - 1) h (w.here (at - 1) (omega arith) ∙ sym e) l

    pub search_step : {at' : ℕ} → eq_bytes (line_at list (at - 1)) word ≡ false → at' ≡ get_or index (links_from + (at - 1)) 0 → Search list word n at'
    unfolding link_at
    search_step f q = walk_step x.chained (spells list word) (bucket_of word) (λ k m t. spells_bucket list word k t) w p (here_spells ∙ f) q

    pub search_hit : eq_bytes (line_at list (at - 1)) word ≡ true → at ≡ spelled_before list n word
    search_hit t = omega (arith, walk_hit w p (here_spells ∙ t), latest_spells list word n x.lines.within)

    pub search_less : {at' : ℕ} → at' ≡ get_or index (links_from + (at - 1)) 0 → at' < at
    unfolding link_at
    search_less q = walk_less x.chained p w.bound q

  pub search_out : {at : ℕ} → Search list word n at → at ≤ 0 → 0 ≡ spelled_before list n word
  search_out w z = sym (walk_out w z) ∙ latest_spells list word n x.lines.within

-- ---- no line, and one more

pub index_none : {list index starts : List ℕ} {n : ℕ} → Starts list starts n → index_size ≤ length index → Cleared index → Indexed list index starts 0
index_none {list} {index} s r c =
    record { lines = starts_less 0 (omega arith) s; room = r; chained = chained_none (bucket_at list) (head_at index) (link_at index) links_from c.none }

-- the two stores of `insert`
module _ (index : List ℕ) (i h : ℕ) where
  abbrev pub linked : List ℕ
  linked = set (set index (links_from + i) (get_or index h 0)) h (i + 1)

  linked_size : length linked ≡ length index
  linked_size = length-set (set index (links_from + i) (get_or index h 0)) h (i + 1) ∙ length-set index (links_from + i) (get_or index h 0)

  module _ (l : h < links_from) (n : links_from + i < length index) where
    linked_head : head_at linked h ≡ i + 1
    unfolding head_at
    linked_head = get_or-set_same (set index (links_from + i) (get_or index h 0)) h (i + 1) 0 (simp length-set (omega arith))

    linked_heads : (g : ℕ) → g < links_from → (g ≡ h → ⊥) → head_at linked g ≡ head_at index g
    unfolding head_at
    linked_heads g lt ne =
        get_or-set_other (set index (links_from + i) (get_or index h 0)) h g (i + 1) 0 ne ∙ get_or-set_other index (links_from + i) g (get_or index h 0) 0 (omega arith)

    linked_link : link_at linked i ≡ head_at index h
    unfolding link_at head_at
    linked_link =
        get_or-set_other (set index (links_from + i) (get_or index h 0)) h (links_from + i) (i + 1) 0 (omega arith) ∙ get_or-set_same index (links_from + i) (get_or index h 0) 0 n

    linked_links : (k : ℕ) → k < i → link_at linked k ≡ link_at index k
    unfolding link_at
    linked_links k lt =
        get_or-set_other (set index (links_from + i) (get_or index h 0)) h (links_from + k) (i + 1) 0 (omega arith) ∙ get_or-set_other index (links_from + i) (links_from + k) (get_or index h 0) 0 (omega arith)

pub index_more : {list index starts : List ℕ} {i h : ℕ} → Indexed list index starts i → Starts list starts (i + 1) → h ≡ bucket_at list i → h < links_from → Indexed list (linked index i h) starts (i + 1)
index_more {list} {index} {starts} {i} {h} x s e l =
    let r = x.room in
    let f = s.few in
    let p : links_from + i < length index = omega arith in
    record {
      lines = s;
      room = omega (arith, linked_size index i h);
      chained =
          chained_more (bucket_at list) (head_at (linked index i h)) (link_at (linked index i h)) x.chained
          (λ k lt. refl)
          (omega arith)
          (λ g lt ne. linked_heads index i h l p g lt (λ d. ne (d ∙ e)))
          (ap (head_at (linked index i h)) (sym e) ∙ linked_head index i h l p)
          (linked_links index i h l p)
          (linked_link index i h l p ∙ ap (head_at index) e);
    }
