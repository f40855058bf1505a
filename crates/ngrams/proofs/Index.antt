-- The index: a record of the words sought lies in their bucket, so the walk of one chain is enough; and how the index starts and grows inside the one list.
use Prim.Native.Nat.{ℕ, suc, ◌+◌, ◌-◌, ◌≤◌, ◌<◌}
use mathlib.Core.Path.{◌≡◌, sym, ap, ◌∙◌}
use mathlib.Core.Bool.{true, false}
use mathlib.Core.List.{List, ◌++◌}
use native.Mathlib.Omega.{arith}
use lib.Dec.{leb, ltb}
use lib.ListN.{length, get_or, drop, set, length-append, length-drop, length-set, get_or-append}
use lib.Seq.{get_or-drop, get_or-set_same, get_or-set_other}
use borrow.Author.Tests.{leb-true, ltb-true, le-leb, lt-ltb}
use Rattle.std.proofs.Common.{Option, Some, None}
use Rattle.std.proofs.lemmas.List.{get_or-append_right}
use Rattle.laws.specs.Index.{Walk}
use Rattle.laws.proofs.Tests.{both}
use Rattle.laws.proofs.Index.{chained_none, chained_more, chained_same, walk_start, walk_step, walk_less, walk_hit, walk_out}
use Rattle.halves.proofs.Halves.{signed_same}
use Rattle.ngrams.specs.declared.Key.{Key}
use Rattle.ngrams.specs.Parts.{bucket_count, records_most, record_size, records_end, record_at, head_at, link_at, record_named, KeptFrom, KeptRecords, KeptBelow}
use Rattle.ngrams.specs.Grams.{key_at, score_at, weight_at, gram_at, bucket_of, bucket_at, holds, latest_with, Room, has_place, Indexed, Cleared, Inserted}
use Rattle.ngrams.proofs.Keys.{same_is}
use Rattle.ngrams.proofs.Parts.{kept_records, stored, stored_is}

-- a record that has the words lies in their bucket
holds_bucket : (index : List ℕ) (key : Key) (k : ℕ) → holds index key k ≡ true → bucket_at index k ≡ bucket_of key
unfolding holds bucket_at
holds_bucket index key k t = ap bucket_of (sym (same_is key (key_at index k) t))

-- ---- records that are kept

-- two lists that hold the same numbers where record k stands
module _ (old new : List ℕ) (k : ℕ) (same : (f : ℕ) → f < record_size → get_or new (record_at k + f) 0 ≡ get_or old (record_at k + f) 0) where
  first : get_or new (record_at k) 0 ≡ get_or old (record_at k) 0
  first = let z : record_at k + 0 ≡ record_at k = omega arith in rw z at (same 0 (omega arith))

  pub key_same : key_at new k ≡ key_at old k
  unfolding key_at
  key_same = rw (first, same 1 (omega arith), same 2 (omega arith), same 3 (omega arith))

  score_same : score_at new k ≡ score_at old k
  score_same = let z : record_at k + 4 + 1 ≡ record_at k + 5 = omega arith in signed_same old new (record_at k + 4) (same 4 (omega arith)) (rw z (same 5 (omega arith)))

  weight_same : weight_at new k ≡ weight_at old k
  weight_same = let z : record_at k + 6 + 1 ≡ record_at k + 7 = omega arith in signed_same old new (record_at k + 6) (same 6 (omega arith)) (rw z (same 7 (omega arith)))

  pub gram_same : gram_at new k ≡ gram_at old k
  unfolding gram_at
  gram_same = rw (key_same, score_same, weight_same)

-- every record
module _ {old new : List ℕ} (same : KeptRecords old new) where
  pub kept_key : (k : ℕ) → key_at new k ≡ key_at old k
  kept_key k = key_same old new k (same.at k)

  pub kept_gram : (k : ℕ) → gram_at new k ≡ gram_at old k
  kept_gram k = gram_same old new k (same.at k)

  kept_bucket : (k : ℕ) → bucket_at new k ≡ bucket_at old k
  unfolding bucket_at
  kept_bucket k = ap bucket_of (kept_key k)

  pub kept_room : {n : ℕ} → Room old n → Room new n
  kept_room r = let p = r.parts in let s = same.size in record { parts = omega arith; few = r.few }

-- fewer records need no more room
pub room_less : {index : List ℕ} {n : ℕ} (m : ℕ) → m ≤ n → Room index n → Room index m
room_less m l r = let f = r.few in let p = r.parts in record { parts = omega arith; few = omega arith }

-- where record n has a place there is room for it too; and it has one where there is room
pub place_room : (index : List ℕ) (n : ℕ) → has_place index n ≡ true → Room index (n + 1)
unfolding has_place
place_room index n t =
    let h = both (ltb n records_most) (leb (record_at (n + 1)) (length index)) t in
    record { parts = leb-true (record_at (n + 1)) (length index) h.1; few = omega (arith, ltb-true n records_most h.0) }

pub room_place : (index : List ℕ) (n : ℕ) → Room index (n + 1) → has_place index n ≡ true
unfolding has_place
room_place index n r = rw (lt-ltb n records_most (omega (arith, r.few)), le-leb (record_at (n + 1)) (length index) r.parts)

-- ---- the walk

module _ {index : List ℕ} {n : ℕ} (x : Indexed index n) (key : Key) where
  abbrev Search : ℕ → Type 0
  Search at = Walk (bucket_at index) (holds index key) (bucket_of key) n at

  pub index_start : {h : ℕ} {next : Option ℕ} → h ≡ bucket_of key → h < bucket_count → next ≡ record_named (get_or index h 0) → Search (stored next)
  unfolding head_at
  index_start e l q = walk_start x.chained (holds index key) (bucket_of key) (λ k m t. holds_bucket index key k t) e l (stored_is q)

  pub index_hit : {k : ℕ} → Search (suc k) → holds index key k ≡ true → Some k ≡ latest_with index key n
  unfolding latest_with
  index_hit {k} w t = let z : suc k - 1 ≡ k = omega arith in ap record_named (sym (walk_hit w (omega arith) (rw z t) ∙ ap suc z))

  pub index_out : Search 0 → None ≡ latest_with index key n
  unfolding latest_with
  index_out w = ap record_named (sym (walk_out w (omega arith)))

  module _ {k : ℕ} {next : Option ℕ} (w : Search (suc k)) (q : next ≡ record_named (get_or index (record_at k + record_size) 0)) where
    -- the link of the record
    link : stored next ≡ link_at index (suc k - 1)
    unfolding link_at
    link = let z : suc k - 1 ≡ k = omega arith in rw z (stored_is q)

    pub index_step : holds index key k ≡ false → Search (stored next)
    index_step f = let z : suc k - 1 ≡ k = omega arith in walk_step x.chained (holds index key) (bucket_of key) (λ m l t. holds_bucket index key m t) w (omega arith) (rw z f) link

    pub index_less : stored next < suc k
    index_less = walk_less x.chained (omega arith) w.bound link

-- ---- no record, and one more

pub index_none : {old new : List ℕ} {n : ℕ} → Room old n → Cleared old new → Indexed new 0
index_none {old} {new} r c =
    record {
      room = room_less 0 (omega arith) (kept_room (kept_records c.kept) r);
      chained = chained_none (bucket_at new) (head_at new) (link_at new) bucket_count c.none;
    }

-- the two stores of `insert`
module _ (index : List ℕ) (i h : ℕ) where
  abbrev pub linked : List ℕ
  linked = set (set index (record_at i + record_size) (get_or index h 0)) h (i + 1)

  module _ (l : h < bucket_count) (n : record_at (i + 1) ≤ length index) where
    linked_kept : KeptRecords index linked
    linked_kept = record {
      size = length-set (set index (record_at i + record_size) (get_or index h 0)) h (i + 1) ∙ length-set index (record_at i + record_size) (get_or index h 0);
      at = λ k f m.
          get_or-set_other (set index (record_at i + record_size) (get_or index h 0)) h (record_at k + f) (i + 1) 0 (omega arith)
          ∙ get_or-set_other index (record_at i + record_size) (record_at k + f) (get_or index h 0) 0 (omega arith);
    }

    linked_head : head_at linked h ≡ i + 1
    unfolding head_at
    linked_head = get_or-set_same (set index (record_at i + record_size) (get_or index h 0)) h (i + 1) 0 (simp length-set (omega arith))

    linked_heads : (g : ℕ) → g < bucket_count → (g ≡ h → ⊥) → head_at linked g ≡ head_at index g
    unfolding head_at
    linked_heads g lt ne =
        get_or-set_other (set index (record_at i + record_size) (get_or index h 0)) h g (i + 1) 0 ne ∙ get_or-set_other index (record_at i + record_size) g (get_or index h 0) 0 (omega arith)

    linked_link : link_at linked i ≡ head_at index h
    unfolding link_at head_at
    linked_link =
        get_or-set_other (set index (record_at i + record_size) (get_or index h 0)) h (record_at i + record_size) (i + 1) 0 (omega arith) ∙ get_or-set_same index (record_at i + record_size) (get_or index h 0) 0 (omega arith)

    linked_links : (k : ℕ) → k < i → link_at linked k ≡ link_at index k
    unfolding link_at
    linked_links k lt =
        get_or-set_other (set index (record_at i + record_size) (get_or index h 0)) h (record_at k + record_size) (i + 1) 0 (omega arith) ∙ get_or-set_other index (record_at i + record_size) (record_at k + record_size) (get_or index h 0) 0 (omega arith)

pub index_more : {index : List ℕ} {i h : ℕ} → Indexed index i → Room index (i + 1) → h ≡ bucket_of (key_at index i) → h < bucket_count → Inserted index (linked index i h) i
unfolding bucket_at
index_more {index} {i} {h} x r e l =
    let p = r.parts in
    let same = linked_kept index i h l p in
    let q : bucket_at (linked index i h) i ≡ h = kept_bucket same i ∙ sym e in
    record {
      indexed = record {
        room = kept_room same r;
        chained =
            chained_more (bucket_at (linked index i h)) (head_at (linked index i h)) (link_at (linked index i h)) x.chained
            (λ k lt. kept_bucket same k)
            (omega (arith, q))
            (λ g lt ne. linked_heads index i h l p g lt (λ d. ne (d ∙ sym q)))
            (ap (head_at (linked index i h)) q ∙ linked_head index i h l p)
            (linked_links index i h l p)
            (linked_link index i h l p ∙ ap (head_at index) (sym q));
      };
      kept = same;
    }

-- the heads, written over by zeros
pub heads_cleared : (n : ℕ) (index heads : List ℕ) → length heads ≡ n → n ≤ length index → ((k : ℕ) → k < n → get_or heads k 0 ≡ 0)
    → ((k : ℕ) → k < n → get_or (heads ++ drop n index) k 0 ≡ 0) × KeptFrom n index (heads ++ drop n index)
heads_cleared n index heads e l z = (
  λ k m. get_or-append heads (drop n index) 0 k (omega arith) ∙ z k m,
  record {
    size = let a = length-append heads (drop n index) in let d = length-drop n index in omega arith;
    at = λ k m. let q : n + (k - n) ≡ k = omega arith in get_or-append_right heads (drop n index) n k 0 e m ∙ get_or-drop n index (k - n) 0 ∙ ap (λ (j : ℕ). get_or index j 0) q;
  },
)

-- ---- the caller's part is written: the index and the records stay

module _ {old new : List ℕ} (same : KeptBelow records_end old new) where
  pub below_gram : (k : ℕ) → k < records_most → gram_at new k ≡ gram_at old k
  below_gram k l = gram_same old new k (λ f m. same.at (record_at k + f) (omega arith))

  pub below_key : (k : ℕ) → k < records_most → key_at new k ≡ key_at old k
  below_key k l = key_same old new k (λ f m. same.at (record_at k + f) (omega arith))

  pub below_indexed : {n : ℕ} → Indexed old n → Indexed new n
  unfolding bucket_at head_at link_at
  below_indexed {n} x =
      let p = x.room.parts in
      let s = same.size in
      let few = x.room.few in
      record {
        room = record { parts = omega arith; few = few };
        chained =
            chained_same (bucket_at new) (head_at new) (link_at new) x.chained
            (λ k l. ap bucket_of (below_key k (omega arith)))
            (λ h l. same.at h (omega arith))
            (λ k l. same.at (record_at k + record_size) (omega arith));
      }
