-- The P lines of a loaded book, found in order: an entry stands where its line begins, and its numbers are the list's from there on.
use Prim.Native.Nat.{ℕ, ◌+◌, ◌≤◌, ◌<◌}
use native.Mathlib.Omega.{arith}
use mathlib.Core.Path.{◌≡◌, refl, sym, ◌∙◌, ap, subst}
use mathlib.Core.Bool.{true, false, ◌&&◌}
use mathlib.Core.List.{List, [], ◌∷◌, map, drop_last}
use borrow.Author.Tests.{leb-true, eqb-true, eqb-false}
use lib.Dec.{eqb, leb}
use lib.IntN.{ℤ, pos}
use lib.ListN.{length, get_or, take, drop, length-drop, length-map, drop_of_length-le, get_or-map}
use lib.Seq.{get_or-drop, drop-drop}
use Rattle.laws.specs.Bits.{one}
use Rattle.laws.specs.Integers.{Within, nat_of}
use Rattle.laws.specs.Lists.{all, keep, count, set_from}
use Rattle.laws.proofs.Lists.{all_at, part_part, drop_last_length, drop_last_get_d, keep_length}
use Rattle.laws.proofs.Tests.{by_test, both}
use Rattle.meaning.specs.Bounds.{score_most}
use Rattle.meaning.specs.Book.{in_list, Entry, number_at, natural_at, is_p, is_phrase_word, is_whole, is_in_range, is_not_too_long, words_at, entry_of, book_of, book_of_lines, book_refusal, loaded_lines}
use Rattle.meaning.specs.Derivation.{no_entry}
use Rattle.meaning.proofs.Ranges.{lines_passed, PLine, p_line}
use Rattle.halves.specs.Halves.{halves_of}
use Rattle.halves.proofs.Halves.{put_here, put_other, whole_same}
use Rattle.ngrams.specs.Parts.{KeptBelow}
use Rattle.ngrams.proofs.Parts.{below_all, below_from}
use Rattle.book.specs.Entries.{EntryAt, entries_most, entries_from, index_size, entry_halves, entry_place, EntriesAt, with_place}
use Rattle.book.proofs.Cuts.{LineAt, lines_end, line_number, line_long, kind_same}

-- ---- a line's numbers, read in the list

module _ (loaded : List ℤ) (at size : ℕ) where
  line_words : (from many : ℕ) → from + many ≤ size → words_at (take size (drop at loaded)) from many ≡ words_at loaded (at + from) many
  line_words from many h = ap (map nat_of) (part_part size from many (drop at loaded) h ∙ ap (take many) (drop-drop from at loaded))

  drop_number : (i : ℕ) → number_at (drop at loaded) i ≡ number_at loaded (at + i)
  drop_number i = get_or-drop at loaded i (pos 0)

  drop_words : (from many : ℕ) → words_at (drop at loaded) from many ≡ words_at loaded (at + from) many
  drop_words from many = ap (λ (l : List ℤ). map nat_of (take many l)) (drop-drop from at loaded)

-- what stands at `at` by the list's numbers, with a and b
module _ (loaded : List ℤ) (at : ℕ) where
  a : ℕ
  a = natural_at loaded (at + 1)

  b : ℕ
  b = natural_at loaded (at + 2)

  there : Entry
  there = record { source = words_at loaded (at + 3) a; target = words_at loaded (at + (3 + a)) b; g = number_at loaded (at + (3 + a + b)) }

  entry_there : entry_of (drop at loaded) ≡ there
  unfolding entry_of a b there
  entry_there =
      rw (
        ap nat_of (drop_number loaded at 0 1),
        ap nat_of (drop_number loaded at 0 2),
        drop_words loaded at 0 3 (natural_at loaded (at + 1)),
        drop_words loaded at 0 (3 + natural_at loaded (at + 1)) (natural_at loaded (at + 2)),
        drop_number loaded at 0 (3 + natural_at loaded (at + 1) + natural_at loaded (at + 2)),
      )

-- ---- a P line that is whole and in its ranges

module _ (loaded : List ℤ) (at size : ℕ) (l : LineAt loaded at size) (p : is_p (take size (drop at loaded)) ≡ true) (r : is_in_range (take size (drop at loaded)) ≡ true) where
  line : List ℤ
  line = take size (drop at loaded)

  facts : PLine line
  unfolding line
  facts = p_line in_list (take size (drop at loaded)) p l.whole r

  a_is : natural_at line 1 ≡ natural_at loaded (at + 1)
  unfolding line
  a_is = ap nat_of (line_number loaded at size 1 (let h = l.some in omega arith))

  b_is : natural_at line 2 ≡ natural_at loaded (at + 2)
  unfolding line
  b_is = ap nat_of (line_number loaded at size 2 (let h = l.some in omega arith))

  size_is : size ≡ natural_at loaded (at + 1) + natural_at loaded (at + 2) + 4
  unfolding line
  size_is = omega (arith, facts.long, line_long loaded at size l, a_is, b_is)

  line_there : entry_of line ≡ there loaded at
  unfolding entry_of there a b line
  line_there =
      rw (
        a_is,
        b_is,
        line_words loaded at size 3 (natural_at loaded (at + 1)) (omega (arith, size_is)),
        line_words loaded at size (3 + natural_at loaded (at + 1)) (natural_at loaded (at + 2)) (omega (arith, size_is)),
        line_number loaded at size (3 + natural_at loaded (at + 1) + natural_at loaded (at + 2)) (omega (arith, size_is)),
      )

  word_at : (j : ℕ) → j < natural_at loaded (at + 1) + natural_at loaded (at + 2) → is_phrase_word (number_at loaded (at + (3 + j))) ≡ true
  unfolding line
  word_at j h =
      let n = size_is in let long = line_long loaded at size l in let d = length-drop 3 (take size (drop at loaded)) in let e = drop_last_length (drop 3 (take size (drop at loaded))) in
      let q = drop_last_get_d (drop 3 (take size (drop at loaded))) j (pos 0) (omega arith) ∙ get_or-drop 3 (take size (drop at loaded)) j (pos 0) ∙ line_number loaded at size (3 + j) (omega arith) in
      sym (ap is_phrase_word q) ∙ all_at is_phrase_word (drop_last (drop 3 (take size (drop at loaded)))) (pos 0) facts.words j (omega arith)

  pub entry_at : EntryAt loaded at (entry_of (take size (drop at loaded)))
  unfolding there a b line
  entry_at =
      record {
        is = entry_there loaded at ∙ sym line_there;
        a_from = rw a_is at facts.a_from;
        a_to = rw a_is at facts.a_to;
        b_from = rw b_is at facts.b_from;
        b_to = rw b_is at facts.b_to;
        inside = omega (arith, size_is, l.inside);
        source_is = ap (λ (e : Entry). e.source) line_there;
        target_is = ap (λ (e : Entry). e.target) line_there;
        g_is = ap (λ (e : Entry). e.g) line_there;
        words = word_at;
        g_within = let q : 3 + natural_at (take size (drop at loaded)) 1 + natural_at (take size (drop at loaded)) 2 ≡ 3 + natural_at loaded (at + 1) + natural_at loaded (at + 2) = omega (arith, a_is, b_is) in
            subst (Within score_most) (ap (number_at (take size (drop at loaded))) q ∙ line_number loaded at size (3 + natural_at loaded (at + 1) + natural_at loaded (at + 2)) (omega (arith, size_is))) facts.score_within;
      }

-- ---- one place that is noted

place_same : (index : List ℕ) (count at : ℕ) → entry_halves count + 1 < length index → entry_place (set_from index (entry_halves count) (halves_of at)) count ≡ at
unfolding entry_place
place_same index count at h = put_here index (entry_halves count) at h

place_other : (index : List ℕ) (count k at : ℕ) → (k ≡ count → ⊥) → entry_place (set_from index (entry_halves count) (halves_of at)) k ≡ entry_place index k
unfolding entry_place
place_other index count k at n =
    whole_same index (set_from index (entry_halves count) (halves_of at)) (entry_halves k) (put_other index (entry_halves count) at (entry_halves k) (λ h. omega (arith, n, h))) (put_other index (entry_halves count) at (entry_halves k + 1) (λ h. omega (arith, n, h)))

-- ---- the walk: the places of the P lines before `at` are found

pub record Found (loaded : List ℤ) (index : List ℕ) (count at : ℕ) : Type 0 where
  pub inside : at ≤ length loaded
  pub some : count ≤ length (keep is_p (loaded_lines loaded))
  pub few : length (keep is_p (loaded_lines loaded)) ≤ entries_most
  pub tail : drop count (keep is_p (loaded_lines loaded)) ≡ keep is_p (loaded_lines (drop at loaded))
  pub whole : all (is_whole in_list) (loaded_lines (drop at loaded)) ≡ true
  pub ranged : all is_in_range (loaded_lines (drop at loaded)) ≡ true
  pub each : (k : ℕ) → k < count → EntryAt loaded (entry_place index k) (entry_of (get_or (keep is_p (loaded_lines loaded)) k []))

pub found_start : (loaded : List ℤ) (index : List ℕ) → book_refusal loaded ≡ 0 → Found loaded index 0 0
unfolding book_refusal is_not_too_long
found_start loaded index e =
    let p = lines_passed in_list (loaded_lines loaded) e in
    let few = leb-true (count is_p (loaded_lines loaded)) entries_most (both (leb (count is_p (loaded_lines loaded)) entries_most) _ p.short).0 in
    record {
      inside = omega arith;
      some = omega arith;
      few = omega (arith, keep_length is_p (loaded_lines loaded));
      tail = refl;
      whole = p.whole;
      ranged = p.ranged;
      each = λ k h. absurd (omega arith);
    }

module _ {loaded : List ℤ} {index : List ℕ} {count at size : ℕ} (f : Found loaded index count at) (l : LineAt loaded at size) where
  split : all is_in_range (loaded_lines (drop at loaded)) ≡ is_in_range (take size (drop at loaded)) && all is_in_range (loaded_lines (drop (at + size) loaded))
  split = ap (all is_in_range) l.lines

  range_here : is_in_range (take size (drop at loaded)) ≡ true
  range_here = (both (is_in_range (take size (drop at loaded))) _ (sym split ∙ f.ranged)).0

  range_rest : all is_in_range (loaded_lines (drop (at + size) loaded)) ≡ true
  range_rest = (both (is_in_range (take size (drop at loaded))) _ (sym split ∙ f.ranged)).1

  whole_rest : all (is_whole in_list) (loaded_lines (drop (at + size) loaded)) ≡ true
  whole_rest = (both (is_whole in_list (take size (drop at loaded))) _ (sym (ap (all (is_whole in_list)) l.lines) ∙ f.whole)).1

  -- a P line: it is the next entry
  next_p : is_p (drop at loaded) ≡ true → drop count (keep is_p (loaded_lines loaded)) ≡ take size (drop at loaded) ∷ keep is_p (loaded_lines (drop (at + size) loaded))
  next_p p = f.tail ∙ ap (keep is_p) l.lines ∙ rw (kind_same loaded at size l ∙ p)

  next_other : is_p (drop at loaded) ≡ false → drop count (keep is_p (loaded_lines loaded)) ≡ keep is_p (loaded_lines (drop (at + size) loaded))
  next_other p = f.tail ∙ ap (keep is_p) l.lines ∙ rw (kind_same loaded at size l ∙ p)

  pub found_room : is_p (drop at loaded) ≡ true → count < length (keep is_p (loaded_lines loaded))
  found_room p = omega (arith, length-drop count (keep is_p (loaded_lines loaded)), ap length (next_p p))

  entry_next : is_p (drop at loaded) ≡ true → get_or (keep is_p (loaded_lines loaded)) count [] ≡ take size (drop at loaded)
  entry_next p =
      let z : count + 0 ≡ count = omega arith in
      sym (rw z at (get_or-drop count (keep is_p (loaded_lines loaded)) 0 [])) ∙ ap (λ (ls : List (List ℤ)). get_or ls 0 []) (next_p p)

  tail_next : is_p (drop at loaded) ≡ true → drop (count + 1) (keep is_p (loaded_lines loaded)) ≡ keep is_p (loaded_lines (drop (at + size) loaded))
  tail_next p = sym (drop-drop 1 count (keep is_p (loaded_lines loaded))) ∙ ap (drop 1) (next_p p)

  each_next : is_p (drop at loaded) ≡ true → index_size ≤ length index → (k : ℕ) → k < count + 1 → EntryAt loaded (entry_place (set_from index (entry_halves count) (halves_of at)) k) (entry_of (get_or (keep is_p (loaded_lines loaded)) k []))
  each_next p h k m =
      by_test (eqb k count)
      (λ t. let e : k ≡ count = eqb-true k count t in
      let room : entry_halves count + 1 < length index = omega (arith, found_room p, f.few) in
      rw (e, place_same index count at room, entry_next p)
      (entry_at loaded at size l (kind_same loaded at size l ∙ p) range_here))
      (λ n. rw (place_other index count k at (eqb-false k count n)) (f.each k (let q = eqb-false k count n in omega (arith, q))))

  pub found_next : index_size ≤ length index → Found loaded (with_place loaded at index count) (count + one (is_p (drop at loaded))) (at + size)
  unfolding with_place
  found_next h =
      by_test (is_p (drop at loaded))
      (λ t. rw t (record {
        inside = l.inside;
        some = omega (arith, found_room t);
        few = f.few;
        tail = tail_next t;
        whole = whole_rest;
        ranged = range_rest;
        each = each_next t h;
      }))
      (λ n. let z : count + 0 ≡ count = omega arith in
      rw (n, z) (record {
        inside = l.inside;
        some = f.some;
        few = f.few;
        tail = next_other n;
        whole = whole_rest;
        ranged = range_rest;
        each = f.each;
      }))

-- the end of the list
no_entry_lem : entry_of [] ≡ no_entry
unfolding entry_of
no_entry_lem = refl

pub found_end : {loaded : List ℤ} {index : List ℕ} {count at : ℕ} → Found loaded index count at → length loaded ≤ at → index_size ≤ length index → EntriesAt loaded index count
unfolding book_of book_of_lines
found_end {loaded} {index} {count} {at} f h room =
    let none : drop count (keep is_p (loaded_lines loaded)) ≡ [] = f.tail ∙ ap (λ (l : List ℤ). keep is_p (loaded_lines l)) (drop_of_length-le loaded h) ∙ ap (keep is_p) lines_end in
    record {
      counted = omega (arith, length-drop count (keep is_p (loaded_lines loaded)), ap length none, f.some, length-map (keep is_p (loaded_lines loaded)) entry_of);
      few = omega (arith, f.some, f.few);
      room = room;
      each = λ k m.
          let e : get_or (map entry_of (keep is_p (loaded_lines loaded))) k no_entry ≡ entry_of (get_or (keep is_p (loaded_lines loaded)) k []) =
          ap (get_or (map entry_of (keep is_p (loaded_lines loaded))) k) (sym no_entry_lem) ∙ get_or-map entry_of (keep is_p (loaded_lines loaded)) k [] in
          rw e (f.each k m);
    }

-- ---- what code puts

pub place_put : (loaded : List ℤ) (at : ℕ) (index : List ℕ) (count : ℕ) → is_p (drop at loaded) ≡ true
    → (count + 1 ≡ count + one (is_p (drop at loaded))) × (set_from index (entry_halves count) (halves_of at) ≡ with_place loaded at index count)
unfolding with_place
place_put loaded at index count p = (rw p, rw p)

pub place_not : (loaded : List ℤ) (at : ℕ) (index : List ℕ) (count : ℕ) → is_p (drop at loaded) ≡ false
    → (count ≡ count + one (is_p (drop at loaded))) × (index ≡ with_place loaded at index count)
unfolding with_place
place_not loaded at index count p = (rw p (omega arith), rw p)

-- what stands before the places is kept
pub place_kept : (loaded : List ℤ) (index : List ℕ) (at count : ℕ) → KeptBelow entries_from index (with_place loaded at index count)
unfolding with_place
place_kept loaded index at count =
    by_test (is_p (drop at loaded))
    (λ t. rw t (below_from index (entry_halves count) (halves_of at) (omega arith)))
    (λ f. rw f (below_all entries_from index))
