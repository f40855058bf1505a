-- Each line in turn: the first of them are read, and the others are left.
use Prim.Native.Nat.{ℕ, zero, suc, ◌+◌, ◌≤◌, ◌<◌}
use native.Mathlib.Numerals.{add-one}
use native.Mathlib.Omega.{arith}
use mathlib.Core.Path.{◌≡◌, refl, sym, ◌∙◌, ap}
use mathlib.Core.Bool.{true}
use mathlib.Core.List.{List, [], ◌∷◌, ◌++◌, map, map-append}
use lib.ListN.{length, get_or, take, drop, set, length-set, length-map, drop_of_length-le}
use lib.Seq.{take-suc-set, take_all, length-take-le}
use Rattle.laws.proofs.Lists.{take_next, drop_next}
use Rattle.laws.proofs.Tests.{between}
use Rattle.meaning.specs.Questions.{◌orelse◌, within, number}
use Rattle.meaning.specs.Direction.{direction_of, read_direction_refusal}
use Rattle.meaning.specs.Sheet.{texts_refusal}
use Rattle.meaning.specs.declared.Refusal.{Refusal}
use Rattle.meaning.proofs.Numbered.{number_from}
use Rattle.round_lines.specs.Lines.{Placed, AllRead}
use Rattle.round_lines.proofs.Standing.{Standing, none_stand, one_stands, stand_right, stand_are}

refused_first : (k m j : ℕ) → k ≡ j → 1 ≤ j → k orelse m ≡ j
refused_first zero m j e h = absurd (omega arith)
refused_first (suc k) m j e h = e

-- n lines are read, up to `at` in the list
pub record Reads (texts : List (List ℕ)) (directions ends : List ℕ) (n at : ℕ) : Type 0 where
  pub many : within 1 64 (length texts) ≡ true
  pub left : texts_refusal (drop n texts) ≡ texts_refusal texts
  pub standing : Standing (map direction_of (take n texts)) at directions (take n ends)
  pub room : 2_048 ≤ length directions
  pub room_ends : 64 ≤ length ends

module _ {texts : List (List ℕ)} where
  pub reads_begin : {directions ends : List ℕ} → within 1 64 (length texts) ≡ true → 2_048 ≤ length directions → 64 ≤ length ends → Reads texts directions ends 0 0
  reads_begin {directions} many room room_ends = record { many = many; left = refl; standing = none_stand directions; room = room; room_ends = room_ends }

  module _ {directions ends : List ℕ} {n at : ℕ} (r : Reads texts directions ends n at) where
    -- line n is left
    module _ {line : List ℕ} (h : n < length texts) (e : line ≡ get_or texts n line) where
      abbrev others : List (List ℕ)
      others = drop (n + 1) texts

      line_next : drop n texts ≡ line ∷ others
      line_next = drop_next texts n line h ∙ ap (λ (x : List ℕ). x ∷ others) (sym e)

      line_last : take (n + 1) texts ≡ take n texts ++ (line ∷ [])
      line_last = take_next texts n line h ∙ ap (λ (x : List ℕ). take n texts ++ (x ∷ [])) (sym e)

      pub reads_few : n < 64
      reads_few = omega (arith, (between 1 64 (length texts) r.many).1)

      pub reads_small : at + 32 ≤ 2_048
      reads_small = omega (arith, reads_few, r.standing.few, length-map (take n texts) direction_of, length-take-le n texts (omega arith))

      pub reads_room : at + 32 ≤ length directions
      reads_room = omega (arith, reads_small, r.room)

      pub reads_place : n < length ends
      reads_place = omega (arith, reads_few, r.room_ends)

      refusals : texts_refusal (line ∷ others) ≡ texts_refusal texts
      refusals = ap texts_refusal (sym line_next) ∙ r.left

      pub reads_refused : (refusal : Refusal) → read_direction_refusal line (length (direction_of line)) ≡ number refusal → texts_refusal texts ≡ number refusal
      reads_refused refusal e = sym refusals ∙ refused_first (read_direction_refusal line (length (direction_of line))) (texts_refusal others) (number refusal) e (number_from refusal)

      pub reads_next : {count : ℕ} {new : List ℕ} → Placed line count at directions new → length new ≡ length directions → Reads texts new (set ends n (at + count)) (n + 1) (at + count)
      reads_next {count} {new} p same =
          let stand = one_stands line r.standing p in
          let words_are : map direction_of (take n texts) ++ (direction_of line ∷ []) ≡ map direction_of (take (n + 1) texts) = sym (ap (map direction_of) line_last ∙ map-append direction_of (take n texts) (line ∷ [])) in
          let ends_are : take n ends ++ ((at + count) ∷ []) ≡ take (n + 1) (set ends n (at + count)) = sym (ap (λ (k : ℕ). take k (set ends n (at + count))) (add-one n) ∙ take-suc-set ends n (at + count) reads_place) in
          record {
            many = r.many;
            left = ap (λ (k : ℕ). k orelse texts_refusal others) (sym p.passes) ∙ refusals;
            standing = rw (sym words_are, sym ends_are) stand;
            room = omega (arith, same, r.room);
            room_ends = omega (arith, length-set ends n (at + count), r.room_ends);
          }

    -- no line is left
    pub reads_end : n ≡ length texts → AllRead texts n directions (take n ends)
    reads_end h =
        let all_done : take n texts ≡ texts = take_all n texts (omega arith) in
        let none : drop n texts ≡ [] = drop_of_length-le texts {i = n} (omega arith) in
        let many : within 1 64 (length (map direction_of (take n texts))) ≡ true = ap (within 1 64) (length-map (take n texts) direction_of ∙ ap length all_done) ∙ r.many in
        record {
          passes = sym r.left ∙ ap texts_refusal none;
          counted = h;
          right = stand_right r.standing many (omega (arith, (between 1 64 (length (map direction_of (take n texts))) many).1, r.standing.few, r.room));
          are = stand_are r.standing ∙ ap (map direction_of) all_done;
        }
