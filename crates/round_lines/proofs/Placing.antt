-- A line's text, read into 32 places of a list: 7 is never the answer, as 9 comes before it, and the words stand behind those before them.
use Rattle.std.specs.declared.result.Result.TheVariants.{Ok, Err}
use Rattle.std.specs.declared.result.Result.{Result}
use Rattle.meaning.specs.declared.Refusal.{Refusal}
use Prim.Native.Nat.{ℕ, ◌+◌, ◌-◌, ◌≤◌}
use native.Mathlib.Omega.{arith}
use mathlib.Core.Path.{◌≡◌, sym, ◌∙◌, ap}
use mathlib.Core.List.{List, ◌++◌, append_assoc}
use borrow.Rule.Slice.PartMut.{mid_of, put_mid, mid_len}
use lib.Dec.{leb}
use lib.IntN.{ℤ}
use lib.ListN.{length, take, drop, length-append, length-map}
use lib.Seq.{length-take-le, take_at}
use Rattle.laws.specs.Integers.{nat_of}
use Rattle.laws.specs.Lists.{all}
use Rattle.laws.proofs.Tests.{between}
use Rattle.meaning.specs.Questions.{◌unless◌, ◌orelse◌, within, number}
use Rattle.meaning.specs.Direction.{is_direction_word, direction_numbers, numbers_refusal, direction_of, read_direction_refusal, is_direction_text}
use Rattle.meaning.specs.Reply.{done, reply_of, read_direction, read_direction_list}
use Rattle.meaning.proofs.Chains.{first_passes, rest_passes, test_passes, done_passes, done_is, refused_is, written_done}
use Rattle.meaning.proofs.Demands.{numbers_to}
use Rattle.meaning.proofs.Rooms.{direction_room}
use Rattle.round_lines.specs.Lines.{Placed, PlacedAt}

-- a direction that 9 passes has at most 32 words
places : (text : List ℕ) → read_direction_refusal text 32 ≡ read_direction_refusal text (length (direction_of text))
unfolding direction_of
places text =
    direction_room text 32 (length (direction_of text)) (numbers_to (direction_numbers text)) (λ _. omega (arith, length-map (direction_numbers text) nat_of))

-- and at least one
numbers_pass : (text : List ℕ) (k : ℕ) → read_direction_refusal text k ≡ 0 → numbers_refusal (direction_numbers text) ≡ 0
unfolding read_direction_refusal
numbers_pass text k e =
    let last = 7 unless leb (length (direction_numbers text)) k in
    first_passes (numbers_refusal (direction_numbers text)) last (rest_passes (8 unless is_direction_text text) (numbers_refusal (direction_numbers text) orelse last) e)

counted_words : (numbers : List ℤ) → numbers_refusal numbers ≡ 0 → (1 ≤ length numbers) × (length numbers ≤ 32)
unfolding numbers_refusal
counted_words numbers e =
    between 1 32 (length numbers) (test_passes 8 (within 1 32 (length numbers)) (first_passes (9 unless within 1 32 (length numbers)) (10 unless all is_direction_word numbers) e))

some_words : (text : List ℕ) (k : ℕ) → read_direction_refusal text k ≡ 0 → (1 ≤ length (direction_of text)) × (length (direction_of text) ≤ 32)
unfolding direction_of
some_words text k e =
    let w = counted_words (direction_numbers text) (numbers_pass text k e) in
    let m = length-map (direction_numbers text) nat_of in
    (omega (arith, m, w.0), omega (arith, m, w.1))

module _ (text : List ℕ) (at : ℕ) (old : List ℕ) (room : at + 32 ≤ length old) where
  abbrev part : List ℕ
  part = mid_of at (at + 32 - at) old

  part_long : length part ≡ 32
  part_long = let m = mid_len at (at + 32) old room in omega arith

  module _ (new : List ℕ) where
    numbers_placed : (n : ℕ) → done n ≡ read_direction text (length part) → new ≡ read_direction_list text part → Placed text n at old (put_mid at (at + 32 - at) old new)
    unfolding read_direction read_direction_list
    numbers_placed n r w =
        let p : read_direction_refusal text (length part) ≡ 0 = done_passes (read_direction_refusal text (length part)) (length (direction_of text)) n (sym r) in
        let c : length (direction_of text) ≡ n = done_is (read_direction_refusal text (length part)) (length (direction_of text)) n (sym r) in
        let s = some_words text (length part) p in
        let ds = direction_of text in
        let rest = drop (length ds) part in
        let e : new ≡ ds ++ rest = w ∙ written_done (read_direction_refusal text (length part)) ds part p in
        let before : length (take at old) ≡ at = length-take-le at old (omega arith) in
        record {
          passes = sym (places text) ∙ ap (read_direction_refusal text) (sym part_long) ∙ p;
          counted = sym c;
          some = omega (arith, s.0, c);
          few = omega (arith, s.1, c);
          words =
              ap (λ (xs : List ℕ). take (at + n) (take at old ++ (xs ++ drop (at + 32 - at) (drop at old)))) e
              ∙ ap (take (at + n)) (sym (append_assoc (take at old) (ds ++ rest) _) ∙ ap (λ (xs : List ℕ). xs ++ drop (at + 32 - at) (drop at old)) (sym (append_assoc (take at old) ds rest)) ∙ append_assoc (take at old ++ ds) rest _)
              ∙ take_at (take at old ++ ds) (rest ++ drop (at + 32 - at) (drop at old)) (at + n) (omega (arith, length-append (take at old) ds, before, c));
        }

    pub placed : (read : Result ℕ Refusal) → reply_of read ≡ read_direction text (length part) → new ≡ read_direction_list text part → PlacedAt read text at old (put_mid at (at + 32 - at) old new)
    unfolding read_direction
    placed (Ok n) r w = numbers_placed n r w
    placed (Err refusal) r w = sym (places text) ∙ ap (read_direction_refusal text) (sym part_long) ∙ refused_is (read_direction_refusal text (length part)) (number refusal) (length (direction_of text)) (sym r)
