-- `direction::read_direction` meets its contract: its tests are questions 8, 9, 10 and 7 in that order, each of the numbers that
-- the text has (Answers), and where all pass the words that it writes are those numbers.
use mathlib.Core.Path.{◌≡◌, sym, ap, ◌∙◌}
use mathlib.Core.Bool.{true}
use mathlib.Core.List.{List, map}
use Prim.Native.Nat.{◌≤◌}
use native.Mathlib.Omega.{arith}
use borrow.Author.Tests.{le-leb, lt-leb}
use lib.Dec.{leb}
use lib.IntN.{ℤ, pos}
use lib.ListN.{length, take, replicate}
use Rattle.laws.specs.Integers.{nat_of}
use Rattle.laws.specs.Lists.{all}
use Rattle.laws.proofs.Tests.{between}
use Rattle.meaning.specs.Questions.{within}
use Rattle.meaning.specs.Direction.{is_direction_word, is_direction_text, direction_numbers}
use Rattle.meaning.specs.Reply.{written_over, filled_with}
use Rattle.meaning.proofs.Filled.{filled_take}
use Rattle.direction.proofs.Answers.{no_count, no_words, in_range, no_text, no_numbers, no_room, has_room, refused_so, done_so}
use Rattle.direction.proofs.read_direction.Goals as goal
use Rattle.direction.proofs.read_direction.Goals.{Else-not-all_words, Else-not-is_count, Else-not-is_direction_text}

-- question 8 passed
is_text : (c : Else-not-is_direction_text) → is_direction_text c.args.text.now ≡ true
is_text c = sym c.is_direction_text.ensures ∙ c.if-not-is_direction_text.false

-- question 9 passed: so the row had a place for each number
counted : (c : Else-not-is_count) → within 1 32 (length (direction_numbers c.args.text.now)) ≡ true
counted c = ap (within 1 32) (sym c.read_direction_row-n.ensures.value) ∙ sym c.is_count.ensures ∙ c.if-not-is_count.false

few : (c : Else-not-is_count) → c.read_direction_row-n.result ≤ 32
few c = (between 1 32 c.read_direction_row-n.result (sym c.is_count.ensures ∙ c.if-not-is_count.false)).1

row_is : (c : Else-not-is_count) → take c.read_direction_row-n.result c.read_direction_row-n.new.row ≡ direction_numbers c.args.text.now
row_is c =
    let k = c.read_direction_row-n in
    let t = c.args.text.now in
    ap (take k.result) {y = filled_with (direction_numbers t) (replicate 32 (pos 0))} k.ensures.row_after
    ∙ filled_take (direction_numbers t) (replicate 32 (pos 0)) k.result k.ensures.value (few c)

-- question 10 passed
words : (c : Else-not-all_words) → take c.read_direction_row-n.result c.read_direction_row-n.new.row ≡ direction_numbers c.args.text.now → all is_direction_word (direction_numbers c.args.text.now) ≡ true
words c r = ap (all is_direction_word) (sym r) ∙ sym c.all_words.ensures ∙ c.if-not-all_words.false

pub returns-then-not-is_direction_text : goal.returns-then-not-is_direction_text
returns-then-not-is_direction_text c =
    let a = c.args in
    let e = sym c.is_direction_text.ensures ∙ c.if-not-is_direction_text.true in
    let r = refused_so a.text.now a.direction.now 7 (no_text a.text.now (length a.direction.now) e) in
    record { result_value = r.0; direction_after = r.1 }

pub returns-then-not-is_count : goal.returns-then-not-is_count
returns-then-not-is_count c =
    let a = c.args in
    let e = ap (within 1 32) (sym c.read_direction_row-n.ensures.value) ∙ sym c.is_count.ensures ∙ c.if-not-is_count.true in
    let t = is_text (goal.at.returns-then-not-is_count c).Else-not-is_direction_text in
    let r = refused_so a.text.now a.direction.now 8
    (no_numbers a.text.now (length a.direction.now) t 8 (no_count (direction_numbers a.text.now) e)) in
    record { result_value = r.0; direction_after = r.1 }

pub returns-then-not-all_words : goal.returns-then-not-all_words
returns-then-not-all_words c =
    let a = c.args in
    let t = is_text (goal.at.returns-then-not-all_words c).Else-not-is_direction_text in
    let n = counted (goal.at.returns-then-not-all_words c).Else-not-is_count in
    let e = ap (all is_direction_word) (sym (row_is (goal.at.returns-then-not-all_words c).Else-not-is_count)) ∙ sym c.all_words.ensures ∙ c.if-not-all_words.true in
    let r = refused_so a.text.now a.direction.now 9
    (no_numbers a.text.now (length a.direction.now) t 9 (no_words (direction_numbers a.text.now) n e)) in
    record { result_value = r.0; direction_after = r.1 }

pub returns-then-direction-n : goal.returns-then-direction-n
returns-then-direction-n c =
    let a = c.args in
    let g = goal.at.returns-then-direction-n c in
    let n : length (direction_numbers a.text.now) ≡ c.read_direction_row-n.result = sym c.read_direction_row-n.ensures.value in
    let w = in_range (direction_numbers a.text.now) (counted g.Else-not-is_count) (words g.Else-not-all_words (row_is g.Else-not-is_count)) in
    let r = refused_so a.text.now a.direction.now 6
    (no_room a.text.now (length a.direction.now) (is_text g.Else-not-is_direction_text) w (lt-leb (length (direction_numbers a.text.now)) (length a.direction.now) (omega (arith, c.if-direction-n.true)))) in
    record { result_value = r.0; direction_after = r.1 }

pub returns : goal.returns
returns c =
    let a = c.args in
    let g = goal.at.returns c in
    let k = c.read_direction_row-n in
    let n : length (direction_numbers a.text.now) ≡ k.result = sym k.ensures.value in
    let o : leb (length (direction_numbers a.text.now)) (length a.direction.now) ≡ true = le-leb (length (direction_numbers a.text.now)) (length a.direction.now) (omega (arith, c.if-direction-n.false)) in
    let w = in_range (direction_numbers a.text.now) (counted g.Else-not-is_count) (words g.Else-not-all_words (row_is g.Else-not-is_count)) in
    let r = done_so a.text.now a.direction.now k.result k.ensures.value (has_room a.text.now (length a.direction.now) (is_text g.Else-not-is_direction_text) w o) in
    record {
      result_value = r.0;
      direction_after = c.write_words.ensures ∙ ap (λ (x : List ℤ). written_over (map nat_of x) a.direction.now) (row_is g.Else-not-is_count) ∙ r.1;
    }
