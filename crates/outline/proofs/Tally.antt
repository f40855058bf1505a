-- The count lines are read in turn: none yet, one more, and no more.
use Prim.Native.Nat.{ℕ, ◌+◌, ◌-◌, ◌≤◌, ◌<◌}
use mathlib.Core.Path.{◌≡◌, ◌∙◌}
use mathlib.Core.Bool.{true, false}
use mathlib.Core.List.{List, []}
use native.Mathlib.Omega.{arith}
use lib.ListN.{length, get_or, set, drop, length-set}
use lib.Seq.{get_or-set_same, take-set-le}
use Rattle.meaning.specs.Numerals.{digits_value}
use Rattle.arpa.specs.Lines.{filled_lines}
use Rattle.arpa.specs.File.{is_count_line, counts_from, highest_order}
use Rattle.tokens.specs.declared.scan.Line.{Line}
use Rattle.tokens.specs.Scan.{LineRead}
use Rattle.outline.specs.Outline.{Saturated, Counting, CountsRead}
use Rattle.outline.proofs.Shapes.{count_line}
use Rattle.outline.proofs.Saturated.{counting_none, counting_more, counting_end, counts_none, counts_stop}

-- n of them stand between `at` and `from`
pub record Tally (text : List ℕ) (at : ℕ) (counts : List ℕ) (n from : ℕ) : Type 0 where
  pub most : n ≤ highest_order
  pub long : length counts ≡ highest_order
  pub within : from ≤ length text
  pub counting : Counting (filled_lines (drop at text)) (filled_lines (drop from text)) counts n

pub tally_start : (text : List ℕ) (at : ℕ) (counts : List ℕ) → at ≤ length text → length counts ≡ highest_order → Tally text at counts 0 at
tally_start text at counts h l = record { most = omega arith; long = l; within = h; counting = counting_none (filled_lines (drop at text)) counts }

module _ {text : List ℕ} {at : ℕ} {counts : List ℕ} {n from : ℕ} (t : Tally text at counts n from) where
  tally_end : counts_from (highest_order - n) (n + 1) (filled_lines (drop from text)) ≡ [] → CountsRead text at counts (record { top = n; at = from })
  tally_end e = record {
    most = t.most;
    long = t.long;
    within = t.within;
    are = counting_end (filled_lines (drop at text)) counts n (filled_lines (drop from text)) t.most e t.counting;
    rest = t.counting.rest;
  }

  pub tally_full : highest_order ≤ n → CountsRead text at counts (record { top = n; at = from })
  unfolding counts_from
  tally_full h = let z : highest_order - n ≡ 0 = omega arith in tally_end (rw z)

  pub tally_none : filled_lines (drop from text) ≡ [] → CountsRead text at counts (record { top = n; at = from })
  tally_none e = tally_end (rw e (counts_none (highest_order - n) (n + 1)))

  module _ {places : List ℕ} {line : Line} (r : LineRead text from places line) where
    pub tally_stop : is_count_line (n + 1) r.fields ≡ false → CountsRead text at counts (record { top = n; at = from })
    tally_stop other = tally_end (rw r.is (counts_stop (highest_order - n) (n + 1) r.fields _ other))

    pub tally_more : {m : ℕ} → n < highest_order → is_count_line (n + 1) r.fields ≡ true → Saturated (digits_value 0 (drop 2 (get_or r.fields 1 []))) m
        → Tally text at (set counts n m) (n + 1) line.next
    tally_more {m} h is s =
        let k = count_line (n + 1) r.fields is in
        let inside : n < length counts = omega (arith, t.long) in
        let read : Saturated (digits_value 0 (drop 2 (get_or r.fields 1 []))) (get_or (set counts n m) n 0) = rw (get_or-set_same counts n m 0 inside) s in
        record {
          most = omega arith;
          long = length-set counts n m ∙ t.long;
          within = r.within;
          counting =
              counting_more (filled_lines (drop at text)) counts n r.fields (filled_lines (drop line.next text)) (set counts n m) h (omega (arith, length-set counts n m)) (take-set-le n counts n m (omega arith)) is
              (rw k.value read) (rw r.is at t.counting);
        }
