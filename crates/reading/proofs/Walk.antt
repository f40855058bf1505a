-- A survey's walk over a text's lines: what is known of the lines passed, with the lines that are left, is what is known of all
-- lines, where the text is a book's; and it is one where every line is good.
use Prim.Native.Nat.{ℕ, ◌+◌, ◌/◌, ◌≤◌, ◌<◌}
use native.Mathlib.Omega.{arith}
use mathlib.Core.Path.{◌≡◌, refl, sym, ◌∙◌, ap}
use mathlib.Core.Bool.{Bool, true, false, ◌&&◌}
use mathlib.Core.List.{List, []}
use lib.IntN.{ℤ}
use lib.ListN.{length, drop, length-append, drop_of_length-le}
use Rattle.laws.specs.Lists.{all}
use Rattle.laws.proofs.Tests.{clash}
use Rattle.meaning.specs.Book.{in_text, is_whole, is_book_text, text_lines}
use Rattle.fields.specs.Scan.{Line, run, at_line, emit_line}
use Rattle.text.specs.Walk.{text_numbers, LineRead}
use Rattle.text.specs.declared.TextLine.{TextLine}
use Rattle.fields.proofs.Form.{book_text, book_run}
use Rattle.text.proofs.Lines.{At, at_start, at_end, loaded_end}
use Rattle.text.proofs.InRow.{NextRow, next_row, emit_few}
use Rattle.meaning.proofs.Sizes.{four_numbers}
use Rattle.book.specs.declared.survey.Survey.{Survey}
use Rattle.book.specs.Survey.{fresh, with_line, no_tally, with_kind, gram_count, Few}
use Rattle.book.specs.Grams.{with_gram}
use Rattle.book.proofs.Counts.{few_none, few_line, few_more}
use Rattle.book.proofs.Walk.{Seen, seen_none, seen_next, seen_all}
use Rattle.book.proofs.Gathered.{gram_long}
use Rattle.reading.specs.Text.{WholeText}

-- the numbers of the line at `at`
abbrev pub numbers_at : List ℕ → ℕ → List ℤ
numbers_at text at = emit_line true Line (drop at text)

-- of a book's text, the lines before `at` were noted, and their numbers counted, beside two more
pub record Noted (text : List ℕ) (index₀ : List ℕ) (acc : Survey) (tally index : List ℕ) (count at : ℕ) : Type 0 where
  pub line : At text at
  pub seen : Seen (text_lines text) (text_lines (drop at text)) index₀ acc tally index
  pub asked : all (is_whole in_text) (text_lines (drop at text)) ≡ all (is_whole in_text) (text_lines text)
  pub total : count + length (text_numbers (drop at text)) ≡ 2 + length (text_numbers text)

-- the invariant: the lines before `at` are good; they were noted, and `row` has a place for each number of a whole line
pub record Walked (text : List ℕ) (index₀ : List ℕ) (acc : Survey) (tally index : List ℕ) (row : List ℤ) (count at : ℕ) : Type 0 where
  pub ends : at_line (run true Line (drop at text)) ≡ at_line (run true Line text)
  pub noted : is_book_text text ≡ true → Noted text index₀ acc tally index count at
  pub within : at ≤ length text
  pub few : Few acc tally (at / 2)
  pub short : count ≤ at + 2
  pub long : length index ≡ length index₀
  pub places : length row ≡ 20

pub walk_start : (text : List ℕ) (index : List ℕ) (row : List ℤ) → length row ≡ 20 → Walked text index fresh no_tally index row 2 0
walk_start text index row l = record {
  ends = refl;
  noted = λ t. record { line = at_start text t; seen = seen_none (text_lines text) index; asked = refl; total = refl };
  within = omega arith;
  few = few_none;
  short = omega arith;
  long = refl;
  places = l;
}

-- a whole line takes some bytes
pub row_later : {text : List ℕ} {at : ℕ} {row row' : List ℤ} {r : TextLine} → LineRead text at row row' r → is_whole in_text (numbers_at text at) ≡ true → at < r.end
row_later {text} {at} f e = omega (arith, f.long, emit_few true Line (drop at text), four_numbers in_text (numbers_at text at) e)

module _ {text : List ℕ} {index₀ tally index : List ℕ} {row : List ℤ} {acc : Survey} {count at : ℕ} (w : Walked text index₀ acc tally index row count at) where
  -- a line that is not good: the text is no book's
  pub walk_bad : at_line (run true Line (drop at text)) ≡ false → is_book_text text ≡ true → all (is_whole in_text) (text_lines text) ≡ false
  walk_bad e t = clash (book_run text t) (sym w.ends ∙ e)

  module _ (h : at < length text) {row' : List ℤ} (r : TextLine) (f : LineRead text at row row' r) where
    row_next : is_book_text text ≡ true → NextRow text at r.end
    row_next t = next_row text at r.end (w.noted t).line h f.long

    -- a line that is not whole
    pub walk_broken : is_whole in_text (numbers_at text at) ≡ false → is_book_text text ≡ true → all (is_whole in_text) (text_lines text) ≡ false
    walk_broken e t =
        sym (w.noted t).asked ∙ ap (all (is_whole in_text)) (row_next t).lines
        ∙ ap (λ (x : Bool). x && all (is_whole in_text) (text_lines (drop r.end text))) e

    -- a line that is
    module _ (e : is_whole in_text (numbers_at text at) ≡ true) where
      noted_next : is_book_text text ≡ true → Noted text index₀ (with_line acc (numbers_at text at)) (with_kind tally (numbers_at text at)) (with_gram index (gram_count tally) (numbers_at text at)) (count + r.count) r.end
      noted_next t = let p = w.noted t in let n = row_next t in record {
        line = n.then;
        seen = seen_next p.seen w.few.each_kind n.lines;
        asked = sym (ap (all (is_whole in_text)) n.lines ∙ ap (λ (x : Bool). x && all (is_whole in_text) (text_lines (drop r.end text))) e) ∙ p.asked;
        total = omega (arith, p.total, f.counted, ap length n.loaded, length-append (numbers_at text at) (text_numbers (drop r.end text)));
      }

      -- it has four bytes at least: so even of the longest text there are not too many lines to count
      pub walk_next : length row' ≡ length row → Walked text index₀ (with_line acc (numbers_at text at)) (with_kind tally (numbers_at text at)) (with_gram index (gram_count tally) (numbers_at text at)) row' (count + r.count) r.end
      walk_next same =
          let four = four_numbers in_text (numbers_at text at) e in
          let most = emit_few true Line (drop at text) in
          record {
            ends = sym f.ends ∙ w.ends;
            noted = noted_next;
            within = f.within;
            few = few_more (few_line acc tally (numbers_at text at) (at / 2) w.few) (omega (arith, four, most, f.long));
            short = omega (arith, w.short, most, f.long, f.counted);
            long = gram_long index (numbers_at text at) (gram_count tally) ∙ w.long;
            places = same ∙ w.places;
          }

-- at the end of a text that is not empty
pub walk_end : {text : List ℕ} {index₀ tally index : List ℕ} {row : List ℤ} {acc : Survey} {count at : ℕ} → Walked text index₀ acc tally index row count at → length text ≤ at → (length text ≡ 0 → ⊥)
    → WholeText text index₀ index tally acc count
walk_end {text} {index₀} {tally} {index} {row} {acc} {count} {at} w h s =
    let t : is_book_text text ≡ true = sym (book_text text s) ∙ sym w.ends ∙ ap (λ (x : List ℕ). at_line (run true Line x)) (drop_of_length-le text h) in
    let p = w.noted t in
    let none : text_lines (drop at text) ≡ [] = at_end text at h in
    let all_seen = seen_all p.seen none in
    record {
      formed = t;
      lines = record {
        whole = sym p.asked ∙ ap (all (is_whole in_text)) none;
        surveyed = all_seen.0;
        tallied = all_seen.1;
        gathered = all_seen.2;
      };
      counted = omega (arith, p.total, ap length (loaded_end text at h));
    }
