-- A line that is read field by field: what is left of the text from the next field on, behind the fields that were read.
use Prim.Native.Nat.{ℕ, ◌+◌, ◌-◌, ◌≤◌, ◌<◌}
use mathlib.Core.Path.{◌≡◌, refl, sym, ap, ◌∙◌}
use mathlib.Core.Bool.{false}
use mathlib.Core.List.{List, [], ◌∷◌, ◌++◌}
use native.Mathlib.Omega.{arith}
use lib.Dec.{eqb, ltb}
use lib.ListN.{length, take, drop, get_or, length-append, drop_of_length-le}
use lib.Seq.{drop-drop}
use borrow.Author.Tests.{eq-eqb, ne_eqb, ltb-true, ltb-false}
use Rattle.laws.proofs.Tests.{neither, clash, by_test}
use Rattle.meaning.specs.Numerals.{newline}
use Rattle.arpa.specs.Lines.{is_blank, filled_lines}
use Rattle.tokens.specs.Scan.{run_length, is_space, is_part, note_at, Noted, LineRead}
use Rattle.tokens.proofs.Runs.{run_on, run_inside, run_behind}
use Rattle.tokens.proofs.Filled.{add_filled, add_some, add_none, filled_after, part_is, filled_start, filled_space, filled_blanks, filled_field, filled_end}
use Rattle.tokens.proofs.Places.{note_length, noted_none, noted_more}

-- `count` fields of the line were read, to places that were `old`; the next one stands at `next`, or the line ends there
pub record Reading (text : List ℕ) (at : ℕ) (old places : List ℕ) (count next : ℕ) : Type 0 where
  pub fields : List (List ℕ)
  pub rest : filled_after fields (drop next text) ≡ filled_lines (drop at text)
  pub long : length fields ≡ count
  pub noted : Noted text places fields
  pub same : length places ≡ length old
  pub later : at + count ≤ next
  pub within : next ≤ length text
  pub stop : next < length text → is_blank (get_or text next 0) ≡ false
  pub begun : count ≡ 0 → next < length text → eqb (get_or text next 0) newline ≡ false

-- behind the blanks and blank lines from `at` on
pub reading_start : (text : List ℕ) (at : ℕ) (places : List ℕ) {next : ℕ} → at ≤ length text → next ≡ at + run_length is_space (drop at text)
    → Reading text at places places 0 next
reading_start text at places {next} h e =
    let n = run_length is_space (drop at text) in
    let apart : next < length text → (is_blank (get_or text next 0) ≡ false) × (eqb (get_or text next 0) newline ≡ false) =
    λ l. neither (is_blank (get_or text next 0)) (eqb (get_or text next 0) newline) (ap (λ (k : ℕ). is_space (get_or text k 0)) e ∙ run_behind is_space text at (omega arith)) in
    record {
      fields = [];
      rest =
          sym (filled_start (drop next text))
          ∙ ap (λ (k : ℕ). filled_lines (drop k text)) e
          ∙ ap filled_lines (sym (drop-drop n at text))
          ∙ filled_space (drop at text);
      long = refl;
      noted = noted_none text places;
      same = refl;
      later = omega arith;
      within = omega (arith, run_inside is_space text at h);
      stop = λ l. (apart l).0;
      begun = λ z l. (apart l).1;
    }

module _ {text : List ℕ} {at : ℕ} {old places : List ℕ} {count next : ℕ} (r : Reading text at old places count next) where
  -- one field more, with the blanks behind it
  module _ (room : 10 ≤ length old) (inside : next < length text) (goes : get_or text next 0 ≡ 10 → ⊥) where
    -- it has a byte
    pub some_byte : 0 < run_length is_part (drop next text)
    some_byte = omega (arith, run_on is_part text next inside (part_is (get_or text next 0) (ne_eqb (get_or text next 0) 10 goes) (r.stop inside)))

    pub reading_more : {end then : ℕ} → end ≡ next + run_length is_part (drop next text) → then ≡ end + run_length is_blank (drop end text)
        → Reading text at old (note_at places count next end) (count + 1) then
    reading_more {end} {then} e f =
        let n = run_length is_part (drop next text) in
        let m = run_length is_blank (drop end text) in
        let some = some_byte in
        let same = r.same in
        let w : end ≤ length text = omega (arith, run_inside is_part text next r.within) in
        let size : end - next ≡ n = omega arith in
        let piece = take (end - next) (drop next text) in
        let z : take n (drop next text) ≡ piece = ap (λ (k : ℕ). take k (drop next text)) (sym size) in
        let more = r.fields ++ (piece ∷ []) in
        record {
          fields = more;
          rest =
              ap (λ (k : ℕ). filled_after more (drop k text)) f
              ∙ ap (filled_after more) (sym (drop-drop m end text))
              ∙ filled_blanks more (drop end text)
              ∙ ap (λ (k : ℕ). filled_after more (drop k text)) e
              ∙ ap (filled_after more) (sym (drop-drop n next text))
              ∙ ap (λ (p : List ℕ). filled_after (r.fields ++ (p ∷ [])) (drop n (drop next text))) (sym z)
              ∙ sym (filled_field r.fields (drop next text) some)
              ∙ r.rest;
          long = omega (arith, length-append r.fields (piece ∷ []), r.long);
          noted = noted_more text places count next end (omega arith) r.fields r.long (omega arith) w r.noted;
          same = note_length places count next end ∙ r.same;
          later = omega (arith, r.later);
          within = omega (arith, run_inside is_blank text end w);
          stop = λ l. ap (λ (k : ℕ). is_blank (get_or text k 0)) f ∙ run_behind is_blank text end (omega arith);
          begun = λ z l. absurd (omega arith);
        }

  -- a byte 10, or the text's end
  module _ (ends : next < length text → get_or text next 0 ≡ 10) where
    all_read : filled_lines (drop at text) ≡ add_filled r.fields (filled_lines (drop next text))
    all_read = sym r.rest ∙ filled_end r.fields text next ends

    pub reading_none : count ≡ 0 → filled_lines (drop at text) ≡ []
    reading_none z =
        let long = r.long in
        all_read
        ∙ add_none r.fields (filled_lines (drop next text)) (omega arith)
        ∙ ap filled_lines (drop_of_length-le text past)
        ∙ filled_start []
      where
        past : length text ≤ next
        past = by_test (ltb next (length text)) (λ t. let l = ltb-true next (length text) t in clash (eq-eqb (get_or text next 0) 10 (ends l)) (r.begun z l)) (λ f. ltb-false next (length text) f)

    pub reading_line : 1 ≤ count → LineRead text at places (record { count = count; next = next })
    reading_line s =
        let long = r.long in
        record {
          fields = r.fields;
          long = r.long;
          noted = r.noted;
          within = r.within;
          filled = s;
          later = omega (arith, r.later);
          is = all_read ∙ add_some r.fields (filled_lines (drop next text)) (omega arith);
        }
