-- Looking for `\data\`: at the text's end, and one line more.
use Prim.Native.Nat.{ℕ, ◌≤◌}
use mathlib.Core.Path.{◌≡◌, refl, sym, ap, ◌∙◌}
use mathlib.Core.Bool.{true, false}
use mathlib.Core.List.{List, [], ◌∷◌}
use native.Mathlib.Omega.{arith}
use lib.ListN.{length, drop, drop_of_length-le}
use Rattle.meaning.specs.Numerals.{split}
use Rattle.arpa.specs.Lines.{split_blank, fields_of, filled_lines}
use Rattle.arpa.specs.File.{data_mark, is_mark, behind_data, body_of}
use Rattle.tokens.specs.declared.scan.Line.{Line}
use Rattle.tokens.specs.Scan.{LineRead}
use Rattle.outline.specs.Outline.{DataFound}

-- behind the text's end there is no line
pub none_behind : (text : List ℕ) {at : ℕ} → length text ≤ at → filled_lines (drop at text) ≡ []
unfolding filled_lines fields_of split_blank split
none_behind text h = rw (drop_of_length-le text h) refl

-- no line before `at` is `\data\`
pub record Looking (text : List ℕ) (at : ℕ) : Type 0 where
  pub within : at ≤ length text
  pub body : behind_data (filled_lines (drop at text)) ≡ body_of text

pub looking_start : (text : List ℕ) → Looking text 0
unfolding body_of
looking_start text = record { within = omega arith; body = refl }

module _ {text : List ℕ} {at : ℕ} (l : Looking text at) where
  -- there is no further line
  pub found_none : filled_lines (drop at text) ≡ [] → DataFound text (length text)
  unfolding behind_data
  found_none e = record { within = omega arith; body = none_behind text {at = length text} (omega arith) ∙ sym (ap behind_data e) ∙ l.body }

  module _ {places : List ℕ} {line : Line} (r : LineRead text at places line) where
    pub found_here : is_mark data_mark r.fields ≡ true → DataFound text line.next
    unfolding behind_data
    found_here e =
        let k : behind_data (r.fields ∷ filled_lines (drop line.next text)) ≡ filled_lines (drop line.next text) = rw e in
        record { within = r.within; body = sym k ∙ sym (ap behind_data r.is) ∙ l.body }

    pub looking_on : is_mark data_mark r.fields ≡ false → Looking text line.next
    unfolding behind_data
    looking_on e =
        let k : behind_data (r.fields ∷ filled_lines (drop line.next text)) ≡ behind_data (filled_lines (drop line.next text)) = rw e in
        record { within = r.within; body = sym k ∙ sym (ap behind_data r.is) ∙ l.body }
