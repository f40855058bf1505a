-- The fields of a line that was read, by their places.
use Rattle.std.proofs.Common.{Option, Some, None}
use Prim.Native.Nat.{ℕ, ◌<◌}
use mathlib.Core.Path.{◌≡◌, refl}
use mathlib.Core.List.{List, []}
use native.Mathlib.Omega.{arith}
use lib.ListN.{drop, get_or}
use Rattle.arpa.specs.Lines.{filled_lines}
use Rattle.tokens.specs.declared.scan.Line.{Line}
use Rattle.tokens.specs.Scan.{field_at, FieldNoted, LineRead, NextRead}
use Rattle.tokens.specs.Fields.{FieldsAt, FieldsRead}

-- where no line was read there is none
pub none_read : (text : List ℕ) (at : ℕ) (places : List ℕ) (next : Option Line) → ((line : Line) → next ≡ Some line → ⊥) → NextRead text at places next → filled_lines (drop at text) ≡ []
none_read text at places None h r = r
none_read text at places (Some line) h r = absurd (h line refl)

module _ {text places : List ℕ} where
  pub read_fields : {at : ℕ} {line : Line} (r : LineRead text at places line) → FieldsAt text places line.count r.fields
  read_fields r = record { long = r.long; noted = r.noted }

  pub fields_read : {at : ℕ} {line : Line} → LineRead text at places line → FieldsRead text places line.count
  fields_read r = record { fields = r.fields; at = read_fields r }

  module _ {count : ℕ} (k : ℕ) (h : k < 5) (l : k < count) where
    pub field_is : {fields : List (List ℕ)} → FieldsAt text places count fields → field_at text places k ≡ get_or fields k []
    field_is f = f.noted.is k h (omega (arith, f.long))

    pub field_noted : FieldsRead text places count → FieldNoted text places k
    field_noted r = r.at.noted.part k h (omega (arith, r.at.long))
