-- The lines of a text that are not blank, taken apart in one recursion, which is that of a scanner, and that they are those which the
-- definition splits the text into: into lines by the byte 10 first, and then each line into fields by its blanks.
use Prim.Native.Nat.{ℕ, suc, ◌+◌, ◌<◌}
use mathlib.Core.Path.{◌≡◌, refl, sym, ap, subst, ◌∙◌}
use mathlib.Core.Bool.{Bool, true, false, cond}
use mathlib.Core.List.{List, [], ◌∷◌, ◌++◌, append_assoc, append-nil, map}
use native.Mathlib.Omega.{arith}
use lib.Dec.{eqb, ltb}
use lib.ListN.{length, take, drop, get_or, drop_of_length-le}
use lib.Seq.{length-take-le}
use borrow.Author.Tests.{eqb-true, ltb-true, ltb-false, not-true}
use Rattle.laws.specs.Lists.{keep}
use Rattle.laws.proofs.Tests.{by_test}
use Rattle.laws.proofs.Lists.{drop_next}
use Rattle.meaning.specs.Numerals.{newline, split}
use Rattle.arpa.specs.Lines.{is_blank, is_filled, split_blank, fields_of, filled_lines}
use Rattle.tokens.specs.Scan.{run_length, is_space, is_part}
use Rattle.tokens.proofs.Runs.{run_within}

-- a list put before the others, unless it is empty
abbrev pub add_filled : {A : Type 0} → List A → List (List A) → List (List A)
add_filled xs xss = cond (is_filled xs) (xs ∷ xss) xss

module _ {A : Type 0} where
  pub add_some : (xs : List A) (xss : List (List A)) → 0 < length xs → add_filled xs xss ≡ xs ∷ xss
  add_some [] xss h = absurd (omega arith)
  add_some (x ∷ xs) xss h = refl

  pub add_none : (xs : List A) (xss : List (List A)) → length xs ≡ 0 → add_filled xs xss ≡ xss
  add_none [] xss h = refl
  add_none (x ∷ xs) xss h = absurd (omega arith)

-- what stands before the first blank or byte 10, the further fields of that line, and the further lines that are not blank
pub record Cut : Type 0 where
  pub field : List ℕ
  pub fields : List (List ℕ)
  pub lines : List (List (List ℕ))

-- the fields of the first line
abbrev pub line : Cut → List (List ℕ)
line c = add_filled c.field c.fields

abbrev pub cut : List ℕ → Cut
cut [] = record { field = []; fields = []; lines = [] }
cut (b ∷ t) =
    cond (eqb b newline) (record { field = []; fields = []; lines = add_filled (line (cut t)) (cut t).lines })
    (cond (is_blank b) (record { field = []; fields = line (cut t); lines = (cut t).lines })
    (record { field = b ∷ (cut t).field; fields = (cut t).fields; lines = (cut t).lines }))

-- the lines that are not blank of a text that stands behind these fields
abbrev pub filled_after : List (List ℕ) → List ℕ → List (List (List ℕ))
filled_after fields t = add_filled (fields ++ line (cut t)) (cut t).lines

-- a byte is 10, or a blank, or of a field
data Sort (b : ℕ) : Type 0 where
  ten : b ≡ 10 → Sort b
  blank : eqb b newline ≡ false → is_blank b ≡ true → Sort b
  other : eqb b newline ≡ false → is_blank b ≡ false → Sort b

sort : (b : ℕ) → Sort b
sort b = first (eqb b newline) refl (is_blank b) refl
  where
    first : (x : Bool) → eqb b newline ≡ x → (y : Bool) → is_blank b ≡ y → Sort b
    first true e y f = Sort.ten (eqb-true b 10 e)
    first false e true f = Sort.blank e f
    first false e false f = Sort.other e f

-- ════ it is what the definition splits the text into

record Agrees (t : List ℕ) (c : Cut) : Type 0 where
  first : List ℕ
  rest : List (List ℕ)
  parts : List (List ℕ)
  splits : split newline t ≡ first ∷ rest
  parted : split_blank first ≡ c.field ∷ parts
  fields : keep is_filled parts ≡ c.fields
  lines : keep is_filled (map fields_of rest) ≡ c.lines

-- the fields of its first line
first_fields : {t : List ℕ} {c : Cut} (a : Agrees t c) → fields_of a.first ≡ line c
unfolding fields_of
first_fields {t} {c} a = ap (keep is_filled) a.parted ∙ ap (add_filled c.field) a.fields

all_lines : {t : List ℕ} {c : Cut} (a : Agrees t c) → keep is_filled (map fields_of (a.first ∷ a.rest)) ≡ add_filled (line c) c.lines
all_lines {t} {c} a = rw (first_fields a) (ap (add_filled (line c)) a.lines)

agrees : (t : List ℕ) → Agrees t (cut t)
unfolding split split_blank
agrees [] = record { first = []; rest = []; parts = []; splits = refl; parted = refl; fields = refl; lines = refl }
agrees (b ∷ t) = by (sort b) (agrees t)
  where
    by : Sort b → Agrees t (cut t) → Agrees (b ∷ t) (cut (b ∷ t))
    by (Sort.ten e) a =
        rw e
        (record {
          first = [];
          rest = a.first ∷ a.rest;
          parts = [];
          splits = ap (λ (l : List (List ℕ)). [] ∷ l) a.splits;
          parted = refl;
          fields = refl;
          lines = all_lines a;
        })
    by (Sort.blank e f) a =
        record {
          first = b ∷ a.first;
          rest = a.rest;
          parts = (cut t).field ∷ a.parts;
          splits = rw (e, a.splits);
          parted = rw (e, f) (ap (λ (l : List (List ℕ)). [] ∷ l) a.parted);
          fields = rw (e, f) (ap (add_filled (cut t).field) a.fields);
          lines = rw (e, f) a.lines;
        }
    by (Sort.other e f) a =
        record {
          first = b ∷ a.first;
          rest = a.rest;
          parts = a.parts;
          splits = rw (e, a.splits);
          parted = rw (e, f, a.parted);
          fields = rw (e, f) a.fields;
          lines = rw (e, f) a.lines;
        }

pub filled_start : (t : List ℕ) → filled_lines t ≡ filled_after [] t
unfolding filled_lines
filled_start t = let a = agrees t in ap (λ (l : List (List ℕ)). keep is_filled (map fields_of l)) a.splits ∙ all_lines a

-- ════ what a scanner passes over

pub part_is : (b : ℕ) → eqb b newline ≡ false → is_blank b ≡ false → is_part b ≡ true
part_is b e f = rw (f, e)

-- no byte of the run
no_run : (test : ℕ → Bool) (b : ℕ) (t : List ℕ) → test b ≡ false → 0 ≡ run_length test (b ∷ t)
no_run test b t e = rw e

-- blanks and bytes 10 before a line
after_space : (t : List ℕ) → filled_after [] (drop (run_length is_space t) t) ≡ filled_after [] t
after_space [] = refl
after_space (b ∷ t) = by (sort b) (after_space t)
  where
    by : Sort b → filled_after [] (drop (run_length is_space t) t) ≡ filled_after [] t → filled_after [] (drop (run_length is_space (b ∷ t)) (b ∷ t)) ≡ filled_after [] (b ∷ t)
    by (Sort.ten e) ih = rw e ih
    by (Sort.blank e f) ih = rw (e, f) ih
    by (Sort.other e f) ih = ap (λ (n : ℕ). filled_after [] (drop n (b ∷ t))) (sym (no_run is_space b t (not-true _ (part_is b e f))))

pub filled_space : (t : List ℕ) → filled_lines (drop (run_length is_space t) t) ≡ filled_lines t
filled_space t = filled_start (drop (run_length is_space t) t) ∙ after_space t ∙ sym (filled_start t)

-- blanks in a line
pub filled_blanks : (fields : List (List ℕ)) (t : List ℕ) → filled_after fields (drop (run_length is_blank t) t) ≡ filled_after fields t
filled_blanks fields [] = refl
filled_blanks fields (b ∷ t) = by (sort b) (filled_blanks fields t)
  where
    by : Sort b → filled_after fields (drop (run_length is_blank t) t) ≡ filled_after fields t → filled_after fields (drop (run_length is_blank (b ∷ t)) (b ∷ t)) ≡ filled_after fields (b ∷ t)
    by (Sort.ten e) ih = rw e
    by (Sort.blank e f) ih = rw (e, f) ih
    by (Sort.other e f) ih = ap (λ (n : ℕ). filled_after fields (drop n (b ∷ t))) (sym (no_run is_blank b t f))

-- a field
record FieldCut (t : List ℕ) (n : ℕ) : Type 0 where
  field : (cut t).field ≡ take n t
  fields : (cut t).fields ≡ line (cut (drop n t))
  lines : (cut t).lines ≡ (cut (drop n t)).lines

field_cut : (t : List ℕ) → FieldCut t (run_length is_part t)
field_cut [] = record { field = refl; fields = refl; lines = refl }
field_cut (b ∷ t) = by (sort b) (field_cut t)
  where
    by : Sort b → FieldCut t (run_length is_part t) → FieldCut (b ∷ t) (run_length is_part (b ∷ t))
    by (Sort.ten e) ih = rw e (record { field = refl; fields = refl; lines = refl })
    by (Sort.blank e f) ih =
        subst (FieldCut (b ∷ t)) (no_run is_part b t (rw f)) (record { field = rw (e, f); fields = rw (e, f); lines = refl })
    by (Sort.other e f) ih =
        let z : suc (run_length is_part t) ≡ run_length is_part (b ∷ t) = rw (part_is b e f) in
        subst (FieldCut (b ∷ t)) z
        (record { field = rw (e, f) (ap (λ (l : List ℕ). b ∷ l) ih.field); fields = rw (e, f) ih.fields; lines = rw (e, f) ih.lines })

pub filled_field : (fields : List (List ℕ)) (t : List ℕ) → 0 < run_length is_part t
    → filled_after fields t ≡ filled_after (fields ++ (take (run_length is_part t) t ∷ [])) (drop (run_length is_part t) t)
filled_field fields t h =
    let c = field_cut t in
    let n = run_length is_part t in
    let e : line (cut t) ≡ take n t ∷ line (cut (drop n t)) =
    ap (λ (f : List ℕ). add_filled f (cut t).fields) c.field ∙ ap (add_filled (take n t)) c.fields ∙ add_some (take n t) (line (cut (drop n t))) (omega (arith, length-take-le n t (run_within is_part t))) in
    ap (λ (l : List (List ℕ)). add_filled (fields ++ l) (cut t).lines) e
    ∙ ap (λ (l : List (List (List ℕ))). add_filled (fields ++ (take n t ∷ line (cut (drop n t)))) l) c.lines
    ∙ ap (λ (l : List (List ℕ)). add_filled l (cut (drop n t)).lines) (sym (append_assoc fields (take n t ∷ []) (line (cut (drop n t)))))

-- the end of a line, or of the text
filled_newline : (fields : List (List ℕ)) (t : List ℕ) → filled_after fields (newline ∷ t) ≡ add_filled fields (filled_lines (newline ∷ t))
filled_newline fields t = rw (append-nil, filled_start (newline ∷ t))

filled_nothing : (fields : List (List ℕ)) → filled_after fields [] ≡ add_filled fields (filled_lines [])
filled_nothing fields = rw (append-nil, filled_start [])

pub filled_end : (fields : List (List ℕ)) (t : List ℕ) (i : ℕ) → (i < length t → get_or t i 0 ≡ 10) → filled_after fields (drop i t) ≡ add_filled fields (filled_lines (drop i t))
filled_end fields t i h =
    by_test (ltb i (length t))
    (λ l. let k = ltb-true i (length t) l in rw (drop_next t i 0 k, h k) (filled_newline fields (drop (i + 1) t)))
    (λ l. rw (drop_of_length-le t (ltb-false i (length t) l)) (filled_nothing fields))
