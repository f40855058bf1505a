-- One line more of the sections: an n-gram, the next section, or the end.
use Rattle.std.proofs.Common.{Option, Some, None}
use Prim.Native.Nat.{ℕ, suc, ◌+◌, ◌*◌, ◌≤◌}
use mathlib.Core.Path.{◌≡◌, refl, sym, ap, ◌∙◌}
use mathlib.Core.Bool.{true, ◌&&◌}
use mathlib.Core.List.{List, [], ◌∷◌}
use native.Mathlib.Omega.{arith}
use native.Mathlib.Numerals.{add-one}
use borrow.Author.Tests.{eq-eqb, ne_eqb, leb-true}
use lib.Dec.{eqb, leb}
use lib.IntN.{ℤ}
use lib.ListN.{length, drop}
use Rattle.laws.specs.Lists.{count}
use Rattle.laws.proofs.Tests.{both, by_test}
use Rattle.arpa.specs.Lines.{filled_lines}
use Rattle.arpa.specs.File.{is_gram_line, ngram_of}
use Rattle.arpa.proofs.Room.{is_long, long_few}
use Rattle.tokens.specs.declared.scan.Line.{Line}
use Rattle.tokens.specs.Scan.{LineRead, NextRead}
use Rattle.outline.proofs.Noted.{none_read}
use Rattle.tokens.specs.Fields.{FieldsAt}
use Rattle.outline.specs.Outline.{walked, is_walk}
use Rattle.ngram_lines.specs.declared.Gram.{Gram}
use Rattle.ngram_lines.specs.Gram.{GramRead, GramIs}
use Rattle.arpa_model.specs.declared.walk.Cursor.{Cursor}
use Rattle.arpa_model.specs.declared.walk.Met.{Met}
use Rattle.arpa_model.specs.Walk.{ngrams_at, MetIs, NextIs}

-- ---- of lines

-- an n-gram, with those behind it
pub record NgramFirst (top order : ℕ) (fields : List (List ℕ)) (lines : List (List (List ℕ))) : Type 0 where
  pub begun : 1 ≤ order
  pub is : is_gram_line top order fields ≡ true
  pub walk : is_walk top order lines ≡ true
  pub ngrams : walked top order (fields ∷ lines) ≡ ngram_of order fields ∷ walked top order lines

module _ (top order : ℕ) (fields : List (List ℕ)) (lines : List (List (List ℕ))) (w : is_walk top order (fields ∷ lines) ≡ true) where
  ngram_first : (length fields ≡ 1 → ⊥) → NgramFirst top order fields lines
  unfolding is_walk walked
  ngram_first n =
      let e = ne_eqb (length fields) 1 n in
      let a = both (leb 1 order && is_gram_line top order fields) (is_walk top order lines) (rw e at w) in
      let b = both (leb 1 order) (is_gram_line top order fields) a.0 in
      record { begun = leb-true 1 order b.0; is = b.1; walk = a.1; ngrams = rw e }

  end_first : length fields ≡ 1 → order ≡ top → walked top order (fields ∷ lines) ≡ []
  unfolding walked
  end_first one e = rw (eq-eqb (length fields) 1 one, eq-eqb order top e)

  section_first : length fields ≡ 1 → (order ≡ top → ⊥) → (is_walk top (order + 1) lines ≡ true) × (walked top order (fields ∷ lines) ≡ walked top (order + 1) lines)
  unfolding is_walk walked
  section_first one n =
      let e = eq-eqb (length fields) 1 one in
      let f = ne_eqb order top n in
      rw add-one (rw (e, f) at w, rw (e, f) refl)

-- ---- of a text

module _ {text : List ℕ} {at : ℕ} {places : List ℕ} {line : Line} (r : LineRead text at places line) (top order : ℕ) (w : is_walk top order (filled_lines (drop at text)) ≡ true) where
  walk_here : is_walk top order (r.fields ∷ filled_lines (drop line.next text)) ≡ true
  walk_here = rw (sym r.is) w

  pub ngram_read : (line.count ≡ 1 → ⊥) → NgramFirst top order r.fields (filled_lines (drop line.next text))
  ngram_read n = ngram_first top order r.fields (filled_lines (drop line.next text)) walk_here (λ e. n (sym r.long ∙ e))

  pub lines_here : walked top order (filled_lines (drop at text)) ≡ walked top order (r.fields ∷ filled_lines (drop line.next text))
  lines_here = ap (walked top order) r.is

  pub end_read : line.count ≡ 1 → order ≡ top → walked top order (filled_lines (drop at text)) ≡ []
  end_read one e = lines_here ∙ end_first top order r.fields (filled_lines (drop line.next text)) walk_here (r.long ∙ one) e

  pub section_read : line.count ≡ 1 → (order ≡ top → ⊥)
      → (is_walk top (order + 1) (filled_lines (drop line.next text)) ≡ true) × (walked top order (filled_lines (drop at text)) ≡ walked top (order + 1) (filled_lines (drop line.next text)))
  section_read one n =
      let s = section_first top order r.fields (filled_lines (drop line.next text)) walk_here (r.long ∙ one) n in
      (s.0, lines_here ∙ s.1)

-- where there is no line there is nothing
pub ngrams_over : (text : List ℕ) (top order at : ℕ) (places : List ℕ) (next : Option Line) → ((line : Line) → next ≡ Some line → ⊥) → NextRead text at places next → walked top order (filled_lines (drop at text)) ≡ []
unfolding walked
ngrams_over text top order at places next h r = rw (none_read text at places next h r) refl

-- nor is there an n-gram where none was met
pub none_met : (text list : List ℕ) (c : Cursor) (row : List ℤ) (next : Option Met) → ((met : Met) → next ≡ Some met → ⊥) → NextIs text list c row next → ngrams_at text c ≡ []
none_met text list c row None h n = n
none_met text list c row (Some met) h n = absurd (h met refl)

-- ---- a walk from one place to another, in which sections began and no n-gram was met

pub record Going (text : List ℕ) (top order₀ at₀ : ℕ) (places : List ℕ) (order at : ℕ) : Type 0 where
  pub within : at ≤ length text
  pub order_to : order ≤ top
  pub walk : is_walk top order (filled_lines (drop at text)) ≡ true
  pub same : walked top order (filled_lines (drop at text)) ≡ walked top order₀ (filled_lines (drop at₀ text))
  pub long : length places ≡ 10
  pub from : at₀ ≤ at

module _ {text : List ℕ} {top order₀ at₀ : ℕ} {places₀ : List ℕ} {order at : ℕ} (g : Going text top order₀ at₀ places₀ order at) {places : List ℕ} {line : Line} (r : LineRead text at places line) where
  -- an n-gram's line was read
  pub going_gram : (line.count ≡ 1 → ⊥) → top ≤ 3 → GramRead text places line.count order
  going_gram n few =
      let b = ngram_read r top order g.walk n in
      record { fields = r.fields; at = record { long = r.long; noted = r.noted }; top = top; is = b.is; order_from = b.begun; order_to = omega (arith, g.order_to) }

  -- and what becomes of it is known
  pub going_met : (list : List ℕ) (row : List ℤ) (gram : Gram) → (line.count ≡ 1 → ⊥) → top ≤ 3
      → ((fields : List (List ℕ)) (top : ℕ) → FieldsAt text places line.count fields → is_gram_line top order fields ≡ true → GramIs list (ngram_of order fields) row gram)
      → MetIs text list (record { top = top; at = at₀; order = order₀ }) row (record { gram = gram; cursor = record { top = top; at = line.next; order = order } })
  unfolding ngrams_at
  going_met list row gram n few said =
      let b = ngram_read r top order g.walk n in
      record {
        ngram = ngram_of order r.fields;
        is = said r.fields top (record { long = r.long; noted = r.noted }) b.is;
        first = sym g.same ∙ lines_here r top order g.walk ∙ b.ngrams;
        walking = record { within = r.within; few = few; order_to = g.order_to; walk = b.walk };
        later = omega (arith, g.from, r.later);
      }

  -- the next section was begun
  pub going_on : length places ≡ length places₀ → line.count ≡ 1 → (order ≡ top → ⊥) → Going text top order₀ at₀ places (order + 1) line.next
  going_on l one n =
      let s = section_read r top order g.walk one n in
      record { within = r.within; order_to = omega (arith, g.order_to, n); walk = s.0; same = sym s.1 ∙ g.same; long = l ∙ g.long; from = omega (arith, g.from, r.later) }

-- ---- how many there are

walked_few : (top order : ℕ) (lines : List (List (List ℕ))) → length (walked top order lines) ≤ count is_long lines
unfolding walked
walked_few top order [] = omega arith
walked_few top order (line ∷ lines) =
    by_test (eqb (length line) 1)
    (λ t. by_test (eqb order top) (λ s. rw (t, s) (omega arith)) (λ f. rw (t, f) (walked_few top (suc order) lines)))
    (λ f. let ih = walked_few top order lines in rw f (omega arith))

-- an n-gram takes four bytes
pub ngrams_few : (top order : ℕ) (text : List ℕ) → 4 * length (walked top order (filled_lines text)) ≤ suc (length text)
ngrams_few top order text = omega (arith, walked_few top order (filled_lines text), long_few text)
