-- One n-gram more: what it adds is carried from those that are left to what is known.
use Prim.Native.Nat.{ℕ}
use mathlib.Core.Path.{◌≡◌, refl, sym, ◌∙◌}
use mathlib.Core.Bool.{Bool, true, false, not, ◌&&◌, and_assoc}
use mathlib.Core.List.{List, ◌∷◌}
use borrow.Author.Tests.{not-true}
use lib.IntN.{ℤ}
use lib.ListN.{length, take}
use Rattle.laws.specs.Lists.{all, keep}
use Rattle.laws.proofs.Tests.{both}
use Rattle.meaning.specs.Book.{is_score, is_weight}
use Rattle.book.specs.Survey.{with_line, survey_from, tally_size, with_kind, tally_from, gram_count}
use Rattle.book.specs.Grams.{with_gram, grams_from}
use Rattle.book.proofs.Counts.{gram_counted}
use Rattle.arpa.specs.File.{Ngram, is_unknown}
use Rattle.arpa.specs.Import.{is_passed_over, is_imported}
use Rattle.thousandths.specs.Rounded.{Rounded}
use Rattle.ngram_lines.specs.declared.Row.{Row}
use Rattle.ngram_lines.specs.declared.Gram.{Gram}
use Rattle.ngram_lines.specs.declared.Gram.TheVariants.{PassedOver, Unknown, Line}
use Rattle.ngram_lines.specs.Gram.{RowIs, GramIs}
use Rattle.arpa_model.specs.declared.model.Model.{Model}
use Rattle.arpa_model.specs.Model.{are_known_in, with_unknown, NotedAs, Carried}

pub carried_none : (list : List ℕ) (gs : List Ngram) (m : Model) (index tally : List ℕ) → Carried list gs m index tally gs m index tally
carried_none list gs m index tally = record { known_is = refl; ranged_is = refl; unseen_is = λ h u. refl; survey_is = λ h. refl; tally_is = λ h. refl; index_is = λ h. refl }

-- the value of `<unk>` alone is asked among those of its kind
swap : (a s x y : Bool) → (a && s) && (x && y) ≡ a && (x && (s && y))
swap false s x y = refl
swap true false false y = refl
swap true false true y = refl
swap true true x y = refl

-- those of a line before the others of its kind
join : (a s x y : Bool) → (a && s) && (x && y) ≡ a && ((s && x) && y)
join false s x y = refl
join true false x y = refl
join true true x y = refl

-- an n-gram that becomes a line is not `<unk>` alone
line_known : (g : Ngram) → is_imported g ≡ true → is_unknown g ≡ false
unfolding is_imported
line_known g h = not-true (is_unknown g) (both (not (is_passed_over g)) (not (is_unknown g)) h).1

module _ {list : List ℕ} {gs₀ : List Ngram} {m₀ : Model} {index₀ tally₀ : List ℕ} {g : Ngram} {gs : List Ngram} {m : Model} {index tally : List ℕ}
    (c : Carried list gs₀ m₀ index₀ tally₀ (g ∷ gs) m index tally) where
  carried_over : is_imported g ≡ false → is_unknown g ≡ false → Carried list gs₀ m₀ index₀ tally₀ gs m index tally
  carried_over i k = record {
    known_is = rw i at c.known_is;
    ranged_is = rw (i, k) at c.ranged_is;
    unseen_is = λ h u. rw k at (c.unseen_is h u);
    survey_is = λ h. rw i at (c.survey_is h);
    tally_is = λ h. rw i at (c.tally_is h);
    index_is = λ h. rw i at (c.index_is h);
  }

  carried_unknown : (u : ℤ) → is_imported g ≡ false → is_unknown g ≡ true → Rounded g.score u → Carried list gs₀ m₀ index₀ tally₀ gs (with_unknown m u) index tally
  unfolding with_unknown
  carried_unknown u i k r =
      let first : m.ranged && is_score u ≡ true → (m.ranged ≡ true) × (is_score u ≡ true) = both m.ranged (is_score u) in
      record {
        known_is = rw i at c.known_is;
        ranged_is = swap m.ranged (is_score u) (all (λ g. is_score g.score && is_weight g.weight) (keep is_imported gs)) (all (λ g. is_score g.score) (keep is_unknown gs)) ∙ rw r.in_range (rw (i, k) at c.ranged_is);
        unseen_is = λ h v. rw (r.same (sym r.in_range ∙ (first h).1)) (rw k at (c.unseen_is (first h).0 v));
        survey_is = λ h. rw i at (c.survey_is (first h).0);
        tally_is = λ h. rw i at (c.tally_is (first h).0);
        index_is = λ h. rw i at (c.index_is (first h).0);
      }

  carried_line : (row : List ℤ) (made : Row) → length tally ≡ tally_size → RowIs list g row made
      → Carried list gs₀ m₀ index₀ tally₀ gs (record { survey = with_line m.survey (take made.size row); known = m.known && made.known; ranged = m.ranged && made.ranged; unseen = m.unseen })
      (with_gram index (gram_count tally) (take made.size row)) (with_kind tally (take made.size row))
  unfolding survey_from tally_from grams_from
  carried_line row made long r =
      let i = r.imported in
      let k = line_known g i in
      let first : m.ranged && made.ranged ≡ true → (m.ranged ≡ true) × (made.ranged ≡ true) = both m.ranged made.ranged in
      record {
        known_is = and_assoc m.known made.known (are_known_in list gs) ∙ rw r.known_is (rw i at c.known_is);
        ranged_is = join m.ranged made.ranged (all (λ g. is_score g.score && is_weight g.weight) (keep is_imported gs)) (all (λ g. is_score g.score) (keep is_unknown gs)) ∙ rw r.ranged_is (rw (i, k) at c.ranged_is);
        unseen_is = λ h v. rw k at (c.unseen_is (first h).0 v);
        survey_is = λ h. rw (r.line (first h).1) (rw i at (c.survey_is (first h).0));
        tally_is = λ h. rw (r.line (first h).1) (rw i at (c.tally_is (first h).0));
        index_is = λ h. rw (gram_counted tally (take made.size row) long, r.line (first h).1) (rw i at (c.index_is (first h).0));
      }

  -- the n-gram as code has noted it
  pub carried_gram : (row : List ℤ) (gram : Gram) {m' : Model} {index' tally' : List ℕ} → length tally ≡ tally_size → GramIs list g row gram → NotedAs m gram row index tally m' index' tally'
      → Carried list gs₀ m₀ index₀ tally₀ gs m' index' tally'
  carried_gram row PassedOver long is n = rw (n.model_is, n.tally_is, n.index_is) (carried_over is.0 is.1)
  carried_gram row (Unknown u) long is n = rw (n.model_is, n.tally_is, n.index_is) (carried_unknown u is.0 is.1 is.2)
  carried_gram row (Line made) long is n = rw (n.model_is, n.tally_is, n.index_is) (carried_line row made long is)
