-- What becomes of an n-gram, by the tests that were made of it.
use Prim.Native.Nat.{ℕ, ◌≤◌}
use mathlib.Core.Path.{◌≡◌, refl, sym, ap, ◌∙◌}
use mathlib.Core.Bool.{Bool, true, false, ◌&&◌}
use mathlib.Core.List.{List, [], ◌∷◌, map}
use native.Mathlib.Omega.{arith}
use lib.IntN.{ℤ}
use lib.ListN.{length, take}
use lib.Seq.{length-take-le}
use Rattle.laws.proofs.Lists.{eq_list_is}
use Rattle.laws.proofs.Tests.{both, clash, is_false}
use Rattle.meaning.specs.Book.{is_score}
use Rattle.arpa.specs.Lines.{eq_bytes}
use Rattle.arpa.specs.File.{Ngram, unknown_word, is_unknown}
use Rattle.arpa.specs.Import.{is_passed_over, is_imported, line_of, imported_line}
use Rattle.arpa.specs.Words.{word_number}
use Rattle.arpa.proofs.Spelled.{bytes_same}
use Rattle.thousandths.specs.Rounded.{Rounded}
use Rattle.ngram_lines.specs.declared.Words.{Words}
use Rattle.ngram_lines.specs.Gram.{numbers_of, WordsAre, RowIs}

module _ (g : Ngram) where
  unknown_kept : is_unknown g ≡ true → is_passed_over g ≡ false
  unfolding is_passed_over
  unknown_kept t = rw (eq_list_is eq_bytes bytes_same g.words (unknown_word ∷ []) t)

  pub passed_is : is_passed_over g ≡ true → (is_imported g ≡ false) × (is_unknown g ≡ false)
  unfolding is_imported
  passed_is t = (rw t, is_false (λ u. clash t (unknown_kept u)))

  pub unknown_is : is_unknown g ≡ true → is_imported g ≡ false
  unfolding is_imported
  unknown_is t = rw (t, unknown_kept t)

  kept_is : is_passed_over g ≡ false → is_unknown g ≡ false → is_imported g ≡ true
  unfolding is_imported
  kept_is f u = rw (f, u)

-- how long a line is does not depend on its values
line_long : (words : List ℕ) (s k s' k' : ℤ) → (length (line_of words s k) ≡ length (line_of words s' k')) × (length (line_of words s k) ≤ 5)
line_long [] s k s' k' = (refl, omega arith)
line_long (y ∷ []) s k s' k' = (refl, omega arith)
line_long (w ∷ y ∷ []) s k s' k' = (refl, omega arith)
line_long (v ∷ w ∷ y ∷ []) s k s' k' = (refl, omega arith)
line_long (t ∷ v ∷ w ∷ y ∷ words) s k s' k' = (refl, omega arith)

module _ (list : List ℕ) (g : Ngram) (n : ℕ) (row : List ℤ) {order : ℕ} {w : Words} {s k : ℤ} {ranged : Bool}
    (kept : is_passed_over g ≡ false) (not_unknown : is_unknown g ≡ false) (are : WordsAre list g.words order w) (score : Rounded g.score s) (weight : Rounded g.weight k)
    (in_range : ranged ≡ is_score s && is_score k) (put : take n row ≡ line_of (numbers_of order w) s k) (within : n ≤ length row) where
  put_line : take n row ≡ line_of (map (word_number list) g.words) s k
  put_line = put ∙ ap (λ (numbers : List ℕ). line_of numbers s k) are.numbers_are

  put_long : n ≡ length (line_of (map (word_number list) g.words) s k)
  put_long = sym (length-take-le n row within) ∙ ap length put_line

  ranged_as : ranged ≡ is_score g.score && is_score g.weight
  ranged_as = in_range ∙ rw (score.in_range, weight.in_range)

  pub row_is : RowIs list g row (record { size = n; known = w.known; ranged = ranged })
  unfolding imported_line
  row_is =
      let long = line_long (map (word_number list) g.words) s k g.score g.weight in
      record {
        imported = kept_is g kept not_unknown;
        not_unknown = not_unknown;
        known_is = are.known_is;
        ranged_is = ranged_as;
        within = within;
        size_is = put_long ∙ long.0;
        few = omega (arith, put_long, long.1);
        line = λ t.
            let b = both (is_score g.score) (is_score g.weight) (sym ranged_as ∙ t) in
            put_line ∙ rw (score.same b.0, weight.same b.1);
      }
