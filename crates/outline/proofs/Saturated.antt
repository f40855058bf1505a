-- The counts as code reads them serve as those of the text; and one count line more.
use Prim.Native.Nat.{ℕ, zero, suc, ◌+◌, ◌-◌, ◌≤◌, ◌<◌}
use mathlib.Core.Path.{◌≡◌, refl, ap, ◌∙◌}
use mathlib.Core.Bool.{true, false, ◌&&◌, and-false}
use mathlib.Core.List.{List, [], ◌∷◌, ◌++◌, append_assoc, append-nil}
use mathlib.Core.Logic.{inl, inr, ⊎_elim}
use native.Mathlib.Omega.{arith}
use native.Mathlib.Numerals.{add-one}
use lib.Dec.{leb}
use lib.ListN.{length, get_or, take, drop, length-drop}
use lib.Seq.{drop-drop}
use borrow.Author.Tests.{leb-true, leb-false, lt-leb}
use Rattle.laws.specs.Lists.{all}
use Rattle.laws.proofs.Lists.{take_next}
use Rattle.laws.proofs.Tests.{both, clash, by_test}
use Rattle.arpa.specs.File.{grams_mark, is_mark, is_count_line, count_of, counts_from, highest_order, is_gram_line, are_sections, ngrams_from}
use Rattle.thousandths.specs.Digits.{CountIs}
use Rattle.outline.specs.Outline.{lines_bound, Saturated, AreSaturated, Counting}

-- a count is read so
pub count_saturated : {m r : ℕ} → CountIs m r → Saturated m r
count_saturated {m} {r} e = by_test (leb m 18_446_744_073_709_551_615)
    (λ t. let l = leb-true m 18_446_744_073_709_551_615 t in inl (omega arith))
    (λ f. let l = leb-false m 18_446_744_073_709_551_615 f in inr (omega arith, omega arith))

pub saturated_length : (ms rs : List ℕ) → AreSaturated ms rs → length rs ≡ length ms
saturated_length [] [] h = refl
saturated_length [] (r ∷ rs) h = absurd h
saturated_length (m ∷ ms) [] h = absurd h
saturated_length (m ∷ ms) (r ∷ rs) h = ap suc (saturated_length ms rs h.1)

pub saturated_++ : (ms rs : List ℕ) (m r : ℕ) → AreSaturated ms rs → Saturated m r → AreSaturated (ms ++ (m ∷ [])) (rs ++ (r ∷ []))
saturated_++ [] [] m r h g = (g, tt)
saturated_++ [] (r' ∷ rs) m r h g = absurd h
saturated_++ (m' ∷ ms) [] m r h g = absurd h
saturated_++ (m' ∷ ms) (r' ∷ rs) m r h g = (h.0, saturated_++ ms rs m r h.1 g)

-- a count that is larger than the lines refuses them, whatever it is
module _ (top : ℕ) where
  pub same_sections : (n : ℕ) (ms rs : List ℕ) (lines : List (List (List ℕ))) → length lines ≤ lines_bound → AreSaturated ms rs → are_sections top n rs lines ≡ are_sections top n ms lines
  unfolding are_sections
  same_sections n [] [] lines l h = refl
  same_sections n [] (r ∷ rs) lines l h = absurd h
  same_sections n (m ∷ ms) [] lines l h = absurd h
  same_sections n (m ∷ ms) (r ∷ rs) [] l h = refl
  same_sections n (m ∷ ms) (r ∷ rs) (line ∷ lines) l h =
      ⊎_elim
      (λ (e : r ≡ m). rw (e, same_sections (suc n) ms rs (drop m lines) (rw length-drop (omega arith)) h.1) refl)
      (λ (b : (lines_bound < r) × (lines_bound < m)). rw (lt-leb r (length lines) (omega arith), lt-leb m (length lines) (omega arith), and-false) refl)
      h.0

  pub same_ngrams : (n : ℕ) (ms rs : List ℕ) (lines : List (List (List ℕ))) → length lines ≤ lines_bound → AreSaturated ms rs → are_sections top n rs lines ≡ true
      → ngrams_from n rs lines ≡ ngrams_from n ms lines
  unfolding are_sections ngrams_from
  same_ngrams n [] [] lines l h t = refl
  same_ngrams n [] (r ∷ rs) lines l h t = absurd h
  same_ngrams n (m ∷ ms) [] lines l h t = absurd h
  same_ngrams n (m ∷ ms) (r ∷ rs) [] l h t = clash t refl
  same_ngrams n (m ∷ ms) (r ∷ rs) (line ∷ lines) l h t =
      let b = both (is_mark (grams_mark n) line && leb r (length lines) && all (is_gram_line top n) (take r lines)) (are_sections top (suc n) rs (drop r lines)) t in
      let k = leb-true r (length lines) (both (is_mark (grams_mark n) line) (leb r (length lines)) (both (is_mark (grams_mark n) line && leb r (length lines)) (all (is_gram_line top n) (take r lines)) b.0).0).1 in
      ⊎_elim
      (λ (e : r ≡ m). rw (e, same_ngrams (suc n) ms rs (drop m lines) (rw length-drop (omega arith)) h.1 (rw e at b.1)) refl)
      (λ (z : (lines_bound < r) × (lines_bound < m)). absurd (omega arith))
      h.0

-- ---- the count lines

module _ (body : List (List (List ℕ))) (counts : List ℕ) where
  pub counting_none : Counting body body counts 0
  counting_none = record { stated = []; are = tt; from = refl; rest = refl }

  -- one more of them, which is put as count n
  pub counting_more : (n : ℕ) (line : List (List ℕ)) (lines : List (List (List ℕ))) (new : List ℕ) → n < highest_order → n < length new
      → take n new ≡ take n counts → is_count_line (n + 1) line ≡ true → Saturated (count_of line) (get_or new n 0)
      → Counting body (line ∷ lines) counts n → Counting body lines new (n + 1)
  unfolding counts_from
  counting_more n line lines new l long kept is s c = record {
    stated = c.stated ++ (count_of line ∷ []);
    are = rw (take_next new n 0 long, kept) (saturated_++ c.stated (take n counts) (count_of line) (get_or new n 0) c.are s);
    from =
        let e : highest_order - n ≡ suc (highest_order - (n + 1)) = omega arith in
        let k : counts_from (highest_order - n) (n + 1) (line ∷ lines) ≡ count_of line ∷ counts_from (highest_order - (n + 1)) (n + 1 + 1) lines = rw (e, is, add-one (n + 1)) refl in
        c.from ∙ rw (k, append_assoc) refl;
    rest = ap (drop 1) c.rest ∙ drop-drop 1 n body;
  }

  -- there are no more of them
  pub counting_end : (n : ℕ) (lines : List (List (List ℕ))) → n ≤ highest_order → counts_from (highest_order - n) (n + 1) lines ≡ [] → Counting body lines counts n
      → AreSaturated (counts_from highest_order 1 body) (take n counts)
  counting_end n lines l e c = rw (c.from, e, append-nil) c.are

pub counts_none : (most n : ℕ) → counts_from most n [] ≡ []
unfolding counts_from
counts_none zero n = refl
counts_none (suc most) n = refl

pub counts_stop : (most n : ℕ) (line : List (List ℕ)) (lines : List (List (List ℕ))) → is_count_line n line ≡ false → counts_from most n (line ∷ lines) ≡ []
unfolding counts_from
counts_stop zero n line lines h = refl
counts_stop (suc most) n line lines h = rw h
