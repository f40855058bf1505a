-- Ticket 3, "whether triple, pair, word or u supplied the final score": the score of a triple is the weights that were passed on the way to the supplier and
-- the supplier's own score (`supplied_score`); and in a book without D and U lines a triple or u supplies every word (`base_supplier`, `base_supplied`,
-- `loaded_supplied`).
use Prim.Native.Nat.{ℕ}
use mathlib.Core.Path.{◌≡◌, refl, sym, ◌∙◌}
use mathlib.Core.Bool.{true, false, cond, and-false}
use mathlib.Core.List.{List, [], ◌∷◌, map}
use lib.IntN.{ℤ, pos, ◌+ℤ◌, +ℤ_idl, +ℤ_assoc}
use Rattle.laws.specs.Lists.{all, keep}
use Rattle.laws.proofs.Tests.{by_test}
use Rattle.meaning.specs.Book.{Form, in_list, is_t, is_whole, loaded_lines, book_refusal, Gram, book_of_lines, book_of}
use Rattle.meaning.specs.Derivation.{score_or, weight, word_score, pair_score, backed_off, is_listed, supplier, suppliers, count_at, target_words, supplied_of}
use Rattle.meaning.specs.declared.Step.{Step}
use Rattle.meaning.specs.declared.Supplier.{Supplier}
use Rattle.meaning.specs.declared.Supplier.TheVariants.{Triple, Pair, Word, Unseen}
use Rattle.meaning.proofs.Judging.{listed_else, listed_same}
use Rattle.meaning.proofs.Ranges.{lines_passed}
use Rattle.theorems.proofs.Base.{OfBase, triple_of, grams_are}

-- the weights that are added before a supplier is reached: "the weight of pair v, w (0 if unlisted)", then "the weight of w (0 if unlisted)"
abbrev pub passed : List Gram → ℕ → ℕ → Supplier → ℤ
passed grams v w Triple = pos 0
passed grams v w Pair = weight grams (v ∷ w ∷ [])
passed grams v w Word = weight grams (v ∷ w ∷ []) +ℤ weight grams (w ∷ [])
passed grams v w Unseen = weight grams (v ∷ w ∷ []) +ℤ weight grams (w ∷ [])

module _ (u : ℤ) (grams : List Gram) (v w y : ℕ) where
  -- the supplier's own score: that of its line, or u. Where it supplies it is listed, so the 0 of an unlisted one is never meant
  abbrev pub own : Supplier → ℤ
  own Triple = score_or grams (pos 0) (v ∷ w ∷ y ∷ [])
  own Pair = score_or grams (pos 0) (w ∷ y ∷ [])
  own Word = score_or grams (pos 0) (y ∷ [])
  own Unseen = u

  -- the triple's own score, or a weight and the pair's
  by_triple : is_listed grams (v ∷ w ∷ y ∷ []) ≡ true → backed_off u grams v w y ≡ pos 0 +ℤ own Triple
  unfolding backed_off
  by_triple t = listed_same (λ g. g.s) (v ∷ w ∷ y ∷ []) _ (pos 0) grams t ∙ sym (+ℤ_idl (own Triple))

  not_triple : is_listed grams (v ∷ w ∷ y ∷ []) ≡ false → backed_off u grams v w y ≡ passed grams v w Pair +ℤ pair_score u grams w y
  unfolding backed_off
  not_triple f = listed_else (λ g. g.s) (v ∷ w ∷ y ∷ []) _ grams f

  -- the pair's own score, or a weight more and the word's
  by_pair : is_listed grams (w ∷ y ∷ []) ≡ true → pair_score u grams w y ≡ own Pair
  unfolding pair_score
  by_pair t = listed_same (λ g. g.s) (w ∷ y ∷ []) _ (pos 0) grams t

  not_pair : is_listed grams (w ∷ y ∷ []) ≡ false → passed grams v w Pair +ℤ pair_score u grams w y ≡ passed grams v w Word +ℤ word_score u grams y
  unfolding pair_score
  not_pair f = rw (listed_else (λ g. g.s) (w ∷ y ∷ []) (weight grams (w ∷ []) +ℤ word_score u grams y) grams f) (sym (+ℤ_assoc (weight grams (v ∷ w ∷ [])) (weight grams (w ∷ [])) (word_score u grams y)))

  -- the word's own score, or u
  by_word : is_listed grams (y ∷ []) ≡ true → word_score u grams y ≡ own Word
  unfolding word_score
  by_word t = listed_same (λ g. g.s) (y ∷ []) u (pos 0) grams t

  not_word : is_listed grams (y ∷ []) ≡ false → word_score u grams y ≡ u
  unfolding word_score
  not_word f = listed_else (λ g. g.s) (y ∷ []) u grams f

  pub supplied_score : backed_off u grams v w y ≡ passed grams v w (supplier grams v w y) +ℤ own (supplier grams v w y)
  unfolding supplier
  supplied_score =
      by_test (is_listed grams (v ∷ w ∷ y ∷ [])) (λ t. rw t (by_triple t))
      (λ f. not_triple f
      ∙ by_test (is_listed grams (w ∷ y ∷ [])) (λ t. rw (f, t, by_pair t))
      (λ g. not_pair g ∙ by_test (is_listed grams (y ∷ [])) (λ t. rw (f, g, t, by_word t)) (λ h. rw (f, g, h, not_word h))))

-- ════ a book without D and U lines

-- no word and no pair is listed
no_word : (y : ℕ) (lines : List (List ℤ)) → is_listed (map triple_of lines) (y ∷ []) ≡ false
no_word y [] = refl
no_word y (line ∷ lines) = rw (and-false, no_word y lines)

no_pair : (w y : ℕ) (lines : List (List ℤ)) → is_listed (map triple_of lines) (w ∷ y ∷ []) ≡ false
no_pair w y [] = refl
no_pair w y (line ∷ lines) = rw (and-false, and-false, no_pair w y lines)

module _ (form : Form) (lines : List (List ℤ)) (b : OfBase lines) (whole : all (is_whole form) lines ≡ true) where
  -- "A triple with no T line scores u.": it or u supplies the score
  pub base_supplier : (v w y : ℕ) → supplier (book_of_lines lines).grams v w y ≡ cond (is_listed (book_of_lines lines).grams (v ∷ w ∷ y ∷ [])) Triple Unseen
  unfolding supplier book_of_lines
  base_supplier v w y = rw (grams_are form lines b whole, no_pair w y (keep is_t lines), no_word y (keep is_t lines))

  none_at : (v w : ℕ) (words : List ℕ) → (count_at 2 (suppliers (book_of_lines lines).grams v w words) ≡ 0) × (count_at 3 (suppliers (book_of_lines lines).grams v w words) ≡ 0)
  unfolding suppliers
  none_at v w [] = (refl, refl)
  none_at v w (y ∷ ys) =
      let rest = none_at w y ys in
      by_test (is_listed (book_of_lines lines).grams (v ∷ w ∷ y ∷ [])) (λ t. rw (base_supplier v w y, t) rest) (λ f. rw (base_supplier v w y, f) rest)

  -- so no word of a derivation is counted for a pair or a word
  pub base_supplied : (steps : List Step) → ((supplied_of (book_of_lines lines) steps).pairs ≡ 0) × ((supplied_of (book_of_lines lines) steps).words ≡ 0)
  unfolding supplied_of
  base_supplied steps = none_at 0 0 (target_words (book_of_lines lines) steps)

-- a loaded list that is not refused
pub loaded_supplied : (loaded : List ℤ) → OfBase (loaded_lines loaded) → book_refusal loaded ≡ 0 → (steps : List Step)
    → ((supplied_of (book_of loaded) steps).pairs ≡ 0) × ((supplied_of (book_of loaded) steps).words ≡ 0)
unfolding book_refusal book_of
loaded_supplied loaded b e steps = base_supplied in_list (loaded_lines loaded) b (lines_passed in_list (loaded_lines loaded) e).whole steps
