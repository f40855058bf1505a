-- How each word was judged (ticket 3): whether an n-gram is listed, and the four counts.
use Prim.Native.Nat.{ℕ}
use native.Mathlib.Omega.{arith}
use mathlib.Core.Path.{◌≡◌, refl, sym, ◌∙◌}
use mathlib.Core.Bool.{true, false}
use mathlib.Core.List.{List, [], ◌∷◌}
use lib.Dec.{eqb}
use lib.IntN.{ℤ, pos}
use lib.ListN.{length}
use Rattle.laws.specs.Lists.{eq_list}
use Rattle.laws.proofs.Tests.{by_test, is_false, clash}
use Rattle.meaning.specs.Book.{Book, Gram}
use Rattle.meaning.specs.Derivation.{listed, is_listed, suppliers, counts_by, in_all, target_words, supplied_of}
use Rattle.meaning.specs.declared.Step.{Step}
use Rattle.meaning.specs.declared.Supplier.{Supplier}
use Rattle.meaning.specs.declared.Supplier.TheVariants.{Triple, Pair, Word, Unseen}

pub zero_one : pos 0 ≡ pos 1 → ⊥
zero_one q = let z : ◌≡◌ {A = ℕ} 0 1 = cc in omega arith

module _ (number : Gram → ℤ) (words : List ℕ) where
  -- where no n-gram of these words is listed the other number is given ..
  pub listed_else : (other : ℤ) (gs : List Gram) → is_listed gs words ≡ false → listed number other words gs ≡ other
  listed_else other [] e = refl
  listed_else other (g ∷ gs) e = by_test (eq_list eqb g.words words) (λ t. clash refl (rw t at e)) (λ f. rw f (listed_else other gs (rw f at e)))

  -- .. and where one is, the other number does not matter
  pub listed_same : (a b : ℤ) (gs : List Gram) → is_listed gs words ≡ true → listed number a words gs ≡ listed number b words gs
  listed_same a b [] e = clash e refl
  listed_same a b (g ∷ gs) e = by_test (eq_list eqb g.words words) (λ t. rw t) (λ f. rw f (listed_same a b gs (rw f at e)))

  -- so where the other number is given whatever it is, none is listed
  pub else_unlisted : (gs : List Gram) → ((other : ℤ) → listed number other words gs ≡ other) → is_listed gs words ≡ false
  else_unlisted gs e = is_false (λ t. zero_one (sym (e (pos 0)) ∙ listed_same (pos 0) (pos 1) gs t ∙ e (pos 1)))

-- ---- the four counts

-- each target word has one supplier ..
suppliers_long : (grams : List Gram) (v w : ℕ) (words : List ℕ) → length (suppliers grams v w words) ≡ length words
unfolding suppliers
suppliers_long grams v w [] = refl
suppliers_long grams v w (y ∷ ys) = let h = suppliers_long grams w y ys in omega arith

-- .. and each supplier one of the four places
four_places : (row : List Supplier) → in_all (counts_by row) ≡ length row
four_places [] = refl
four_places (Triple ∷ row) = let h = four_places row in omega arith
four_places (Pair ∷ row) = let h = four_places row in omega arith
four_places (Word ∷ row) = let h = four_places row in omega arith
four_places (Unseen ∷ row) = let h = four_places row in omega arith

-- "they add up to all target words"
pub supplied_all : (book : Book) (steps : List Step) → in_all (supplied_of book steps) ≡ length (target_words book steps)
unfolding supplied_of
supplied_all book steps = four_places (suppliers book.grams 0 0 (target_words book steps)) ∙ suppliers_long book.grams 0 0 (target_words book steps)
