-- A word of the word list has a number, and no other word has it.
use Prim.Native.Nat.{ℕ, suc, ◌+◌, ◌≤◌}
use mathlib.Core.Path.{◌≡◌, refl, sym, ap, ◌∙◌}
use mathlib.Core.Bool.{true, false, true≢false}
use mathlib.Core.List.{List, [], ◌∷◌, map}
use mathlib.Core.Logic.{◌⊎◌, inl, inr, ⊎_elim}
use native.Mathlib.Omega.{arith}
use borrow.Author.Tests.{leb-true, eq-eqb, eqb-true}
use native.Mathlib.Nat.{min-le_left}
use lib.Dec.{eqb}
use lib.ListN.{length, length-take}
use Rattle.laws.specs.Lists.{all, eq_list}
use Rattle.laws.proofs.Lists.{eq_list_is, eq_list_refl}
use Rattle.laws.proofs.Tests.{both, by_test, same_test}
use Rattle.meaning.specs.Numerals.{newline, split}
use Rattle.arpa.specs.Lines.{eq_bytes}
use Rattle.arpa.specs.Words.{start_word, spelled_most, spellings, first_from, spelled, word_number, is_known}

pub bytes_same : (a b : List ℕ) → eq_bytes a b ≡ true → a ≡ b
bytes_same a b h = eq_list_is eqb eqb-true a b h

pub bytes_refl : (a : List ℕ) → eq_bytes a a ≡ true
bytes_refl a = eq_list_refl eqb (λ x. eq-eqb x x refl) a

-- a word that is found from line k on has k or a higher number
first_bound : (k : ℕ) (word : List ℕ) (lines : List (List ℕ)) → (first_from k word lines ≡ 0) ⊎ (k ≤ first_from k word lines)
unfolding first_from
first_bound k word [] = inl refl
first_bound k word (line ∷ lines) =
    by_test (eq_bytes line word)
    (λ t. inr (rw t (omega arith)))
    (λ f. ⊎_elim (λ (z : first_from (suc k) word lines ≡ 0). inl (rw (f, z))) (λ (l : suc k ≤ first_from (suc k) word lines). inr (rw f (omega arith))) (first_bound (suc k) word lines))

-- two words that are found at one line are the same
first_same : (k : ℕ) (a b : List ℕ) (lines : List (List ℕ)) → 1 ≤ k → first_from k a lines ≡ first_from k b lines → 1 ≤ first_from k a lines → a ≡ b
unfolding first_from
first_same k a b [] l e h = absurd (omega arith)
first_same k a b (line ∷ lines) l e h =
    by_test (eq_bytes line a)
    (λ t. by_test (eq_bytes line b)
    (λ s. sym (bytes_same line a t) ∙ bytes_same line b s)
    (λ f. let z = rw (t, f) at e in ⊎_elim (λ (n : first_from (suc k) b lines ≡ 0). absurd (omega arith)) (λ (n : suc k ≤ first_from (suc k) b lines). absurd (omega arith)) (first_bound (suc k) b lines)))
    (λ f. by_test (eq_bytes line b)
    (λ s. let z = rw (f, s) at e in ⊎_elim (λ (n : first_from (suc k) a lines ≡ 0). absurd (omega arith)) (λ (n : suc k ≤ first_from (suc k) a lines). absurd (omega arith)) (first_bound (suc k) a lines))
    (λ g. first_same (suc k) a b lines (omega arith) (rw (f, g) at e) (rw f at h)))

-- "to 65,534": no word has a higher number
first_most : (k : ℕ) (word : List ℕ) (lines : List (List ℕ)) → first_from (suc k) word lines ≤ k + length lines
unfolding first_from
first_most k word [] = omega arith
first_most k word (line ∷ lines) = let ih = first_most (suc k) word lines in by_test (eq_bytes line word) (λ t. rw t (omega arith)) (λ f. rw f (omega arith))

pub spellings_few : (list : List ℕ) → length (spellings list) ≤ spelled_most
unfolding spellings
spellings_few list = rw length-take (min-le_left spelled_most (length (split newline list)))

pub spelled_few : (list word : List ℕ) → spelled list word ≤ spelled_most
unfolding spelled
spelled_few list word = omega (arith, first_most 0 word (spellings list), spellings_few list)

-- no two words that are known have one number
pub number_same : (list a b : List ℕ) → is_known list a ≡ true → is_known list b ≡ true → word_number list a ≡ word_number list b → a ≡ b
unfolding word_number is_known spelled
number_same list a b p q e =
    by_test (eq_bytes a start_word)
    (λ s. by_test (eq_bytes b start_word)
    (λ t. bytes_same a start_word s ∙ sym (bytes_same b start_word t))
    (λ t. let z = rw (s, t) at e in let k = leb-true 1 (spelled list b) (rw t at q) in absurd (omega arith)))
    (λ s. by_test (eq_bytes b start_word)
    (λ t. let z = rw (s, t) at e in let k = leb-true 1 (spelled list a) (rw s at p) in absurd (omega arith))
    (λ t. first_same 1 a b (spellings list) (omega arith) (rw (s, t) at e) (leb-true 1 (spelled list a) (rw s at p))))

-- a word and a number are the same to every word that is known
abbrev pub Spells : List ℕ → List ℕ → ℕ → Type 0
Spells list word n = (x : List ℕ) → is_known list x ≡ true → eqb (word_number list x) n ≡ eq_bytes x word

-- a word that is known spells its number
pub spells_known : (list word : List ℕ) → is_known list word ≡ true → Spells list word (word_number list word)
spells_known list word k x p =
    same_test
    (λ t. rw (number_same list x word p k (eqb-true (word_number list x) (word_number list word) t)) (bytes_refl word))
    (λ t. eq-eqb (word_number list x) (word_number list word) (ap (word_number list) (bytes_same x word t)))

-- a number that no known word has is spelled by any word that is not known
pub spells_none : (list word : List ℕ) (n : ℕ) → is_known list word ≡ false → ((x : List ℕ) → is_known list x ≡ true → eqb (word_number list x) n ≡ false) → Spells list word n
spells_none list word n k none x p =
    same_test
    (λ t. absurd (true≢false (sym t ∙ none x p)))
    (λ t. absurd (true≢false (sym p ∙ ap (is_known list) (bytes_same x word t) ∙ k)))

-- so it is of rows of words
abbrev pub SpellRow : List ℕ → List (List ℕ) → List ℕ → Type 0
SpellRow list words numbers = (xs : List (List ℕ)) → all (is_known list) xs ≡ true → eq_list eqb (map (word_number list) xs) numbers ≡ eq_list eq_bytes xs words

pub row_none : (list : List ℕ) → SpellRow list [] []
row_none list [] p = refl
row_none list (x ∷ xs) p = refl

pub row_more : (list word : List ℕ) (n : ℕ) (words : List (List ℕ)) (numbers : List ℕ) → Spells list word n → SpellRow list words numbers → SpellRow list (word ∷ words) (n ∷ numbers)
row_more list word n words numbers s r [] p = refl
row_more list word n words numbers s r (x ∷ xs) p = let k = both (is_known list x) (all (is_known list) xs) p in rw (s x k.0, r xs k.1) refl
