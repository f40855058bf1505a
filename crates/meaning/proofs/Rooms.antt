-- Lists that are long enough: questions 7 and 12 pass however long they are, so the replies are the same.
use Prim.Native.Nat.{ℕ, zero, suc, ◌*◌, ◌≤◌}
use mathlib.Core.Path.{◌≡◌, refl, sym, ◌∙◌, ap}
use mathlib.Core.Bool.{Bool, true, ◌&&◌}
use mathlib.Core.List.{List}
use borrow.Author.Tests.{le-leb}
use lib.Dec.{leb}
use lib.IntN.{ℤ, negsuc}
use lib.ListN.{length}
use lib.Signed.{le_z}
use Rattle.laws.proofs.Tests.{both_of}
use Rattle.meaning.specs.Questions.{◌unless◌, ◌orelse◌}
use Rattle.meaning.specs.Book.{in_text, book_refusal, book_of, is_book_text, text_lines, lines_refusal, loaded_of, read_refusal}
use Rattle.meaning.specs.Direction.{word_count, is_direction_text, direction_numbers, numbers_refusal, direction_refusal, read_direction_refusal}
use Rattle.meaning.specs.Reply.{reply, Lent, before_search, after_search, decode_refusal, search_answer, decode}
use Rattle.meaning.proofs.Chains.{test_passes}

-- the rest of a chain is asked only where its first question passes
same_rest : (k m m' : ℕ) → (k ≡ 0 → m ≡ m') → k orelse m ≡ k orelse m'
same_rest zero m m' h = h refl
same_rest (suc k) m m' h = refl

both_pass : (n p q : ℕ) → n ≤ p → n ≤ q → 7 unless leb n p ≡ 7 unless leb n q
both_pass n p q h g = ap (λ (t : Bool). 7 unless t) (le-leb n p h ∙ sym (le-leb n q g))

-- reading a book into p or q places
pub read_room : (text : List ℕ) (p q : ℕ) → (is_book_text text ≡ true → length (loaded_of text) ≤ p) → (is_book_text text ≡ true → length (loaded_of text) ≤ q)
    → read_refusal text p ≡ read_refusal text q
unfolding read_refusal
read_room text p q h g =
    same_rest (1 unless is_book_text text) _ _
    (λ e. same_rest (lines_refusal in_text (text_lines text)) _ _
    (λ _. let t = test_passes 0 (is_book_text text) e in both_pass (length (loaded_of text)) p q (h t) (g t)))

-- reading a direction into p or q places
pub direction_room : (text : List ℕ) (p q : ℕ) → (numbers_refusal (direction_numbers text) ≡ 0 → length (direction_numbers text) ≤ p)
    → (numbers_refusal (direction_numbers text) ≡ 0 → length (direction_numbers text) ≤ q) → read_direction_refusal text p ≡ read_direction_refusal text q
unfolding read_direction_refusal
direction_room text p q h g =
    same_rest (8 unless is_direction_text text) _ _
    (λ _. same_rest (numbers_refusal (direction_numbers text)) _ _ (λ e. both_pass (length (direction_numbers text)) p q (h e) (g e)))

-- a step list of n places and a word list of 8 n
abbrev pub Suffices : List ℕ → ℕ → ℕ → Type 0
Suffices direction steps words = (word_count direction ≤ steps) × (8 * word_count direction ≤ words)

module _ (loaded : List ℤ) (direction : List ℕ) (width : ℤ) (s w s' w' store : ℕ)
    (h : direction_refusal direction ≡ 0 → Suffices direction s w) (g : direction_refusal direction ≡ 0 → Suffices direction s' w') where
  abbrev lent : Lent
  lent = record { steps = s; words = w; store = store }

  abbrev lent' : Lent
  lent' = record { steps = s'; words = w'; store = store }

  before_room : before_search loaded direction width lent ≡ before_search loaded direction width lent'
  unfolding before_search
  before_room =
      same_rest (book_refusal loaded) _ _
      (λ _. same_rest (direction_refusal direction) _ _
      (λ e. same_rest (11 unless le_z (negsuc 0) width) _ _
      (λ _. ap (λ (t : Bool). 12 unless t) (passes s w (h e) ∙ sym (passes s' w' (g e))))))
    where
      passes : (a b : ℕ) → Suffices direction a b → (leb (word_count direction) a && leb (8 * word_count direction) b) ≡ true
      passes a b f = both_of (le-leb _ a f.0) (le-leb _ b f.1)

  -- decoding into lists of s and w places, or of s' and w'
  pub decode_room : decode loaded direction width lent ≡ decode loaded direction width lent'
  unfolding decode decode_refusal after_search
  decode_room =
      ap (λ (k : ℕ). reply (k orelse after_search (book_of loaded) direction width lent) (search_answer (book_of loaded) direction width)) before_room
