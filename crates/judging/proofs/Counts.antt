-- A row of target words, one word at a time: what is left of it, added to the counts so far, makes the counts of the whole row.
use Prim.Native.Nat.{ℕ, ◌+◌, ◌≤◌, ◌<◌}
use native.Mathlib.Omega.{arith}
use mathlib.Core.Path.{◌≡◌, sym, ap, ap₂, ◌∙◌}
use mathlib.Core.List.{List, [], ◌∷◌}
use lib.ListN.{length, get_or, take, drop, length-append, length-drop, drop_of_length-le}
use lib.Seq.{take-append_seam}
use Rattle.laws.proofs.Lists.{drop_next}
use Rattle.meaning.specs.Book.{Book, Gram}
use Rattle.meaning.specs.Derivation.{supplier, suppliers, count_at, counts_by, in_all, target_words, supplied_of}
use Rattle.meaning.specs.Reply.{written_over}
use Rattle.meaning.specs.declared.Step.{Step}
use Rattle.meaning.specs.declared.Supplier.{Supplier}
use Rattle.meaning.specs.declared.Supplier.TheVariants.{Triple, Pair, Word, Unseen}
use Rattle.meaning.specs.declared.Supplied.{Supplied}
use Rattle.judging.specs.Judging.{with_supplier}

-- no words yet
abbrev pub nothing : Supplied
nothing = record { triples = 0; pairs = 0; words = 0; unseen = 0 }

-- the counts with a row of suppliers more
abbrev pub with_row : Supplied → List Supplier → Supplied
with_row s [] = s
with_row s (x ∷ row) = with_row (with_supplier s x) row

-- one more in all
pub one_more : (s : Supplied) (x : Supplier) → in_all (with_supplier s x) ≡ in_all s + 1
one_more s Triple = omega arith
one_more s Pair = omega arith
one_more s Word = omega arith
one_more s Unseen = omega arith

-- counts that agree in each place are the same
same : (a b : Supplied) → a.triples ≡ b.triples → a.pairs ≡ b.pairs → a.words ≡ b.words → a.unseen ≡ b.unseen → a ≡ b
same a b t p w u = λ i. record { triples = t i; pairs = p i; words = w i; unseen = u i }

-- the counts of the row are added
abbrev plus : Supplied → List Supplier → Supplied
plus s row = record { triples = s.triples + count_at 1 row; pairs = s.pairs + count_at 2 row; words = s.words + count_at 3 row; unseen = s.unseen + count_at 4 row }

with_row_lem : (s : Supplied) (row : List Supplier) → with_row s row ≡ plus s row
with_row_lem s [] = same s (plus s []) (omega arith) (omega arith) (omega arith) (omega arith)
with_row_lem s (Triple ∷ row) = with_row_lem (with_supplier s Triple) row ∙ same (plus (with_supplier s Triple) row) (plus s (Triple ∷ row)) (omega arith) (omega arith) (omega arith) (omega arith)
with_row_lem s (Pair ∷ row) = with_row_lem (with_supplier s Pair) row ∙ same (plus (with_supplier s Pair) row) (plus s (Pair ∷ row)) (omega arith) (omega arith) (omega arith) (omega arith)
with_row_lem s (Word ∷ row) = with_row_lem (with_supplier s Word) row ∙ same (plus (with_supplier s Word) row) (plus s (Word ∷ row)) (omega arith) (omega arith) (omega arith) (omega arith)
with_row_lem s (Unseen ∷ row) = with_row_lem (with_supplier s Unseen) row ∙ same (plus (with_supplier s Unseen) row) (plus s (Unseen ∷ row)) (omega arith) (omega arith) (omega arith) (omega arith)

-- from no word on they are the row's own
pub from_nothing : (row : List Supplier) → with_row nothing row ≡ counts_by row
from_nothing row = with_row_lem nothing row ∙ same (plus nothing row) (counts_by row) (omega arith) (omega arith) (omega arith) (omega arith)

-- what is left of the words from word i on, after v and w
module _ (grams : List Gram) (words : List ℕ) where
  abbrev pub left : Supplied → ℕ → ℕ → ℕ → Supplied
  left s v w i = with_row s (suppliers grams v w (drop i words))

  pub left_next : (s : Supplied) (v w i : ℕ) → i < length words → left s v w i ≡ left (with_supplier s (supplier grams v w (get_or words i 0))) w (get_or words i 0) (i + 1)
  unfolding suppliers
  left_next s v w i h = ap (λ (ws : List ℕ). with_row s (suppliers grams v w ws)) (drop_next words i 0 h)

  pub left_none : (s : Supplied) (v w i : ℕ) → length words ≤ i → left s v w i ≡ s
  unfolding suppliers
  left_none s v w i h = ap (λ (ws : List ℕ). with_row s (suppliers grams v w ws)) (drop_of_length-le words {i = i} h)

-- ---- of a list of steps

-- target words that stand at the beginning of a list: they are no more than its places ..
pub inside : (new old : List ℕ) {out : List ℕ} → out ≡ written_over new old → length out ≡ length old → length new ≤ length out
inside new old e l = let a = length-append new (drop (length new) old) in let d = length-drop (length new) old in let z : length (written_over new old) ≡ length old = sym (ap length e) ∙ l in omega arith

-- .. and are judged as the derivation's
pub judged : (book : Book) (steps : List Step) (old : List ℕ) {grams : List Gram} {out : List ℕ} {count : ℕ} → grams ≡ book.grams → out ≡ written_over (target_words book steps) old → count ≡ length (target_words book steps)
    → counts_by (suppliers grams 0 0 (take count out)) ≡ supplied_of book steps
unfolding supplied_of
judged book steps old {out} {count} g e c =
    let words : take count out ≡ target_words book steps = rw (e, c) (take-append_seam (target_words book steps) (drop (length (target_words book steps)) old)) in
    ap₂ (λ (gs : List Gram) (ws : List ℕ). counts_by (suppliers gs 0 0 ws)) g words
