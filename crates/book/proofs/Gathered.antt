-- After all lines are noted, record k holds the numbers of the k-th line that lists an n-gram: a record that was put is not touched again.
use Prim.Native.Nat.{ℕ, zero, suc, ◌+◌, ◌<◌}
use native.Mathlib.Omega.{arith}
use mathlib.Core.Path.{◌≡◌, refl, sym, ◌∙◌, ap}
use mathlib.Core.Bool.{true, false, ◌&&◌}
use mathlib.Core.List.{List, [], ◌∷◌}
use borrow.Author.Tests.{lt-leb, le-leb}
use lib.IntN.{ℤ}
use lib.ListN.{length, get_or}
use Rattle.laws.specs.Bits.{one}
use Rattle.laws.specs.Lists.{keep, count}
use Rattle.laws.proofs.Lists.{count_cons}
use Rattle.laws.proofs.Tests.{by_test}
use Rattle.meaning.specs.Book.{order_of, is_gram}
use Rattle.ngrams.specs.Parts.{record_size, record_at}
use Rattle.ngrams.specs.Grams.{record_of, put_record, Room, has_place}
use Rattle.ngrams.proofs.Index.{room_less, room_place}
use Rattle.ngrams.proofs.Records.{put_long, put_far, put_near}
use Rattle.book.specs.Grams.{with_gram, grams_from}

-- ---- one line

-- it lists an n-gram where it lists words
pub not_gram : (line : List ℤ) → order_of line ≡ 0 → is_gram line ≡ false
unfolding is_gram
not_gram line e = lt-leb 1 (order_of line) (omega arith)

pub is_gram_lem : (line : List ℤ) → (order_of line ≡ 0 → ⊥) → is_gram line ≡ true
unfolding is_gram
is_gram_lem line n = le-leb 1 (order_of line) (omega (arith, n))

pub gram_not : (index : List ℕ) (line : List ℤ) (ts : ℕ) → is_gram line ≡ false → index ≡ with_gram index ts line
unfolding with_gram
gram_not index line ts f = rw f

pub gram_full : (index : List ℕ) (line : List ℤ) (ts : ℕ) → is_gram line ≡ true → has_place index ts ≡ false → index ≡ with_gram index ts line
unfolding with_gram
gram_full index line ts t h = rw (t, h)

pub gram_put : (index : List ℕ) (line : List ℤ) (ts : ℕ) → is_gram line ≡ true → has_place index ts ≡ true → put_record index ts line ≡ with_gram index ts line
unfolding with_gram
gram_put index line ts t h = rw (t, h)

pub gram_long : (index : List ℕ) (line : List ℤ) (ts : ℕ) → length (with_gram index ts line) ≡ length index
unfolding with_gram
gram_long index line ts = by_test (is_gram line && has_place index ts) (λ t. rw t (put_long index line ts)) (λ f. rw f)

gram_far : (index : List ℕ) (line : List ℤ) (ts p : ℕ) → p < record_at ts → get_or (with_gram index ts line) p 0 ≡ get_or index p 0
unfolding with_gram
gram_far index line ts p h = by_test (is_gram line && has_place index ts) (λ t. rw t (put_far index line ts p h)) (λ f. rw f)

-- ---- all lines

pub grams_long : (index : List ℕ) (ts : ℕ) (lines : List (List ℤ)) → length (grams_from index ts lines) ≡ length index
unfolding grams_from
grams_long index ts [] = refl
grams_long index ts (line ∷ lines) = grams_long (with_gram index ts line) (ts + one (is_gram line)) lines ∙ gram_long index line ts

grams_far : (index : List ℕ) (ts : ℕ) (lines : List (List ℤ)) (p : ℕ) → p < record_at ts → get_or (grams_from index ts lines) p 0 ≡ get_or index p 0
unfolding grams_from
grams_far index ts [] p h = refl
grams_far index ts (line ∷ lines) p h = grams_far (with_gram index ts line) (ts + one (is_gram line)) lines p (omega arith) ∙ gram_far index line ts p h

-- the record of the line at hand, and those of the lines after it
module _ (index : List ℕ) (line : List ℤ) (lines : List (List ℤ)) (ts j : ℕ) where
  At : ℕ → List ℕ → ℕ → List (List ℤ) → Type 0
  At k now from rest = get_or (grams_from now from rest) (record_at (from + k) + j) 0 ≡ get_or (record_of (get_or (keep is_gram rest) k [])) j 0

  at_yes : is_gram line ≡ true → Room index (ts + 1) → j < record_size → ((i : ℕ) → i < count is_gram lines → At i (with_gram index ts line) (ts + 1) lines)
      → (k : ℕ) → k < count is_gram (line ∷ lines) → At k index ts (line ∷ lines)
  unfolding At grams_from
  at_yes t r n rest zero m =
      let e : record_at (ts + 0) + j ≡ record_at ts + j = omega arith in
      rw (t, e)
      (grams_far (with_gram index ts line) (ts + 1) lines (record_at ts + j) (omega arith)
      ∙ ap (λ (x : List ℕ). get_or x (record_at ts + j) 0) (sym (gram_put index line ts t (room_place index ts r)))
      ∙ put_near index line ts j n r.parts)
  at_yes t r n rest (suc k) m =
      let e : record_at (ts + suc k) + j ≡ record_at (ts + 1 + k) + j = omega arith in
      rw (t, e) (rest k (omega (arith, rw t at m)))

  at_no : is_gram line ≡ false → ((i : ℕ) → i < count is_gram lines → At i (with_gram index ts line) ts lines)
      → (k : ℕ) → k < count is_gram (line ∷ lines) → At k index ts (line ∷ lines)
  unfolding At grams_from
  at_no f rest k m = let e : ts + 0 ≡ ts = omega arith in rw (f, e) (rest k (rw f at m))

grams_at : (index : List ℕ) (ts : ℕ) (lines : List (List ℤ)) → Room index (ts + count is_gram lines)
    → (j : ℕ) → j < record_size → (k : ℕ) → k < count is_gram lines → get_or (grams_from index ts lines) (record_at (ts + k) + j) 0 ≡ get_or (record_of (get_or (keep is_gram lines) k [])) j 0
unfolding At
grams_at index ts [] r j n k m = absurd (omega arith)
grams_at index ts (line ∷ lines) r j n k m =
    let c = count_cons is_gram line lines in
    let long = gram_long index line ts in
    let few = r.few in
    let parts = r.parts in
    by_test (is_gram line)
    (λ t. let o : one (is_gram line) ≡ 1 = rw t in
    at_yes index line lines ts j t (room_less (ts + 1) (omega arith) r) n (grams_at (with_gram index ts line) (ts + 1) lines (record { parts = omega arith; few = omega arith }) j n) k m)
    (λ f. let o : one (is_gram line) ≡ 0 = rw f in
    at_no index line lines ts j f (grams_at (with_gram index ts line) ts lines (record { parts = omega arith; few = omega arith }) j n) k m)

pub grams_hold : (index : List ℕ) (lines : List (List ℤ)) → Room index (count is_gram lines)
    → (k j : ℕ) → k < count is_gram lines → j < record_size → get_or (grams_from index 0 lines) (record_at k + j) 0 ≡ get_or (record_of (get_or (keep is_gram lines) k [])) j 0
grams_hold index lines r k j m n = let e : 0 + k ≡ k = omega arith in let z : 0 + count is_gram lines ≡ count is_gram lines = omega arith in rw e at (grams_at index 0 lines (rw z r) j n k m)
