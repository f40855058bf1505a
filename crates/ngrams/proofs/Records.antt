-- A record that is put: its numbers are the line's, and what stands before it is not touched.
use Prim.Native.Nat.{ℕ, zero, suc, ◌+◌, ◌≤◌, ◌<◌}
use native.Mathlib.Omega.{arith}
use mathlib.Core.Path.{◌≡◌}
use mathlib.Core.List.{List, ◌∷◌, ◌++◌}
use lib.IntN.{ℤ}
use lib.ListN.{length, get_or, set}
use Rattle.laws.specs.Lists.{set_from}
use Rattle.laws.proofs.Fields.{from_long, from_far, from_first, from_near}
use Rattle.meaning.specs.Book.{number_at, order_of}
use Rattle.halves.specs.Halves.{halves_of, shifted}
use Rattle.ngrams.specs.Parts.{record_size, record_at}
use Rattle.ngrams.specs.Grams.{word_or0, record_of, put_record}

module _ (index : List ℕ) (line : List ℤ) (k : ℕ) where
  -- the record's numbers but the first
  abbrev more : List ℕ
  more =
      word_or0 line (order_of line) 2 ∷ word_or0 line (order_of line) 3 ∷ order_of line
      ∷ (halves_of (shifted (number_at line (order_of line + 1))) ++ halves_of (shifted (number_at line (order_of line + 2))))

  pub put_long : length (put_record index k line) ≡ length index
  unfolding put_record
  put_long = from_long index (record_at k) (record_of line)

  pub put_far : (p : ℕ) → p < record_at k → get_or (put_record index k line) p 0 ≡ get_or index p 0
  unfolding put_record record_of
  put_far p h = from_far (record_of line) index (record_at k) p 0 (λ (z : record_at k ≤ p). absurd (omega arith))

  pub put_near : (j : ℕ) → j < record_size → record_at (k + 1) ≤ length index → get_or (put_record index k line) (record_at k + j) 0 ≡ get_or (record_of line) j 0
  unfolding put_record record_of
  put_near zero h l =
      let z : record_at k + 0 ≡ record_at k = omega arith in
      rw z (from_first (word_or0 line (order_of line) 1) more index (record_at k) 0 (omega arith))
  put_near (suc j) h l = from_near (word_or0 line (order_of line) 1) more index (record_at k) j 0 (omega arith) (omega arith)

  -- as code puts it: the three words, how many there are, then the halves of the score and of the weight
  pub put_is : {n a b c : ℕ} {s t : ℤ} {scored weighted : List ℕ} → n ≡ order_of line → a ≡ word_or0 line n 1 → b ≡ word_or0 line n 2 → c ≡ word_or0 line n 3 → s ≡ number_at line (n + 1) → t ≡ number_at line (n + 2)
      → scored ≡ set_from (set (set (set (set index (record_at k) a) (record_at k + 1) b) (record_at k + 2) c) (record_at k + 3) n) (record_at k + 4) (halves_of (shifted s))
      → weighted ≡ set_from scored (record_at k + 6) (halves_of (shifted t)) → weighted ≡ put_record index k line
  unfolding put_record record_of
  put_is e a b c d f g h =
      let z : record_at k + 4 + 1 ≡ record_at k + 5 = omega arith in
      let x : record_at k + 6 + 1 ≡ record_at k + 7 = omega arith in
      rw (h, g, a, b, c, d, f, e, z, x)
