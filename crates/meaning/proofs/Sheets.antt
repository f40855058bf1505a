-- Ticket 8: what a row of a sheet holds. Its answer is a refusal of `decode` or 0, its score is in the bounds of every score, and its words have their places.
use Prim.Native.Nat.{ℕ, zero, suc, ◌*◌, ◌/◌, ◌≤◌}
use native.Mathlib.Omega.{arith}
use mathlib.Core.Path.{◌≡◌, refl}
use mathlib.Core.Bool.{Bool, not, ◌&&◌, ◌||◌}
use mathlib.Core.List.{List, map}
use lib.Dec.{leb}
use lib.IntN.{ℤ, pos, negsuc}
use lib.ListN.{length}
use lib.Signed.{le_z}
use Rattle.laws.specs.Integers.{Within}
use Rattle.laws.specs.Lists.{all, is_empty}
use Rattle.meaning.specs.Questions.{◌unless◌, within}
use Rattle.meaning.specs.Book.{Form, in_list, is_whole, is_one_bFirst, is_in_range, is_not_too_long, is_counted, is_no_triple_twice, is_no_shorter_twice, lines_refusal, loaded_lines, book_refusal, book_of}
use Rattle.meaning.specs.Direction.{word_count, is_direction_word, numbers_refusal, direction_refusal}
use Rattle.meaning.specs.State.{score_bound}
use Rattle.meaning.specs.Search.{is_off, entered, last_set}
use Rattle.meaning.specs.Reply.{Reply, refused, done, reply, Lent, before_search, after_search, decode_refusal, search_answer, decode}
use Rattle.meaning.specs.Sheet.{Row, row_of}
use Rattle.meaning.specs.declared.Answer.{Answer}
use Rattle.meaning.proofs.Chains.{chain_ind, test_ind, done_passes}
use Rattle.meaning.proofs.Demands.{decode_counts, decode_bound}
use Rattle.meaning.proofs.Lengths.{found_room}

-- a refusal is at most a number
abbrev AtMost : ℕ → ℕ → Type 0
AtMost n k = k ≤ n

test_most : (n k : ℕ) (test : Bool) → k ≤ n → (k unless test) ≤ n
test_most n k test h = test_ind (AtMost n) k test (omega arith) h

lines_most : (form : Form) (lines : List (List ℤ)) → lines_refusal form lines ≤ 21
unfolding lines_refusal
lines_most form lines =
    let Q = AtMost 21 in
    chain_ind Q _ _ (test_most 21 2 (all (is_whole form) lines) (omega arith))
    (chain_ind Q _ _ (test_most 21 3 (is_one_bFirst lines) (omega arith))
    (chain_ind Q _ _ (test_most 21 4 (all is_in_range lines) (omega arith))
    (chain_ind Q _ _ (test_most 21 5 (is_not_too_long lines) (omega arith))
    (chain_ind Q _ _ (test_most 21 21 (is_counted form lines) (omega arith))
    (chain_ind Q _ _ (test_most 21 6 (is_no_triple_twice lines) (omega arith)) (test_most 21 20 (is_no_shorter_twice lines) (omega arith)))))))

-- "2 to 6", 20 and 21
pub book_most : (loaded : List ℤ) → book_refusal loaded ≤ 21
unfolding book_refusal
book_most loaded = lines_most in_list (loaded_lines loaded)

numbers_most : (numbers : List ℤ) → numbers_refusal numbers ≤ 15
unfolding numbers_refusal
numbers_most numbers = chain_ind (AtMost 15) _ _ (test_most 15 9 (within 1 32 (length numbers)) (omega arith)) (test_most 15 10 (all is_direction_word numbers) (omega arith))

-- 9 to 12, and 13 to 15, after the book's
module _ (loaded : List ℤ) (direction : List ℕ) (width : ℤ) (lent : Lent) where
  refusal_most : (n : ℕ) → 15 ≤ n → book_refusal loaded ≤ n → decode_refusal loaded direction width lent ≤ n
  unfolding decode_refusal before_search after_search direction_refusal
  refusal_most n h b =
      let Q = AtMost n in let m : numbers_refusal (map pos direction) ≤ n = omega (arith, numbers_most (map pos direction)) in
      let reached = not (is_empty (last_set (book_of loaded) direction width)) in
      chain_ind Q _ _
      (chain_ind Q _ _ b
      (chain_ind Q _ _ m
      (chain_ind Q _ _ (test_most n 11 (le_z (negsuc 0) width) (omega arith))
      (test_most n 12 (leb (word_count direction) lent.steps && leb (8 * word_count direction) lent.words) (omega arith)))))
      (chain_ind Q _ _ (test_most n 13 (leb (length (entered (book_of loaded) direction width)) (lent.store / 8)) (omega arith))
      (chain_ind Q _ _ (test_most n 14 (not (is_off width) || reached) (omega arith)) (test_most n 15 reached (omega arith))))

  answer_is : (k : ℕ) (a : Answer) → (row_of (reply k a)).answer ≡ k
  answer_is zero a = refl
  answer_is (suc k) a = refl

  abbrev row : Row
  row = row_of (decode loaded direction width lent)

  row_most : (n : ℕ) → decode_refusal loaded direction width lent ≤ n → row.answer ≤ n
  unfolding decode
  row_most n h = omega (arith, h, answer_is (decode_refusal loaded direction width lent) (search_answer (book_of loaded) direction width))

  -- a row's answer has one digit or two, whatever the book ..
  pub row_answer : row.answer ≤ 34
  row_answer = let b = book_most loaded in row_most 34 (refusal_most 34 (omega arith) (omega arith))

  -- .. and is at most 15 where the book passes
  pub row_answer_15 : book_refusal loaded ≡ 0 → row.answer ≤ 15
  row_answer_15 e = row_most 15 (refusal_most 15 (omega arith) (omega arith))

  -- its score is within "the bound", 810,240,000; "score and words 0 on refusal"
  pub row_score : Within score_bound row.score
  row_score = by (decode loaded direction width lent) refl
    where
      by : (r : Reply Answer) → decode loaded direction width lent ≡ r → Within score_bound (row_of r).score
      by (done a) e = decode_bound loaded direction width lent a e
      by (refused k) e = record { high = omega arith; low = omega arith }

  passed : (a : Answer) → decode loaded direction width lent ≡ done a → decode_refusal loaded direction width lent ≡ 0
  unfolding decode
  passed a e = done_passes (decode_refusal loaded direction width lent) _ a e

  -- it has no more words than it has places
  pub row_words : row.words ≤ lent.words
  row_words = by (decode loaded direction width lent) refl
    where
      by : (r : Reply Answer) → decode loaded direction width lent ≡ r → (row_of r).words ≤ lent.words
      by (done a) e = let c = decode_counts loaded direction width lent a e in let r = found_room loaded direction width lent (passed a e) in omega (arith, c.1, r.1)
      by (refused k) e = omega arith

-- "score and words 0 on refusal"
pub row_refused : (r : Reply Answer) → 1 ≤ (row_of r).answer → ((row_of r).score ≡ pos 0) × ((row_of r).words ≡ 0)
row_refused (done a) h = absurd (omega arith)
row_refused (refused k) h = (refl, refl)
