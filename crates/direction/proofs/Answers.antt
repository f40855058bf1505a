-- The answers of the questions 8, 9, 10 and 7 in their order: which refusal each failed test gives, and what a refusal or a
-- success says of the reply and of the lent list.
use mathlib.Core.Path.{◌≡◌, refl, sym, ap}
use mathlib.Core.Bool.{true, false}
use mathlib.Core.List.{List, map}
use Prim.Native.Nat.{ℕ, suc}
use lib.Dec.{leb}
use lib.IntN.{ℤ}
use lib.ListN.{length, length-map}
use Rattle.laws.specs.Integers.{nat_of}
use Rattle.laws.specs.Lists.{all}
use Rattle.meaning.specs.Questions.{within}
use Rattle.meaning.specs.Direction.{is_direction_word}
use Rattle.meaning.specs.Direction.{is_direction_text, direction_numbers, numbers_refusal, read_direction_refusal, direction_of}
use Rattle.meaning.specs.Reply.{Reply, refused, done, written_over, read_direction, read_direction_list}

-- ════ questions 9 and 10

module _ (numbers : List ℤ) where
  pub no_count : within 1 32 (length numbers) ≡ false → numbers_refusal numbers ≡ 9
  unfolding numbers_refusal
  no_count e = rw e

  module _ (count : within 1 32 (length numbers) ≡ true) where
    pub no_words : all is_direction_word numbers ≡ false → numbers_refusal numbers ≡ 10
    unfolding numbers_refusal
    no_words e = rw (count, e)

    pub in_range : all is_direction_word numbers ≡ true → numbers_refusal numbers ≡ 0
    unfolding numbers_refusal
    in_range e = rw (count, e)

-- ════ questions 8, 9, 10 and 7

module _ (t : List ℕ) (places : ℕ) where
  pub no_text : is_direction_text t ≡ false → read_direction_refusal t places ≡ 8
  unfolding read_direction_refusal
  no_text e = rw e

  module _ (text : is_direction_text t ≡ true) where
    pub no_numbers : (k : ℕ) → numbers_refusal (direction_numbers t) ≡ suc k → read_direction_refusal t places ≡ suc k
    unfolding read_direction_refusal
    no_numbers k e = rw (text, e)

    module _ (numbers : numbers_refusal (direction_numbers t) ≡ 0) where
      pub no_room : leb (length (direction_numbers t)) places ≡ false → read_direction_refusal t places ≡ 7
      unfolding read_direction_refusal
      no_room e = rw (text, numbers, e)

      pub has_room : leb (length (direction_numbers t)) places ≡ true → read_direction_refusal t places ≡ 0
      unfolding read_direction_refusal
      has_room e = rw (text, numbers, e)

-- ════ the reply and the list

module _ (t lent : List ℕ) where
  pub refused_so : (k : ℕ) → read_direction_refusal t (length lent) ≡ suc k
      → (refused (suc k) ≡ read_direction t (length lent)) × (lent ≡ read_direction_list t lent)
  unfolding read_direction read_direction_list
  refused_so k e = rw e (refl, refl)

  pub done_so : (n : ℕ) → n ≡ length (direction_numbers t) → read_direction_refusal t (length lent) ≡ 0
      → (done n ≡ read_direction t (length lent)) × (written_over (map nat_of (direction_numbers t)) lent ≡ read_direction_list t lent)
  unfolding read_direction read_direction_list direction_of
  done_so n c e = rw (e, c) (ap {B = Reply ℕ} done (sym (length-map (direction_numbers t) nat_of)), refl)
