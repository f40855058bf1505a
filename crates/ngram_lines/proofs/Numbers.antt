-- The numbers of an n-gram's words, and whether the word list has them.
use Rattle.std.proofs.Common.{Option, Some, None, unwrap_or}
use Rattle.std.specs.Option.{is_some}
use Prim.Native.Nat.{ℕ}
use mathlib.Core.Path.{◌≡◌, refl, sym, ◌∙◌}
use mathlib.Core.Bool.{Bool, true, false, ◌&&◌, and-true, and_assoc}
use mathlib.Core.List.{List}
use native.Mathlib.Omega.{arith}
use borrow.Author.Tests.{le-leb}
use Rattle.arpa.specs.Lines.{eq_bytes}
use Rattle.arpa.specs.Words.{start_word, spelled, word_number, is_known}
use Rattle.arpa.proofs.Spelled.{spelled_few}
use Rattle.tokens.specs.Scan.{field_at}
use Rattle.spelling.specs.Index.{NumberIs}
use Rattle.ngram_lines.specs.Gram.{WordIs, WordsAre}
use Rattle.ngram_lines.proofs.Places.{fields_from}

module _ (list word : List ℕ) where
  pub start_is : eq_bytes word start_word ≡ true → WordIs list word (Some 0)
  unfolding word_number is_known
  start_is t = record { number_is = rw t; known_is = rw t; small = omega arith }

pub spelled_is : (list word : List ℕ) (number : Option ℕ) → eq_bytes word start_word ≡ false → NumberIs (spelled list word) number → WordIs list word number
unfolding word_number is_known
spelled_is list word None f n = record { number_is = rw f (sym n); known_is = rw (f, n) refl; small = omega arith }
spelled_is list word (Some k) f n =
    let e : k ≡ spelled list word = n.1 in
    record { number_is = rw f e; known_is = rw (f, le-leb 1 (spelled list word) (omega arith)); small = omega (arith, spelled_few list word) }

module _ (list text places : List ℕ) {words : List (List ℕ)} {order : ℕ} (are : words ≡ fields_from text places 1 order) where
  pub one_word : order ≡ 1 → (a : Option ℕ) → WordIs list (field_at text places 1) a
      → WordsAre list words order (record { first = unwrap_or a 0; second = 0; third = 0; known = is_some a })
  one_word e a p =
      rw (are, e)
      (record {
        numbers_are = rw p.number_is;
        known_is = p.known_is ∙ sym (and-true (is_known list (field_at text places 1)));
        small = record { first_small = p.small; second_small = omega arith; third_small = omega arith };
      })

  pub two_words : order ≡ 2 → (a b : Option ℕ) (k : Bool) → WordIs list (field_at text places 1) a → WordIs list (field_at text places 2) b → k ≡ is_some a && is_some b
      → WordsAre list words order (record { first = unwrap_or a 0; second = unwrap_or b 0; third = 0; known = k })
  two_words e a b k p q h =
      rw (are, e)
      (record {
        numbers_are = rw (p.number_is, q.number_is);
        known_is = h ∙ rw (p.known_is, q.known_is, and-true);
        small = record { first_small = p.small; second_small = q.small; third_small = omega arith };
      })

  pub three_words : order ≡ 3 → (a b c : Option ℕ) (k m : Bool) → WordIs list (field_at text places 1) a → WordIs list (field_at text places 2) b → WordIs list (field_at text places 3) c
      → k ≡ is_some a && is_some b → m ≡ k && is_some c
      → WordsAre list words order (record { first = unwrap_or a 0; second = unwrap_or b 0; third = unwrap_or c 0; known = m })
  three_words e a b c k m p q r h i =
      rw (are, e)
      (record {
        numbers_are = rw (p.number_is, q.number_is, r.number_is);
        known_is = i ∙ rw (h, p.known_is, q.known_is, r.known_is, and-true, and_assoc);
        small = record { first_small = p.small; second_small = q.small; third_small = r.small };
      })
