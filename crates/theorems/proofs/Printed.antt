-- A number that is printed and read is that number, and a P line that is printed and read is that line (`printed_lines`, `printed_text`): so every line that
-- can be added to a loaded book can stand in a text.
use Prim.Native.Nat.{ℕ, zero, suc, ◌+◌, ◌-◌, ◌*◌, ◌/◌, ◌%◌, ◌^◌, ◌≤◌, ◌<◌}
use native.Mathlib.Omega.{arith}
use mathlib.Core.Path.{◌≡◌, refl, sym, ap, ◌∙◌}
use mathlib.Core.Bool.{Bool, true, false, not, ◌&&◌, true≢false, false≢true}
use mathlib.Core.List.{List, [], ◌∷◌, ◌++◌, map, append_assoc, append-nil, drop_last}
use borrow.Author.Tests.{lt-ltb, le-ltb, ltb-true, ltb-false, le-leb, leb-true, ne_eqb}
use lib.Dec.{eqb, leb, ltb}
use lib.IntN.{ℤ, pos, negsuc, neg_ℤ}
use lib.ListN.{length, get_or, drop, length-append}
use lib.Signed.{le_z}
use Rattle.laws.specs.Integers.{Within, nat_of}
use Rattle.laws.specs.Lists.{all, concat, is_empty}
use Rattle.laws.proofs.Lists.{all_++}
use Rattle.laws.proofs.Linear.{signed}
use Rattle.laws.proofs.Tests.{by_test, both, both_of}
use Rattle.meaning.specs.Numerals.{newline, comma, split, lines_of, is_ended, is_digit, is_positive, is_natural, is_number, digits_value, value_of}
use Rattle.meaning.specs.Book.{in_list, is_phrase_word, is_p, is_whole, is_in_range, kind_of_byte, kind_of_letter, is_text_line, is_book_text, line_numbers, text_lines}
use Rattle.meaning.specs.Bounds.{word_most, score_most}
use Rattle.meaning.specs.Render.{digits_before, decimal, printed_line}
use Rattle.meaning.proofs.Ranges.{kind_is, PLine, p_line}
use Rattle.theorems.proofs.Texts.{LineText, is_free, split_first, split_alone, byte_lines, joined, lines_joined}

-- ════ digits

-- one turn of `digits_before`
one_digit : (fuel n : ℕ) (rest : List ℕ) → n < 10 → digits_before (suc fuel) n rest ≡ (48 + n) ∷ rest
one_digit fuel n rest h = rw (lt-ltb n 10 h, digits_before)

last_digit : (fuel n : ℕ) (rest : List ℕ) → 10 ≤ n → digits_before (suc fuel) n rest ≡ digits_before fuel (n / 10) ((48 + n % 10) ∷ rest)
last_digit fuel n rest h = rw (le-ltb n 10 h, digits_before)

is_digit_lem : (m : ℕ) → m < 10 → is_digit (48 + m) ≡ true
is_digit_lem m h = both_of (le-leb 48 (48 + m) (omega arith)) (le-leb (48 + m) 57 (omega arith))

-- their value is the number
digits_value_lem : (fuel n : ℕ) (rest : List ℕ) → n < fuel → digits_value 0 (digits_before fuel n rest) ≡ digits_value n rest
digits_value_lem zero n rest h = absurd (omega arith)
digits_value_lem (suc fuel) n rest h =
    by_test (ltb n 10)
    (λ t. let e : 0 * 10 + (48 + n - 48) ≡ n = omega arith in ap (digits_value 0) (one_digit fuel n rest (ltb-true n 10 t)) ∙ ap (λ (m : ℕ). digits_value m rest) e)
    (λ f. let l = ltb-false n 10 f in
    let e : n / 10 * 10 + (48 + n % 10 - 48) ≡ n = omega arith in
    ap (digits_value 0) (last_digit fuel n rest l) ∙ digits_value_lem fuel (n / 10) ((48 + n % 10) ∷ rest) (omega arith) ∙ ap (λ (m : ℕ). digits_value m rest) e)

-- a first digit that is not 0, and further ones before what follows
record Digits (n : ℕ) (bytes after : List ℕ) : Type 0 where
  pub first : ℕ
  pub rest : List ℕ
  pub is : bytes ≡ first ∷ (rest ++ after)
  pub low : 49 ≤ first
  pub high : first ≤ 57
  pub digits : all is_digit rest ≡ true
  pub few : (k : ℕ) → n < 10 ^ suc k → length rest ≤ k

more_digits_lem : (fuel n : ℕ) (after : List ℕ) → 10 ≤ n → Digits (n / 10) (digits_before fuel (n / 10) ((48 + n % 10) ∷ after)) ((48 + n % 10) ∷ after) → Digits n (digits_before (suc fuel) n after) after
more_digits_lem fuel n after l r = record {
  first = r.first;
  rest = r.rest ++ ((48 + n % 10) ∷ []);
  is = last_digit fuel n after l ∙ r.is ∙ ap (λ (l : List ℕ). r.first ∷ l) (sym (append_assoc r.rest ((48 + n % 10) ∷ []) after));
  low = r.low;
  high = r.high;
  digits = all_++ is_digit r.rest ((48 + n % 10) ∷ []) ∙ rw (r.digits, is_digit_lem (n % 10) (omega arith));
  few = more r.rest (48 + n % 10) r.few;
}
  where
    more : (rest : List ℕ) (d : ℕ) → ((k : ℕ) → n / 10 < 10 ^ suc k → length rest ≤ k) → (k : ℕ) → n < 10 ^ suc k → length (rest ++ (d ∷ [])) ≤ k
    more rest d few zero m = absurd (omega arith)
    more rest d few (suc k) m = omega (arith, length-append rest (d ∷ []), few k (omega arith))

digits_of : (fuel n : ℕ) (after : List ℕ) → n < fuel → 1 ≤ n → Digits n (digits_before fuel n after) after
digits_of zero n after h p = absurd (omega arith)
digits_of (suc fuel) n after h p =
    by_test (ltb n 10)
    (λ t. let l = ltb-true n 10 t in record { first = 48 + n; rest = []; is = one_digit fuel n after l; low = omega arith; high = omega arith; digits = refl; few = λ k m. omega arith })
    (λ f. let l = ltb-false n 10 f in more_digits_lem fuel n after l (digits_of fuel (n / 10) ((48 + n % 10) ∷ after) (omega arith) (omega arith)))

-- ════ numbers

-- the digits of a number that is not 0
positive_digits : (n : ℕ) → Digits (suc n) (digits_before (suc (suc n)) (suc n) []) []
positive_digits n = digits_of (suc (suc n)) (suc n) [] (omega arith) (omega arith)

-- a comma, a byte 10 and, but for its first byte, a minus are below every byte of a number
abbrev is_above : ℕ → Bool
is_above b = leb 45 b

all_above : (bytes : List ℕ) → all is_digit bytes ≡ true → all is_above bytes ≡ true
all_above [] h = refl
all_above (b ∷ bytes) h =
    let d = both (is_digit b) (all is_digit bytes) h in
    both_of (le-leb 45 b (omega (arith, leb-true 48 b (both (leb 48 b) (leb b 57) d.0).0))) (all_above bytes d.1)

module _ (n : ℕ) where
  abbrev own : Digits (suc n) (digits_before (suc (suc n)) (suc n) []) []
  own = positive_digits n

  own_is : digits_before (suc (suc n)) (suc n) [] ≡ own.first ∷ own.rest
  own_is = own.is ∙ ap (λ (l : List ℕ). own.first ∷ l) (append-nil own.rest)

  own_above : all is_above (digits_before (suc (suc n)) (suc n) []) ≡ true
  own_above = ap (all is_above) own_is ∙ both_of (le-leb 45 own.first (omega (arith, own.low))) (all_above own.rest own.digits)

  own_value : digits_value 0 (digits_before (suc (suc n)) (suc n) []) ≡ suc n
  own_value = digits_value_lem (suc (suc n)) (suc n) [] (omega arith)

  own_positive : suc n < 10 ^ 7 → is_positive (digits_before (suc (suc n)) (suc n) []) ≡ true
  unfolding is_positive
  own_positive h =
      let l = own.low in
      let m = own.high in
      ap is_positive own_is
      ∙ rw (ne_eqb own.first 48 (omega arith), le-leb 48 own.first (omega arith), le-leb own.first 57 (omega arith), own.digits, le-leb (length own.rest) 6 (own.few 6 h))

above : (z : ℤ) → all is_above (decimal z) ≡ true
unfolding decimal
above (pos zero) = refl
above (pos (suc n)) = own_above n
above (negsuc n) = own_above n

-- what is printed is read again
pub value_decimal : (z : ℤ) → value_of (decimal z) ≡ z
unfolding value_of decimal
value_decimal (pos zero) = refl
value_decimal (pos (suc n)) = ap value_of (own_is n) ∙ rw (ne_eqb (own n).first 45 (omega (arith, (own n).low))) (ap (λ (l : List ℕ). pos (digits_value 0 l)) (sym (own_is n)) ∙ ap pos (own_value n))
value_decimal (negsuc n) = ap (λ (m : ℕ). neg_ℤ (pos m)) (own_value n)

-- "1 to 7 digits"
abbrev pub is_short : ℤ → Bool
is_short (pos n) = leb n 9_999_999
is_short (negsuc n) = leb (suc n) 9_999_999

pub number_decimal : (z : ℤ) → is_short z ≡ true → is_number (decimal z) ≡ true
unfolding is_number is_natural decimal
number_decimal (pos zero) h = refl
number_decimal (pos (suc n)) h =
    let l = (own n).low in
    ap is_number (own_is n) ∙ rw (ne_eqb (own n).first 45 (omega arith), ne_eqb (own n).first 48 (omega arith)) (ap is_positive (sym (own_is n)) ∙ own_positive n (omega (arith, leb-true (suc n) 9_999_999 h)))
number_decimal (negsuc n) h = own_positive n (omega (arith, leb-true (suc n) 9_999_999 h))

-- ════ lines

free : (sep : ℕ) (bytes : List ℕ) → sep < 45 → all is_above bytes ≡ true → is_free sep bytes ≡ true
free sep [] l h = refl
free sep (b ∷ bytes) l h =
    let a = both (is_above b) (all is_above bytes) h in
    let e : eqb b sep ≡ false = ne_eqb b sep (omega (arith, leb-true 45 b a.0)) in
    rw e (free sep bytes l a.1)

-- each number after a comma
abbrev pub fields_of : List ℤ → List ℕ
fields_of numbers = concat (map (λ z. comma ∷ decimal z) numbers)

pub split_fields : (field : List ℕ) (numbers : List ℤ) → is_free comma field ≡ true → split comma (field ++ fields_of numbers) ≡ field ∷ map decimal numbers
split_fields field [] f = ap (split comma) (append-nil field) ∙ split_alone comma field f
split_fields field (z ∷ numbers) f =
    split_first comma field (decimal z ++ fields_of numbers) f
    ∙ ap (λ (l : List (List ℕ)). field ∷ l) (split_fields (decimal z) numbers (free comma (decimal z) (omega arith) (above z)))

pub no_line_end : (numbers : List ℤ) → is_free newline (fields_of numbers) ≡ true
no_line_end [] = refl
no_line_end (z ∷ numbers) = all_++ (λ b. not (eqb b newline)) (decimal z) (fields_of numbers) ∙ rw (free newline (decimal z) (omega arith) (above z), no_line_end numbers)

pub values : (numbers : List ℤ) → map value_of (map decimal numbers) ≡ numbers
values [] = refl
values (z ∷ numbers) = rw (value_decimal z, values numbers)

are_numbers : (numbers : List ℤ) → all is_short numbers ≡ true → all is_number (map decimal numbers) ≡ true
are_numbers [] h = refl
are_numbers (z ∷ numbers) h = let s = both (is_short z) (all is_short numbers) h in both_of (number_decimal z s.0) (are_numbers numbers s.1)

is_line : (numbers : List ℤ) → is_empty numbers ≡ false → all is_short numbers ≡ true → is_text_line ((80 ∷ []) ∷ map decimal numbers) ≡ true
unfolding is_text_line kind_of_letter kind_of_byte
is_line [] s h = absurd (true≢false s)
is_line (z ∷ numbers) s h = are_numbers (z ∷ numbers) h

-- the text of a P line: "P,a,b,x1..xa,y1..yb,g"
abbrev pub text_of : List ℤ → List ℕ
text_of line = printed_line 80 (drop 1 line)

module _ (numbers : List ℤ) where
  abbrev text : List ℕ
  text = printed_line 80 numbers

  as_joined : text ≡ joined ((80 ∷ fields_of numbers) ∷ [])
  unfolding printed_line
  as_joined = refl

  one_line : (byte_lines text ≡ (80 ∷ fields_of numbers) ∷ []) × (is_ended text ≡ true)
  one_line = rw as_joined (lines_joined ((80 ∷ fields_of numbers) ∷ []) (rw (no_line_end numbers)))

  fields_are : lines_of text ≡ ((80 ∷ []) ∷ map decimal numbers) ∷ []
  unfolding lines_of
  fields_are = ap (map (split comma)) one_line.0 ∙ ap (λ (l : List (List ℕ)). l ∷ []) (split_fields (80 ∷ []) numbers refl)

  numbers_are : text_lines text ≡ (pos 2 ∷ numbers) ∷ []
  unfolding text_lines kind_of_letter kind_of_byte
  numbers_are = ap (map line_numbers) fields_are ∙ rw (values numbers)

  text_is : is_empty numbers ≡ false → all is_short numbers ≡ true → is_book_text text ≡ true
  unfolding is_book_text
  text_is s h = rw (fields_are, one_line.1, is_line numbers s h)

-- a P line in a text is that line
pub printed_lines : (line : List ℤ) → is_p line ≡ true → text_lines (text_of line) ≡ line ∷ []
printed_lines [] p = absurd (false≢true p)
printed_lines (z ∷ numbers) p = numbers_are numbers ∙ rw (kind_is (z ∷ numbers) 2 p)

-- ════ the numbers of a line that can be added have 7 digits at most

short_natural : (z : ℤ) → 1 ≤ nat_of z → nat_of z ≤ 8 → is_short z ≡ true
short_natural (pos n) l h = le-leb n 9_999_999 (omega arith)
short_natural (negsuc n) l h = absurd (omega arith)

short_word : (z : ℤ) → is_phrase_word z ≡ true → is_short z ≡ true
short_word (pos n) w = let h = (both (le_z (pos 1) (pos n)) (le_z (pos n) (pos word_most)) w).1 in le-leb n 9_999_999 (omega (arith, signed))
short_word (negsuc n) w = absurd (false≢true w)

short_score : (z : ℤ) → Within score_most z → is_short z ≡ true
short_score (pos n) w = le-leb n 9_999_999 (omega arith)
short_score (negsuc n) w = le-leb (suc n) 9_999_999 (omega arith)

all_short : (words : List ℤ) (last : ℕ) → suc last ≡ length words → all is_phrase_word (drop_last words) ≡ true → is_short (get_or words last (pos 0)) ≡ true → all is_short words ≡ true
all_short [] last l w e = refl
all_short (z ∷ []) zero l w e = rw e
all_short (z ∷ []) (suc last) l w e = absurd (omega arith)
all_short (z ∷ y ∷ words) zero l w e = absurd (omega arith)
all_short (z ∷ y ∷ words) (suc last) l w e =
    let h = both (is_phrase_word z) (all is_phrase_word (drop_last (y ∷ words))) w in
    both_of (short_word z h.0) (all_short (y ∷ words) last (omega arith) h.1 e)

short_line : (line : List ℤ) → PLine line → (is_empty (drop 1 line) ≡ false) × (all is_short (drop 1 line) ≡ true)
short_line [] p = absurd (omega (arith, p.long))
short_line (z ∷ []) p = absurd (omega (arith, p.long))
short_line (z ∷ a ∷ []) p = absurd (omega (arith, p.long))
short_line (z ∷ a ∷ b ∷ rest) p =
    let l = p.long in
    let e : 3 + nat_of a + nat_of b ≡ suc (suc (suc (nat_of a + nat_of b))) = omega arith in
    (refl, both_of (short_natural a p.a_from p.a_to) (both_of (short_natural b p.b_from p.b_to) (all_short rest (nat_of a + nat_of b) (omega arith) p.words (short_score (get_or rest (nat_of a + nat_of b) (pos 0)) (rw e at p.score_within)))))

-- so it can stand in a text
pub printed_text : (line : List ℤ) → is_p line && is_whole in_list line ≡ true → is_in_range line ≡ true → LineText (text_of line) line
printed_text line w r =
    let h = both (is_p line) (is_whole in_list line) w in
    let s = short_line line (p_line in_list line h.0 h.1 r) in
    record { is_text = text_is (drop 1 line) s.0 s.1; numbers = printed_lines line h.0 }
