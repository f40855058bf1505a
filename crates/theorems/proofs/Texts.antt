-- The lines of a text as bytes: a text behind one that is ended (`lines_appended`), and the text of lines (`lines_joined`).
use Prim.Native.Nat.{ℕ}
use mathlib.Core.Path.{◌≡◌, refl, sym, ap, ◌∙◌}
use mathlib.Core.Bool.{Bool, true, false, not, ◌&&◌, false≢true}
use mathlib.Core.List.{List, [], ◌∷◌, ◌++◌, map, map-append, drop_last, append-nil}
use borrow.Author.Tests.{not-true, eq-eqb}
use lib.Dec.{eqb}
use lib.IntN.{ℤ}
use Rattle.laws.specs.Lists.{all, without_by, is_empty}
use Rattle.laws.proofs.Lists.{all_++, all_without, map_without}
use Rattle.laws.proofs.Tests.{by_test, both, both_of, if_ind}
use Rattle.meaning.specs.Numerals.{newline, comma, before, split, last_part, is_ended, lines_of}
use Rattle.meaning.specs.Book.{is_p, is_text_line, is_book_text, line_numbers, text_lines}
use Rattle.meaning.specs.Revision.{without_entry}

-- the lines of a text, each without its byte 10
abbrev pub byte_lines : List ℕ → List (List ℕ)
byte_lines text = drop_last (split newline text)

-- the text of lines: "Each line ends in byte 10"
abbrev pub joined : List (List ℕ) → List ℕ
joined [] = []
joined (line ∷ lines) = line ++ (newline ∷ joined lines)

-- the line as numbers
abbrev pub numbers_of : List ℕ → List ℤ
numbers_of line = line_numbers (split comma line)

-- the text without its k-th P line
unfoldable pub text_without : ℕ → List ℕ → List ℕ
text_without k text = joined (without_by (λ line. is_p (numbers_of line)) k (byte_lines text))

-- a text of one line, and its numbers
pub record LineText (more : List ℕ) (line : List ℤ) : Type 0 where
  pub is_text : is_book_text more ≡ true
  pub numbers : text_lines more ≡ line ∷ []

empty_map : (lines : List (List (List ℕ))) → is_empty (map line_numbers lines) ≡ is_empty lines
empty_map [] = refl
empty_map (line ∷ lines) = refl

-- ════ a text behind another

-- a text has at least one part
split_some : (text : List ℕ) → is_empty (split newline text) ≡ false
unfolding split
split_some [] = refl
split_some (b ∷ text) = if_ind (eqb b newline) (λ (parts : List (List ℕ)). is_empty parts ≡ false) (λ t. refl) (λ f. of (split newline text))
  where
    of : (parts : List (List ℕ)) → is_empty (before b parts) ≡ false
    of [] = refl
    of (part ∷ parts) = refl

module _ (more : List (List ℕ)) where
  -- `both` are the parts of two texts together, where those of the first are `parts`
  abbrev Follows : List (List ℕ) → List (List ℕ) → Type 0
  Follows parts both = is_empty (last_part parts) ≡ true → both ≡ drop_last parts ++ more

  line_end : (parts both : List (List ℕ)) → is_empty parts ≡ false → Follows parts both → Follows ([] ∷ parts) ([] ∷ both)
  line_end [] both s f e = absurd (false≢true (sym s))
  line_end (part ∷ parts) both s f e = ap (λ (ps : List (List ℕ)). [] ∷ ps) (f e)

  one_byte : (b : ℕ) (parts both : List (List ℕ)) → Follows parts both → Follows (before b parts) (before b both)
  one_byte b [] both f e = absurd (false≢true e)
  one_byte b (part ∷ []) both f e = absurd (false≢true e)
  one_byte b (part ∷ next ∷ parts) both f e = rw (f e)

split_appended : (text more : List ℕ) → is_empty (last_part (split newline text)) ≡ true → split newline (text ++ more) ≡ byte_lines text ++ split newline more
unfolding split
split_appended [] more = λ e. refl
split_appended (b ∷ text) more =
    by_test (eqb b newline)
    (λ t. rw t (line_end (split newline more) (split newline text) (split newline (text ++ more)) (split_some text) (split_appended text more)))
    (λ f. rw f (one_byte (split newline more) b (split newline text) (split newline (text ++ more)) (split_appended text more)))

-- the last part of two lists of parts
last_of : (parts more : List (List ℕ)) → is_empty more ≡ false → last_part (parts ++ more) ≡ last_part more
last_of [] more s = refl
last_of (part ∷ []) [] s = absurd (false≢true (sym s))
last_of (part ∷ []) (next ∷ more) s = refl
last_of (part ∷ next ∷ parts) more s = last_of (next ∷ parts) more s

dropped : {A : Type 0} (parts more : List A) → is_empty more ≡ false → drop_last (parts ++ more) ≡ parts ++ drop_last more
dropped [] more s = refl
dropped (part ∷ []) [] s = absurd (false≢true (sym s))
dropped (part ∷ []) (next ∷ more) s = refl
dropped {A} (part ∷ next ∷ parts) more s = ap (λ (ps : List A). part ∷ ps) (dropped (next ∷ parts) more s)

module _ (text more : List ℕ) (e : is_ended text ≡ true) where
  lines_of_appended : lines_of (text ++ more) ≡ lines_of text ++ lines_of more
  unfolding lines_of is_ended
  lines_of_appended =
      ap (λ (parts : List (List ℕ)). map (split comma) (drop_last parts)) (split_appended text more e)
      ∙ ap (map (split comma)) (dropped (byte_lines text) (split newline more) (split_some more)) ∙ map-append (split comma) (byte_lines text) (byte_lines more)

  -- "after the last line": the lines of the one, then those of the other
  pub lines_appended : text_lines (text ++ more) ≡ text_lines text ++ text_lines more
  unfolding text_lines
  lines_appended = ap (map line_numbers) lines_of_appended ∙ map-append line_numbers (lines_of text) (lines_of more)

  ended_appended : is_ended (text ++ more) ≡ is_ended more
  unfolding is_ended
  ended_appended = ap (λ (parts : List (List ℕ)). is_empty (last_part parts)) (split_appended text more e) ∙ ap is_empty (last_of (byte_lines text) (split newline more) (split_some more))

  -- question 1 passes it where it passes both
  pub text_appended : is_book_text text ≡ true → is_book_text more ≡ true → is_book_text (text ++ more) ≡ true
  unfolding is_book_text
  text_appended t m =
      let a = both (not (is_empty (lines_of text)) && is_ended text) (all is_text_line (lines_of text)) t in
      let b = both (not (is_empty (lines_of more)) && is_ended more) (all is_text_line (lines_of more)) m in
      rw (lines_of_appended, ended_appended, (both (not (is_empty (lines_of more))) (is_ended more) b.0).1, all_++ is_text_line (lines_of text) (lines_of more), a.1, b.1)
      (some (lines_of text) (lines_of more) (both (not (is_empty (lines_of text))) (is_ended text) a.0).0)
    where
      some : {A : Type 0} (xs ys : List A) → not (is_empty xs) ≡ true → (not (is_empty (xs ++ ys)) && true) && true ≡ true
      some [] ys s = absurd (false≢true s)
      some (x ∷ xs) ys s = refl

  -- and where it passes it, it passes the other, if that has a line
  pub appended_text : is_book_text (text ++ more) ≡ true → is_empty (text_lines more) ≡ false → is_book_text more ≡ true
  unfolding is_book_text text_lines
  appended_text t s =
      let a = both (not (is_empty (lines_of (text ++ more))) && is_ended (text ++ more)) (all is_text_line (lines_of (text ++ more))) t in
      let b = both (all is_text_line (lines_of text)) (all is_text_line (lines_of more)) (sym (all_++ is_text_line (lines_of text) (lines_of more)) ∙ ap (all is_text_line) (sym lines_of_appended) ∙ a.1) in
      rw (sym (empty_map (lines_of more)) ∙ s, sym ended_appended ∙ (both (not (is_empty (lines_of (text ++ more)))) (is_ended (text ++ more)) a.0).1, b.1)

-- ════ the text of lines

-- no such byte in it
abbrev pub is_free : ℕ → List ℕ → Bool
is_free sep part = all (λ b. not (eqb b sep)) part

module _ (sep : ℕ) where
  -- the first part, and all of a text of one part
  pub split_first : (part rest : List ℕ) → is_free sep part ≡ true → split sep (part ++ (sep ∷ rest)) ≡ part ∷ split sep rest
  unfolding split
  split_first [] rest c = rw (eq-eqb sep sep refl)
  split_first (b ∷ part) rest c =
      let h = both (not (eqb b sep)) (is_free sep part) c in
      rw (not-true (eqb b sep) h.0, split_first part rest h.1)

  pub split_alone : (part : List ℕ) → is_free sep part ≡ true → split sep part ≡ part ∷ []
  unfolding split
  split_alone [] c = refl
  split_alone (b ∷ part) c =
      let h = both (not (eqb b sep)) (is_free sep part) c in
      rw (not-true (eqb b sep) h.0, split_alone part h.1)

-- no byte 10 in the line
abbrev is_clean : List ℕ → Bool
is_clean line = is_free newline line

split_joined : (lines : List (List ℕ)) → all is_clean lines ≡ true → split newline (joined lines) ≡ lines ++ ([] ∷ [])
unfolding split
split_joined [] c = refl
split_joined (line ∷ lines) c = let h = both (is_clean line) (all is_clean lines) c in split_first newline line (joined lines) h.0 ∙ rw (split_joined lines h.1)

-- the lines of their text are they, and it is ended
pub lines_joined : (lines : List (List ℕ)) → all is_clean lines ≡ true → (byte_lines (joined lines) ≡ lines) × (is_ended (joined lines) ≡ true)
unfolding is_ended
lines_joined lines c =
    (ap drop_last (split_joined lines c) ∙ dropped lines ([] ∷ []) refl ∙ append-nil lines, ap (λ (parts : List (List ℕ)). is_empty (last_part parts)) (split_joined lines c) ∙ ap is_empty (last_of lines ([] ∷ []) refl))

-- and the lines of any text are such lines
clean_parts : (text : List ℕ) → all is_clean (split newline text) ≡ true
unfolding split
clean_parts [] = refl
clean_parts (b ∷ text) =
    if_ind (eqb b newline) (λ (parts : List (List ℕ)). all is_clean parts ≡ true) (λ t. clean_parts text) (λ f. of (split newline text) f (clean_parts text))
  where
    of : (parts : List (List ℕ)) → eqb b newline ≡ false → all is_clean parts ≡ true → all is_clean (before b parts) ≡ true
    of [] f c = rw f
    of (part ∷ parts) f c = rw f c

all_dropped : {A : Type 0} (test : A → Bool) (xs : List A) → all test xs ≡ true → all test (drop_last xs) ≡ true
all_dropped test [] c = refl
all_dropped test (x ∷ []) c = refl
all_dropped test (x ∷ y ∷ xs) c = let h = both (test x) (all test (y ∷ xs)) c in both_of h.0 (all_dropped test (y ∷ xs) h.1)

-- ════ a text without one of its P lines

module _ (k : ℕ) (text : List ℕ) where
  abbrev left : List (List ℕ)
  left = without_by (λ line. is_p (numbers_of line)) k (byte_lines text)

  left_joined : (byte_lines (joined left) ≡ left) × (is_ended (joined left) ≡ true)
  left_joined = lines_joined left (all_without is_clean (λ line. is_p (numbers_of line)) k (byte_lines text) (all_dropped is_clean (split newline text) (clean_parts text)))

  ended_without : is_ended (text_without k text) ≡ true
  unfolding text_without
  ended_without = left_joined.1

  lines_of_without : lines_of (text_without k text) ≡ without_by (λ fields. is_p (line_numbers fields)) k (lines_of text)
  unfolding lines_of text_without
  lines_of_without = ap (map (split comma)) left_joined.0 ∙ map_without (split comma) (λ fields. is_p (line_numbers fields)) k (byte_lines text)

  -- its lines are those without the entry
  pub lines_without : text_lines (text_without k text) ≡ without_entry k (text_lines text)
  unfolding text_lines without_entry
  lines_without = ap (map line_numbers) lines_of_without ∙ map_without line_numbers is_p k (lines_of text)

  -- question 1 passes it where a line is left
  pub text_without_lem : is_book_text text ≡ true → is_empty (without_entry k (text_lines text)) ≡ false → is_book_text (text_without k text) ≡ true
  unfolding is_book_text text_lines
  text_without_lem t s =
      let a = both (not (is_empty (lines_of text)) && is_ended text) (all is_text_line (lines_of text)) t in
      let some : is_empty (lines_of (text_without k text)) ≡ false = sym (empty_map (lines_of (text_without k text))) ∙ ap is_empty lines_without ∙ s in
      rw (some, ended_without, lines_of_without) (all_without is_text_line (λ fields. is_p (line_numbers fields)) k (lines_of text) a.1)
