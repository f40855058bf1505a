-- A book without D and U lines is as it was before Ticket 2: every triple scores as in document 01, so every refusal, reply, list and
-- state of the base is unchanged. What document 01 says of its three kinds of lines stands here once more, as definitions; the
-- theorems are `base_score`, `base_refusal`, `base_derivation`, `base_search`, for a loaded list `loaded_refusal`,
-- `loaded_scoring` and `loaded_decoding`, and for a text `base_reading`. Ticket 3's counts, which document 01 has not, are as in any book (Supplying has more).
use Prim.Native.Nat.{ℕ, zero, suc, ◌*◌, ◌/◌}
use native.Mathlib.Omega.{arith}
use mathlib.Core.Path.{◌≡◌, refl, ap, ◌∙◌}
use mathlib.Core.Bool.{Bool, true, false, not, ◌&&◌, ◌||◌, cond, and-true, and-false}
use mathlib.Core.List.{List, [], ◌∷◌, map}
use mathlib.Core.Option.{Option}
use borrow.Author.Tests.{eqb-true}
use lib.Dec.{eqb, leb}
use lib.IntN.{ℤ, pos, negsuc, ◌+ℤ◌, ◌*ℤ◌, +ℤ_idl}
use lib.Signed.{le_z}
use lib.ListN.{length, get_or, take, drop}
use Rattle.laws.specs.Integers.{eqℤ}
use Rattle.laws.specs.Lists.{all, any, keep, count, is_empty, eq_list, none_twice, sumℤ}
use Rattle.laws.proofs.Tests.{by_test, both, neither, clash}
use Rattle.laws.proofs.Order.{yes_≡}
use Rattle.search_theory.specs.Search.{Problem, set_of, run, best}
use Rattle.meaning.specs.Questions.{◌unless◌, ◌orelse◌}
use Rattle.meaning.specs.Book.{Form, in_text, in_list, number_at, natural_at, words_at, Kind, kind_b, kind_p, kind_t, by_kind_from, kind_from, kind_of_byte, kind_of_letter, is_text_line, is_book_text, line_numbers, text_lines, loaded_book, loaded_of, read_refusal, is_b, is_p, is_t, is_u, is_d, size_of, is_whole, cut_lines, loaded_lines, is_one_bFirst, is_in_range, is_not_too_long, is_counted, order_of, gram_numbers, is_no_triple_twice, is_no_shorter_twice, lines_refusal, book_refusal, Gram, Book, gram_of, is_gram, book_of_lines, book_of}
use Rattle.meaning.specs.Numerals.{lines_of, is_ended, is_number, value_of}
use Rattle.meaning.specs.Direction.{word_count, direction_refusal}
use Rattle.meaning.specs.Derivation.{listed, score_or, word_score, pair_score, backed_off, triple_score, words_score, entry_at, jump, jumps, target_words, score_of, supplied_of}
use Rattle.meaning.specs.State.{Key, Hyp, start, words_covered, is_equal, may_extend, next_key, gain, is_better}
use Rattle.meaning.specs.Search.{is_off, fitting_steps, is_within, entered, last_set, answer}
use Rattle.meaning.specs.Reply.{Reply, reply, written_if, cleared_if, Lent, steps_refusal, proposal_refusal, score_proposal, before_search, after_search, decode_refusal, decode, answer_score, answer_steps, decoded_steps, decoded_words, decoded_store}
use Rattle.meaning.specs.declared.Step.{Step}
use Rattle.meaning.specs.declared.Answer.{Answer}
use Rattle.meaning.proofs.Ranges.{lines_passed}

-- ════ what document 01 says of lines

-- "the letters B, P, T as 1, 2, 3"
abbrev pub document_kinds : List Kind
document_kinds = kind_b ∷ kind_p ∷ kind_t ∷ []

abbrev pub document_size : Form → List ℤ → ℕ
document_size form line = by_kind_from 0 (λ row. row.size form line) line 1 document_kinds

-- question 2, of a line: "Has each line the fields of its kind, with a and b in range?"
abbrev pub document_whole : Form → List ℤ → Bool
document_whole form line = not (is_empty line) && eqb (length line) (document_size form line)

-- question 4, of a line: "Is every number in its range?"
abbrev pub document_in_range : List ℤ → Bool
document_in_range line = by_kind_from false (λ row. row.ranges line) line 1 document_kinds

-- question 5: "Are there no more P and T lines than allowed?"; "At most 4,096 P and 8,192 T lines."
abbrev pub document_not_too_long : List (List ℤ) → Bool
document_not_too_long lines = leb (count is_p lines) 4_096 && leb (count is_t lines) 8_192

-- question 6: "Do no two T lines share v, w and y?"
abbrev pub document_no_triple_twice : List (List ℤ) → Bool
document_no_triple_twice lines = none_twice (eq_list eqℤ) (map (λ line. take 3 (drop 1 line)) (keep is_t lines))

-- questions 2 to 6, and Ticket 5's question of a loaded book's counts, "21, after 5", which every text passes
abbrev pub document_refusal : Form → List (List ℤ) → ℕ
document_refusal form lines =
    2 unless all (document_whole form) lines
    orelse 3 unless is_one_bFirst lines
    orelse 4 unless all document_in_range lines
    orelse 5 unless document_not_too_long lines
    orelse 21 unless is_counted form lines
    orelse 6 unless document_no_triple_twice lines

-- the lines of a loaded list
abbrev pub document_cut : ℕ → List ℤ → List (List ℤ)
document_cut zero numbers = []
document_cut (suc fuel) [] = []
document_cut (suc fuel) (z ∷ numbers) =
    elim (document_size in_list (z ∷ numbers)) [
      | zero ↦ (z ∷ numbers) ∷ []
      | suc size ↦ (z ∷ take size numbers) ∷ document_cut fuel (drop size numbers)
    ]

abbrev pub document_lines : List ℤ → List (List ℤ)
document_lines loaded = document_cut (length loaded) loaded

-- ════ .. of texts

abbrev pub document_letter : List ℕ → ℕ
document_letter [] = 0
document_letter (b ∷ []) = kind_from b 1 document_kinds
document_letter (b ∷ c ∷ bytes) = 0

-- "a letter B, P or T and then one or more decimal numbers .., each after one comma"
abbrev pub document_text_line : List (List ℕ) → Bool
document_text_line [] = false
document_text_line (letter ∷ []) = false
document_text_line (letter ∷ field ∷ fields) = not (eqb (document_letter letter) 0) && all is_number (field ∷ fields)

-- question 1: "Is the text one or more lines, each .."
abbrev pub document_text : List ℕ → Bool
document_text text = not (is_empty (lines_of text)) && is_ended text && all document_text_line (lines_of text)

abbrev pub document_numbers : List (List ℕ) → List ℤ
document_numbers [] = []
document_numbers (letter ∷ fields) = pos (document_letter letter) ∷ map value_of fields

abbrev pub document_text_lines : List ℕ → List (List ℤ)
document_text_lines text = map document_numbers (lines_of text)

-- ════ .. and of scores

-- "T,v,w,y,s: the score s of target word y after the words v and w."
abbrev pub is_triple_of : ℕ → ℕ → ℕ → List ℤ → Bool
is_triple_of v w y line = is_t line && (eqb (natural_at line 1) v && (eqb (natural_at line 2) w && eqb (natural_at line 3) y))

-- "A triple with no T line scores u."
abbrev pub listed_or : ℤ → ℕ → ℕ → ℕ → List (List ℤ) → ℤ
listed_or u v w y [] = u
listed_or u v w y (line ∷ lines) = cond (is_triple_of v w y line) (number_at line 4) (listed_or u v w y lines)

-- u is the third number of the B line
abbrev pub document_score : List (List ℤ) → ℕ → ℕ → ℕ → ℤ
document_score lines v w y = listed_or (number_at (get_or lines 0 []) 3) v w y lines

-- ════ what follows from a score of the triples, in the words of the definitions

module _ (triple : ℕ → ℕ → ℕ → ℤ) where
  -- "for each target word in turn, the score of the triple it ends"
  abbrev pub words_by : ℕ → ℕ → List ℕ → ℤ
  words_by v w [] = pos 0
  words_by v w (y ∷ ys) = triple v w y +ℤ words_by w y ys

  -- "Its score is the sum of the entries' g, plus eta × jump for every step, plus, for each target word in turn, the score of the triple it ends."
  abbrev pub derivation_by : Book → List Step → ℤ
  derivation_by book steps =
      sumℤ (map (λ step. (entry_at book step.entry).g) steps)
      +ℤ sumℤ (map (λ j. book.eta *ℤ pos j) (jumps 0 steps))
      +ℤ words_by 0 0 (target_words book steps)

  -- "to the score come the entry's g, eta × jump and the scores of the triples that the entry's target words end"
  abbrev pub gain_by : Book → Key → Step → ℤ
  gain_by book k step =
      (entry_at book step.entry).g
      +ℤ book.eta *ℤ pos (jump k.r step)
      +ℤ words_by k.word1 k.word2 (entry_at book step.entry).target

-- the search whose steps add these gains
abbrev pub search_by : (Key → Step → ℤ) → Book → List ℕ → ℤ → Problem
search_by gains book direction width = record {
  Key = Key;
  Step = Step;
  same = is_equal;
  start = start (word_count direction);
  options = fitting_steps book direction;
  may = may_extend book direction;
  next = next_key book;
  gain = gains;
  size = words_covered;
  n = word_count direction;
  close = λ k. pos 0;
  better = is_better;
  in_beam = is_within width;
}

module _ (gains : Key → Step → ℤ) (book : Book) (direction : List ℕ) (width : ℤ) where
  abbrev pub entered_by : List Hyp
  entered_by = run (search_by gains book direction width)

  abbrev pub last_set_by : List Hyp
  last_set_by = set_of (search_by gains book direction width) (word_count direction) entered_by

  abbrev pub answer_by : Option Hyp
  answer_by = best (search_by gains book direction width)

  -- a decode of a book that questions 2 to 6 answer so
  module _ (book_refusal_lem : ℕ) (lent : Lent) where
    abbrev pub before_by : ℕ
    before_by =
        book_refusal_lem
        orelse direction_refusal direction
        orelse 11 unless le_z (negsuc 0) width
        orelse 12 unless (leb (word_count direction) lent.steps && leb (8 * word_count direction) lent.words)

    abbrev pub refusal_by : ℕ
    refusal_by =
        before_by
        orelse 13 unless leb (length entered_by) (lent.store / 8)
        orelse 14 unless (not (is_off width) || not (is_empty last_set_by))
        orelse 15 unless not (is_empty last_set_by)

    -- the reply, and what the lent lists hold afterwards
    abbrev pub decoded_by : List Step → List ℕ → List ℤ → Reply Answer × List Step × List ℕ × List ℤ
    decoded_by steps words store = (
      reply refusal_by (record { score = answer_score answer_by; steps = length (answer_steps answer_by); words = length (target_words book (answer_steps answer_by)); states = length entered_by; supplied = supplied_of book (answer_steps answer_by) }),
      written_if refusal_by (answer_steps answer_by) steps,
      written_if refusal_by (target_words book (answer_steps answer_by)) words,
      cleared_if before_by store,
    )

-- ════ lines that are neither U nor D

-- no line is a U line, and none is a D line
abbrev pub OfBase : List (List ℤ) → Type 0
OfBase lines = (any is_u lines ≡ false) × (any is_d lines ≡ false)

-- the first line, and the rest
split : (line : List ℤ) (lines : List (List ℤ)) → OfBase (line ∷ lines) → (is_u line ≡ false) × (is_d line ≡ false) × OfBase lines
split line lines b =
    let u = neither (is_u line) (any is_u lines) b.0 in
    let d = neither (is_d line) (any is_d lines) b.1 in
    (u.0, d.0, (u.1, d.1))

module _ (line : List ℤ) (u : is_u line ≡ false) (d : is_d line ≡ false) where
  size_same : (form : Form) → size_of form line ≡ document_size form line
  unfolding size_of
  size_same form = rw (u, d)

  whole_same : (form : Form) → is_whole form line ≡ document_whole form line
  unfolding is_whole
  whole_same form = rw (size_same form)

  range_same : is_in_range line ≡ document_in_range line
  unfolding is_in_range
  range_same = rw (u, d)

  -- it lists an n-gram exactly where it is a T line
  gram_same : is_gram line ≡ is_t line
  unfolding is_gram order_of
  gram_same =
      by_test (is_t line) (λ t. let k : number_at line 0 ≡ pos 3 = yes_≡ (number_at line 0) (pos 3) t in rw k)
      (λ t. by_test (is_b line) (λ b. rw (b, t)) (λ b. by_test (is_p line) (λ p. rw (b, p, t)) (λ p. rw (b, p, t, u, d))))

-- ════ refusals

alls_same : (form : Form) (lines : List (List ℤ)) → OfBase lines → (all (is_whole form) lines ≡ all (document_whole form) lines) × (all is_in_range lines ≡ all document_in_range lines)
alls_same form [] b = (refl, refl)
alls_same form (line ∷ lines) b =
    let h = split line lines b in
    let rest = alls_same form lines h.2 in
    (rw (whole_same line h.0 h.1 form, rest.0), rw (range_same line h.0 h.1, rest.1))

none_kept : (isOne : List ℤ → Bool) (lines : List (List ℤ)) → any isOne lines ≡ false → (keep isOne lines ≡ []) × (count isOne lines ≡ 0)
none_kept isOne [] e = (refl, refl)
none_kept isOne (line ∷ lines) e =
    let h = neither (isOne line) (any isOne lines) e in
    let rest = none_kept isOne lines h.1 in
    (rw (h.0, rest.0), rw (h.0, rest.1))

few_same : (lines : List (List ℤ)) → OfBase lines → is_not_too_long lines ≡ document_not_too_long lines
unfolding is_not_too_long
few_same lines b = rw ((none_kept is_u lines b.0).1, (none_kept is_d lines b.1).1, and-true (leb (count is_t lines) 8_192))

t_numbers : (line : List ℤ) → is_t line ≡ true → gram_numbers line ≡ take 3 (drop 1 line)
unfolding order_of
t_numbers line t = let k : number_at line 0 ≡ pos 3 = yes_≡ (number_at line 0) (pos 3) t in rw k

keys_same : (lines : List (List ℤ)) → map gram_numbers (keep is_t lines) ≡ map (λ line. take 3 (drop 1 line)) (keep is_t lines)
keys_same [] = refl
keys_same (line ∷ lines) = by_test (is_t line) (λ t. rw (t, t_numbers line t, keys_same lines)) (λ f. rw (f, keys_same lines))

twice_same : (lines : List (List ℤ)) → is_no_triple_twice lines ≡ document_no_triple_twice lines
unfolding is_no_triple_twice
twice_same lines = rw (keys_same lines)

-- question 20 is never answered
no_twenty : (lines : List (List ℤ)) → OfBase lines → is_no_shorter_twice lines ≡ true
unfolding is_no_shorter_twice
no_twenty lines b = rw ((none_kept is_u lines b.0).0, (none_kept is_d lines b.1).0)

passing_last : (k : ℕ) → k orelse 0 ≡ k
passing_last zero = refl
passing_last (suc k) = refl

-- questions 2 to 6, 21 and 20 answer as document 01's 2 to 6, with 21 after 5
pub base_refusal : (form : Form) (lines : List (List ℤ)) → OfBase lines → lines_refusal form lines ≡ document_refusal form lines
unfolding lines_refusal
base_refusal form lines b = let alls = alls_same form lines b in rw (alls.0, alls.1, few_same lines b, twice_same lines, no_twenty lines b, passing_last)

-- ════ scores

-- the n-gram of a T line
abbrev pub triple_of : List ℤ → Gram
triple_of line = record { words = natural_at line 1 ∷ natural_at line 2 ∷ natural_at line 3 ∷ []; s = number_at line 4; k = pos 0 }

t_gram : (form : Form) (line : List ℤ) → is_t line ≡ true → is_whole form line ≡ true → gram_of line ≡ triple_of line
unfolding is_whole size_of gram_of order_of
t_gram form line t w =
    let k : number_at line 0 ≡ pos 3 = yes_≡ (number_at line 0) (pos 3) t in
    let l : length line ≡ 5 = eqb-true _ _ (rw k at (both (not (is_empty line)) _ w).1) in
    rw k (by line l)
  where
    by : (x : List ℤ) → length x ≡ 5 → ◌≡◌ {A = Gram} (record { words = words_at x 1 3; s = number_at x 4; k = number_at x 5 }) (triple_of x)
    by [] e = absurd (omega arith)
    by (a ∷ []) e = absurd (omega arith)
    by (a ∷ b ∷ []) e = absurd (omega arith)
    by (a ∷ b ∷ c ∷ []) e = absurd (omega arith)
    by (a ∷ b ∷ c ∷ d ∷ []) e = absurd (omega arith)
    by (a ∷ b ∷ c ∷ d ∷ f ∷ []) e = refl
    by (a ∷ b ∷ c ∷ d ∷ f ∷ g ∷ x) e = absurd (omega arith)

-- the n-grams are the triples of the T lines
pub grams_are : (form : Form) (lines : List (List ℤ)) → OfBase lines → all (is_whole form) lines ≡ true → map gram_of (keep is_gram lines) ≡ map triple_of (keep is_t lines)
grams_are form [] b w = refl
grams_are form (line ∷ lines) b w =
    let h = both (is_whole form line) (all (is_whole form) lines) w in
    let l = split line lines b in
    let rest = grams_are form lines l.2 h.1 in
    let g = gram_same line l.0 l.1 in
    by_test (is_t line) (λ t. rw (g, t, t_gram form line t h.0, rest)) (λ f. rw (g, f, rest))

-- so no pair and no word is listed
module _ (number : Gram → ℤ) (other : ℤ) where
  no_word : (y : ℕ) (lines : List (List ℤ)) → listed number other (y ∷ []) (map triple_of lines) ≡ other
  no_word y [] = refl
  no_word y (line ∷ lines) = rw (and-false, no_word y lines)

  no_pair : (w y : ℕ) (lines : List (List ℤ)) → listed number other (w ∷ y ∷ []) (map triple_of lines) ≡ other
  no_pair w y [] = refl
  no_pair w y (line ∷ lines) = rw (and-false, and-false, no_pair w y lines)

-- and a triple is listed as document 01 lists it
triple_listed : (u : ℤ) (v w y : ℕ) (lines : List (List ℤ)) → listed (λ g. g.s) u (v ∷ w ∷ y ∷ []) (map triple_of (keep is_t lines)) ≡ listed_or u v w y lines
triple_listed u v w y [] = refl
triple_listed u v w y (line ∷ lines) = by_test (is_t line) (λ t. rw (t, and-true, triple_listed u v w y lines)) (λ f. rw (f, triple_listed u v w y lines))

-- its lines are whole: where question 2 refuses them, no triple is scored
module _ (form : Form) (lines : List (List ℤ)) (b : OfBase lines) (whole : all (is_whole form) lines ≡ true) where
  -- the score of its T line, or u
  pub base_listed : (v w y : ℕ) → triple_score (book_of_lines lines) v w y ≡ score_or (book_of_lines lines).grams (book_of_lines lines).unseen (v ∷ w ∷ y ∷ [])
  unfolding triple_score backed_off pair_score word_score book_of_lines
  base_listed v w y =
      rw (grams_are form lines b whole, no_word (λ g. g.s) (number_at (get_or lines 0 []) 3) y (keep is_t lines), no_word (λ g. g.k) (pos 0) w (keep is_t lines), +ℤ_idl, no_pair (λ g. g.s) (number_at (get_or lines 0 []) 3) w y (keep is_t lines), no_pair (λ g. g.k) (pos 0) v w (keep is_t lines), +ℤ_idl)

  -- "A triple with no T line scores u.", and one with a T line as that line says
  pub base_score : (v w y : ℕ) → triple_score (book_of_lines lines) v w y ≡ document_score lines v w y
  unfolding book_of_lines
  base_score v w y = base_listed v w y ∙ rw (grams_are form lines b whole) (triple_listed (number_at (get_or lines 0 []) 3) v w y lines)

-- ════ derivations and the search

-- what is said by the score of the triples is said by any score that agrees with it
module _ (book : Book) where
  words_by_lem : (v w : ℕ) (ys : List ℕ) → words_score book v w ys ≡ words_by (triple_score book) v w ys
  unfolding words_score
  words_by_lem v w [] = refl
  words_by_lem v w (y ∷ ys) = rw (words_by_lem w y ys)

  score_by : (steps : List Step) → score_of book steps ≡ derivation_by (triple_score book) book steps
  unfolding score_of
  score_by steps = rw (words_by_lem 0 0 (target_words book steps))

  gain_by_lem : gain book ≡ gain_by (triple_score book) book
  unfolding gain
  gain_by_lem = λ i k step. (entry_at book step.entry).g +ℤ book.eta *ℤ pos (jump k.r step) +ℤ words_by_lem k.word1 k.word2 (entry_at book step.entry).target i

module _ (form : Form) (lines : List (List ℤ)) (b : OfBase lines) (whole : all (is_whole form) lines ≡ true) where
  -- base_score, as one fact about the two scores
  same_score : triple_score (book_of_lines lines) ≡ document_score lines
  same_score = λ i v w y. base_score form lines b whole v w y i

  -- a row of words, a derivation and a step score as by document 01
  pub base_words : (v w : ℕ) (ys : List ℕ) → words_score (book_of_lines lines) v w ys ≡ words_by (document_score lines) v w ys
  base_words v w ys = words_by_lem (book_of_lines lines) v w ys ∙ ap (λ (triple : ℕ → ℕ → ℕ → ℤ). words_by triple v w ys) same_score

  pub base_derivation : (steps : List Step) → score_of (book_of_lines lines) steps ≡ derivation_by (document_score lines) (book_of_lines lines) steps
  base_derivation steps = score_by (book_of_lines lines) steps ∙ ap (λ (triple : ℕ → ℕ → ℕ → ℤ). derivation_by triple (book_of_lines lines) steps) same_score

  pub base_gain : gain (book_of_lines lines) ≡ gain_by (document_score lines) (book_of_lines lines)
  base_gain = gain_by_lem (book_of_lines lines) ∙ ap (λ (triple : ℕ → ℕ → ℕ → ℤ). gain_by triple (book_of_lines lines)) same_score

  -- the states entered, set n and the answer are the base's
  pub base_search : (direction : List ℕ) (width : ℤ)
      → (entered (book_of_lines lines) direction width ≡ entered_by (gain_by (document_score lines) (book_of_lines lines)) (book_of_lines lines) direction width)
      × (last_set (book_of_lines lines) direction width ≡ last_set_by (gain_by (document_score lines) (book_of_lines lines)) (book_of_lines lines) direction width)
      × (answer (book_of_lines lines) direction width ≡ answer_by (gain_by (document_score lines) (book_of_lines lines)) (book_of_lines lines) direction width)
  unfolding entered last_set answer
  base_search direction width = (
    ap (λ (gains : Key → Step → ℤ). entered_by gains (book_of_lines lines) direction width) base_gain,
    ap (λ (gains : Key → Step → ℤ). last_set_by gains (book_of_lines lines) direction width) base_gain,
    ap (λ (gains : Key → Step → ℤ). answer_by gains (book_of_lines lines) direction width) base_gain,
  )

-- ════ a loaded list

-- it is cut into the same lines
module _ (z : ℤ) (numbers : List ℤ) where
  abbrev cut_at : (ℕ → List (List ℤ)) → ℕ → List (List ℤ)
  cut_at rest size = elim size [ zero ↦ (z ∷ numbers) ∷ [] | suc n ↦ (z ∷ take n numbers) ∷ rest n ]

  first_size : (rest : ℕ → List (List ℤ)) (size : ℕ) → OfBase (cut_at rest size) → size_of in_list (z ∷ numbers) ≡ document_size in_list (z ∷ numbers)
  first_size rest zero b = let h = split (z ∷ numbers) [] b in size_same (z ∷ numbers) h.0 h.1 in_list
  first_size rest (suc size) b = let h = split (z ∷ take size numbers) (rest size) b in size_same (z ∷ numbers) h.0 h.1 in_list

  cut_same : (rest other : ℕ → List (List ℤ)) → ((size : ℕ) → OfBase (rest size) → rest size ≡ other size)
      → (size : ℕ) → OfBase (cut_at rest size) → cut_at rest size ≡ cut_at other size
  cut_same rest other same zero b = refl
  cut_same rest other same (suc size) b = rw (same size (split (z ∷ take size numbers) (rest size) b).2)

base_lines : (fuel : ℕ) (numbers : List ℤ) → OfBase (cut_lines fuel numbers) → cut_lines fuel numbers ≡ document_cut fuel numbers
unfolding cut_lines
base_lines zero numbers b = refl
base_lines (suc fuel) [] b = refl
base_lines (suc fuel) (z ∷ numbers) b =
    let rest : ℕ → List (List ℤ) = λ size. cut_lines fuel (drop size numbers) in
    let other : ℕ → List (List ℤ) = λ size. document_cut fuel (drop size numbers) in
    cut_same z numbers rest other (λ size c. base_lines fuel (drop size numbers) c) (size_of in_list (z ∷ numbers)) b
    ∙ ap (cut_at z numbers other) (first_size z numbers rest (size_of in_list (z ∷ numbers)) b)

module _ (loaded : List ℤ) (b : OfBase (loaded_lines loaded)) where
  pub loaded_lines_lem : loaded_lines loaded ≡ document_lines loaded
  unfolding loaded_lines
  loaded_lines_lem = base_lines (length loaded) loaded b

  pub loaded_refusal : book_refusal loaded ≡ document_refusal in_list (document_lines loaded)
  unfolding book_refusal
  loaded_refusal = base_refusal in_list (loaded_lines loaded) b ∙ ap (document_refusal in_list) loaded_lines_lem

  -- where nothing is refused, every triple scores as in document 01
  pub loaded_score : book_refusal loaded ≡ 0 → triple_score (book_of loaded) ≡ document_score (document_lines loaded)
  unfolding book_refusal book_of
  loaded_score e = same_score in_list (loaded_lines loaded) b (lines_passed in_list (loaded_lines loaded) e).whole ∙ ap document_score loaded_lines_lem

  -- so what depends on the book's refusal and, where there is none, on the scores of the triples is the base's
  same_reply : {A : Type 0} (says : ℕ → (ℕ → ℕ → ℕ → ℤ) → A) → ((k : ℕ) (s t : ℕ → ℕ → ℕ → ℤ) → says (suc k) s ≡ says (suc k) t)
      → says (book_refusal loaded) (triple_score (book_of loaded)) ≡ says (document_refusal in_list (document_lines loaded)) (document_score (document_lines loaded))
  same_reply says silent = by (book_refusal loaded) refl ∙ ap (λ (k : ℕ). says k (document_score (document_lines loaded))) loaded_refusal
    where
      by : (k : ℕ) → book_refusal loaded ≡ k → says (book_refusal loaded) (triple_score (book_of loaded)) ≡ says (book_refusal loaded) (document_score (document_lines loaded))
      by zero e = ap (says (book_refusal loaded)) (loaded_score e)
      by (suc k) e = rw e (silent k (triple_score (book_of loaded)) (document_score (document_lines loaded)))

  -- the reply of scoring a proposed list
  pub loaded_scoring : (direction : List ℕ) (steps : List Step)
      → score_proposal loaded direction steps
      ≡ reply
      (document_refusal in_list (document_lines loaded) orelse direction_refusal direction orelse steps_refusal (book_of loaded) direction (start (word_count direction)) steps)
      (record { score = derivation_by (document_score (document_lines loaded)) (book_of loaded) steps; supplied = supplied_of (book_of loaded) steps })
  unfolding score_proposal proposal_refusal
  loaded_scoring direction steps =
      rw (score_by (book_of loaded) steps)
      (same_reply (λ k triple. reply (k orelse direction_refusal direction orelse steps_refusal (book_of loaded) direction (start (word_count direction)) steps) (record { score = derivation_by triple (book_of loaded) steps; supplied = supplied_of (book_of loaded) steps })) (λ k s t. refl))

  -- the reply of a decode, and what each lent list holds afterwards
  pub loaded_decoding : (direction : List ℕ) (width : ℤ) (lent : Lent) (steps : List Step) (words : List ℕ) (store : List ℤ)
      → ◌≡◌ {A = Reply Answer × List Step × List ℕ × List ℤ}
      (decode loaded direction width lent, decoded_steps loaded direction width lent steps, decoded_words loaded direction width lent words, decoded_store loaded direction width lent store)
      (decoded_by (gain_by (document_score (document_lines loaded)) (book_of loaded)) (book_of loaded) direction width (document_refusal in_list (document_lines loaded)) lent steps words store)
  unfolding decode decoded_steps decoded_words decoded_store decode_refusal before_search after_search entered last_set answer
  loaded_decoding direction width lent steps words store =
      ap (λ (gains : Key → Step → ℤ). decoded_by gains (book_of loaded) direction width (book_refusal loaded) lent steps words store) (gain_by_lem (book_of loaded))
      ∙ same_reply (λ k triple. decoded_by (gain_by triple (book_of loaded)) (book_of loaded) direction width k lent steps words store) (λ k s t. refl)

-- ════ a text

letter_same : (letter : List ℕ) → eqb (kind_of_letter letter) 4 ≡ false → eqb (kind_of_letter letter) 5 ≡ false → kind_of_letter letter ≡ document_letter letter
unfolding kind_of_letter kind_of_byte
letter_same [] u d = refl
letter_same (x ∷ y ∷ letter) u d = refl
letter_same (x ∷ []) u d =
    by_test (eqb x 66) (λ b. rw b)
    (λ b. by_test (eqb x 80) (λ p. rw (b, p))
    (λ p. by_test (eqb x 84) (λ t. rw (b, p, t))
    (λ t. by_test (eqb x 85) (λ e. clash refl (rw (b, p, t, e) at u))
    (λ e. by_test (eqb x 68) (λ f. clash refl (rw (b, p, t, e, f) at d)) (λ f. rw (b, p, t, e, f))))))

numbers_same : (fields : List (List ℕ)) → is_u (line_numbers fields) ≡ false → is_d (line_numbers fields) ≡ false
    → (line_numbers fields ≡ document_numbers fields) × (is_text_line fields ≡ document_text_line fields)
unfolding is_text_line
numbers_same [] u d = (refl, refl)
numbers_same (letter ∷ []) u d = (rw (letter_same letter u d), refl)
numbers_same (letter ∷ field ∷ fields) u d = (rw (letter_same letter u d), rw (letter_same letter u d))

texts_same : (fields : List (List (List ℕ))) → OfBase (map line_numbers fields)
    → (map line_numbers fields ≡ map document_numbers fields) × (all is_text_line fields ≡ all document_text_line fields)
texts_same [] b = (refl, refl)
texts_same (line ∷ fields) b =
    let h = split (line_numbers line) (map line_numbers fields) b in
    let first = numbers_same line h.0 h.1 in
    let rest = texts_same fields h.2 in
    (rw (first.0, rest.0), rw (first.1, rest.1))

-- reading a text without D and U lines: its refusal, and the numbers it is read into, with Ticket 5's counts
pub base_reading : (text : List ℕ) (places : ℕ) → OfBase (text_lines text)
    → (loaded_of text ≡ loaded_book (document_text_lines text))
    × (read_refusal text places ≡ (1 unless document_text text orelse document_refusal in_text (document_text_lines text) orelse 7 unless leb (length (loaded_book (document_text_lines text))) places))
unfolding read_refusal loaded_of is_book_text text_lines
base_reading text places b =
    let same = texts_same (lines_of text) b in
    (rw same.0, rw (base_refusal in_text (map line_numbers (lines_of text)) b, same.0, same.1))
