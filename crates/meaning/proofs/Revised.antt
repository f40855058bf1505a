-- Ticket 5: what an addition and a removal leave of a loaded book that 2 to 6 pass: its lines, its counts, its numbers, and that it passes again.
use Prim.Native.Nat.{ℕ, zero, suc, ◌+◌, ◌-◌, ◌≤◌}
use native.Mathlib.Nat.{not-suc-le-zero}
use native.Mathlib.Omega.{arith}
use mathlib.Core.Path.{◌≡◌, refl, sym, ◌∙◌, ap, subst}
use mathlib.Core.Bool.{Bool, true, false, not, ◌&&◌, cond, false≢true}
use mathlib.Core.List.{List, [], ◌∷◌, ◌++◌, map, map-append, append-nil}
use borrow.Author.Tests.{eqb-true, eqb-false, ne_eqb, leb-true, le-leb}
use lib.Dec.{eqb, leb}
use lib.IntN.{ℤ, pos}
use lib.ListN.{length, take, drop, set, take-append-drop, length-append, length-drop}
use Rattle.laws.specs.Bits.{one}
use Rattle.laws.specs.Integers.{eqℤ}
use Rattle.laws.specs.Lists.{all, any, keep, count, without_by, concat}
use Rattle.laws.proofs.Integers.{eqℤ_refl}
use Rattle.laws.proofs.Lists.{all_without, eq_list_is, all_++, keep_++, count_++, keep_length, concat_++, count_cons, count_none}
use Rattle.laws.proofs.Order.{yes_≡}
use Rattle.laws.proofs.Tests.{by_test, both, both_of, between, if_ind}
use Rattle.meaning.specs.Questions.{within}
use Rattle.meaning.specs.Book.{in_list, number_at, is_kind, is_b, is_p, is_t, is_u, is_d, size_of, is_whole, is_one_bFirst, is_in_range, is_not_too_long, are_few, kinds, phrases_most, is_counted, stored_counts, is_no_triple_twice, is_no_shorter_twice, cut_lines, loaded_lines, with_counts, loaded_book, order_of, is_gram, Entry, entry_of, Book, book_of_lines}
use Rattle.meaning.specs.Revision.{with_entry, without_entry}
use Rattle.meaning.proofs.Ranges.{Passed, kind_is}
use Rattle.meaning.proofs.Sizes.{whole_size}

-- ════ the lines of a list, one after the other, are the list

cut_back_from : (fuel : ℕ) (numbers : List ℤ) → length numbers ≤ fuel → concat (cut_lines fuel numbers) ≡ numbers
unfolding cut_lines
cut_back_from zero [] h = refl
cut_back_from zero (z ∷ numbers) h = absurd (not-suc-le-zero h)
cut_back_from (suc fuel) [] h = refl
cut_back_from (suc fuel) (z ∷ numbers) h = by (size_of in_list (z ∷ numbers)) (λ size. cut_back_from fuel (drop size numbers) (omega (arith, length-drop size numbers)))
  where
    by : (n : ℕ) → ((size : ℕ) → concat (cut_lines fuel (drop size numbers)) ≡ drop size numbers)
        → concat (elim n [ zero ↦ (z ∷ numbers) ∷ [] | suc size ↦ (z ∷ take size numbers) ∷ cut_lines fuel (drop size numbers) ]) ≡ z ∷ numbers
    by zero ih = append-nil (z ∷ numbers)
    by (suc size) ih = rw (ih size) (ap (λ (l : List ℤ). z ∷ l) (take-append-drop size numbers))

-- of the lines of any list, whole or not
pub cut_back : (loaded : List ℤ) → concat (loaded_lines loaded) ≡ loaded
unfolding loaded_lines
cut_back loaded = cut_back_from (length loaded) loaded (omega arith)

-- ════ the first line of a book that passes

-- the B record of a book with these further lines
abbrev pub b_record : ℤ → ℤ → ℤ → List (List ℤ) → List ℤ
b_record d eta u rest = pos 1 ∷ d ∷ eta ∷ u ∷ pos (count is_p rest) ∷ pos (count is_t rest) ∷ []

-- the first line is such a record
record FirstLine (first : List ℤ) (rest : List (List ℤ)) : Type 0 where
  pub d : ℤ
  pub eta : ℤ
  pub u : ℤ
  pub is : first ≡ b_record d eta u rest

first_counted : (line : List ℤ) (rest : List (List ℤ)) → number_at line 0 ≡ pos 1 → length line ≡ 6 → is_counted in_list (line ∷ rest) ≡ true → FirstLine line rest
unfolding is_counted
first_counted [] rest k l q = absurd (omega arith)
first_counted (a ∷ []) rest k l q = absurd (omega arith)
first_counted (a ∷ b ∷ []) rest k l q = absurd (omega arith)
first_counted (a ∷ b ∷ c ∷ []) rest k l q = absurd (omega arith)
first_counted (a ∷ b ∷ c ∷ d ∷ []) rest k l q = absurd (omega arith)
first_counted (a ∷ b ∷ c ∷ d ∷ e ∷ []) rest k l q = absurd (omega arith)
first_counted (a ∷ b ∷ c ∷ d ∷ e ∷ f ∷ []) rest k l q =
    let counts : e ∷ f ∷ [] ≡ stored_counts rest = eq_list_is eqℤ yes_≡ (e ∷ f ∷ []) (stored_counts rest) (rw k at q) in
    record { d = b; eta = c; u = d; is = ap (λ (z : ℤ). z ∷ b ∷ c ∷ d ∷ e ∷ f ∷ []) k ∙ ap (λ (r : List ℤ). pos 1 ∷ b ∷ c ∷ d ∷ r) counts }
first_counted (a ∷ b ∷ c ∷ d ∷ e ∷ f ∷ g ∷ line) rest k l q = absurd (omega arith)

first_line : (first : List ℤ) (rest : List (List ℤ)) → Passed in_list (first ∷ rest) → FirstLine first rest
unfolding is_one_bFirst size_of
first_line first rest p =
    let k : number_at first 0 ≡ pos 1 = kind_is first 1 (both (is_b first) _ p.one_b).0 in
    first_counted first rest k (rw k at (whole_size in_list first (both (is_whole in_list first) _ p.whole).0)) p.counted

-- what holds of all lines that begin with such a record holds of the lines of every book that passes
pub passed_ind : (Q : List (List ℤ) → Type 0) → ((d eta u : ℤ) (rest : List (List ℤ)) → Passed in_list (b_record d eta u rest ∷ rest) → Q (b_record d eta u rest ∷ rest))
    → (lines : List (List ℤ)) → Passed in_list lines → Q lines
unfolding is_one_bFirst
passed_ind Q each [] p = absurd (false≢true p.one_b)
passed_ind Q each (first ∷ rest) p =
    let b = first_line first rest p in
    subst (λ (l : List ℤ). Passed in_list (l ∷ rest) → Q (l ∷ rest)) (sym b.is) (each b.d b.eta b.u rest) p

-- its counts stand there already
pub counted_lines : (lines : List (List ℤ)) → Passed in_list lines → with_counts lines ≡ lines
counted_lines = passed_ind (λ lines. with_counts lines ≡ lines) (λ d eta u rest p. refl)

-- the count of the P lines is the fifth number of the list
pub stored_phrases : (lines : List (List ℤ)) → Passed in_list lines → (number_at (concat lines) 4 ≡ pos (count is_p lines)) × (6 ≤ length (concat lines))
stored_phrases = passed_ind (λ lines. (number_at (concat lines) 4 ≡ pos (count is_p lines)) × (6 ≤ length (concat lines))) (λ d eta u rest p. (refl, omega arith))

-- ════ other P lines in the same book

-- a test that no P line passes
abbrev pub NotP : (List ℤ → Bool) → Type 0
NotP test = (line : List ℤ) → is_p line ≡ true → test line ≡ false

-- other kinds, and n-grams
pub not_p : (k : ℕ) → eqb 2 k ≡ false → NotP (is_kind k)
not_p k e line p = let z : number_at line 0 ≡ pos 2 = kind_is line 2 p in rw z e

gram_not_p : NotP is_gram
unfolding is_gram order_of
gram_not_p line p = let z : number_at line 0 ≡ pos 2 = kind_is line 2 p in rw z

-- the lines but for the P lines are the same, in the same order
pub record SameOthers (lines others : List (List ℤ)) : Type 0 where
  pub kept : (test : List ℤ → Bool) → NotP test → keep test others ≡ keep test lines

module _ {lines others : List (List ℤ)} (same : SameOthers lines others) where
  -- as many of each
  pub same_count : (test : List ℤ → Bool) → NotP test → count test others ≡ count test lines
  same_count test n = sym (keep_length test others) ∙ ap length (same.kept test n) ∙ keep_length test lines

  pub same_none : (test : List ℤ → Bool) → NotP test → not (any test others) ≡ not (any test lines)
  same_none test n = sym (count_none test others) ∙ ap (λ (k : ℕ). eqb k 0) (same_count test n) ∙ count_none test lines

-- where the others pass too, and are not too many, the book with the counts of its lines passes
module _ (d eta u : ℤ) {rest others : List (List ℤ)} (same : SameOthers rest others) where
  other_passed : Passed in_list (b_record d eta u rest ∷ rest) → all (is_whole in_list) others ≡ true → all is_in_range others ≡ true → is_not_too_long (b_record d eta u others ∷ others) ≡ true
      → Passed in_list (b_record d eta u others ∷ others)
  unfolding is_whole size_of is_one_bFirst is_in_range is_counted is_no_triple_twice is_no_shorter_twice
  other_passed p whole ranged short = record {
    whole = whole;
    one_b = same_none same is_b (not_p 1 refl) ∙ p.one_b;
    ranged = both_of {a = is_in_range (b_record d eta u others)} (both (is_in_range (b_record d eta u rest)) (all is_in_range rest) p.ranged).0 ranged;
    short = short;
    counted = rw (eqℤ_refl (pos (count is_p others)), eqℤ_refl (pos (count is_t others)));
    no_triple_twice = rw (same.kept is_t (not_p 3 refl)) p.no_triple_twice;
    no_shorter_twice = rw (same.kept is_d (not_p 5 refl), same.kept is_u (not_p 4 refl)) p.no_shorter_twice;
  }

  -- and all that it states but for the entries is the same
  other_book : ◌≡◌ {A = Book} (book_of_lines (b_record d eta u others ∷ others)) (record {
    limit = (book_of_lines (b_record d eta u rest ∷ rest)).limit;
    eta = (book_of_lines (b_record d eta u rest ∷ rest)).eta;
    unseen = (book_of_lines (b_record d eta u rest ∷ rest)).unseen;
    entries = map entry_of (keep is_p others);
    grams = (book_of_lines (b_record d eta u rest ∷ rest)).grams;
  })
  unfolding book_of_lines is_gram order_of
  other_book = rw (same.kept is_gram gram_not_p)

-- ════ adding

-- the other lines stay
pub entry_others : (lines : List (List ℤ)) (line : List ℤ) → is_p line ≡ true → SameOthers lines (with_entry lines line)
entry_others lines line p = record { kept = λ test n. let f : test line ≡ false = n line p in keep_++ test lines (line ∷ []) ∙ rw f (append-nil (keep test lines)) }

-- one P line more
pub count_added : (lines : List (List ℤ)) (line : List ℤ) → is_p line ≡ true → count is_p (with_entry lines line) ≡ suc (count is_p lines)
count_added lines line p = count_++ is_p lines (line ∷ []) ∙ rw p (omega arith)

-- the numbers of the longer book: the new count, and the line behind the last
pub added_numbers : (lines : List (List ℤ)) (line : List ℤ) → Passed in_list lines → is_p line ≡ true → loaded_book (with_entry lines line) ≡ set (concat lines) 4 (pos (suc (count is_p lines))) ++ line
unfolding loaded_book
added_numbers lines line p e = passed_ind (λ lines. loaded_book (with_entry lines line) ≡ set (concat lines) 4 (pos (suc (count is_p lines))) ++ line) of lines p
  where
    of : (d eta u : ℤ) (rest : List (List ℤ)) → Passed in_list (b_record d eta u rest ∷ rest)
        → loaded_book (with_entry (b_record d eta u rest ∷ rest) line) ≡ set (concat (b_record d eta u rest ∷ rest)) 4 (pos (suc (count is_p rest))) ++ line
    of d eta u rest q = rw (count_added rest line e, same_count (entry_others rest line e) is_t (not_p 3 refl), concat_++ rest (line ∷ []), append-nil line)

-- the longer book passes
pub added_passed : (lines : List (List ℤ)) (line : List ℤ) → Passed in_list lines → is_p line && is_whole in_list line ≡ true → is_in_range line ≡ true → is_not_too_long (with_entry lines line) ≡ true
    → Passed in_list (with_counts (with_entry lines line))
unfolding is_not_too_long
added_passed lines line p e r = passed_ind (λ lines. is_not_too_long (with_entry lines line) ≡ true → Passed in_list (with_counts (with_entry lines line))) of lines p
  where
    pw : (is_p line ≡ true) × (is_whole in_list line ≡ true)
    pw = both (is_p line) (is_whole in_list line) e

    longer : (test : List ℤ → Bool) (rest : List (List ℤ)) → all test rest ≡ true → test line ≡ true → all test (with_entry rest line) ≡ true
    longer test rest a b = all_++ test rest (line ∷ []) ∙ rw (a, b)

    of : (d eta u : ℤ) (rest : List (List ℤ)) → Passed in_list (b_record d eta u rest ∷ rest) → is_not_too_long (with_entry (b_record d eta u rest ∷ rest) line) ≡ true
        → Passed in_list (with_counts (with_entry (b_record d eta u rest ∷ rest) line))
    of d eta u rest q s =
        other_passed d eta u (entry_others rest line pw.0) q (longer (is_whole in_list) rest (both (is_whole in_list (b_record d eta u rest)) (all (is_whole in_list) rest) q.whole).1 pw.1) (longer is_in_range rest (both (is_in_range (b_record d eta u rest)) (all is_in_range rest) q.ranged).1 r) s

-- ════ removing

-- the other lines stay
pub without_others : (k : ℕ) (lines : List (List ℤ)) → SameOthers lines (without_entry k lines)
unfolding without_entry
without_others k lines = record { kept = λ test n. of test n k lines }
  where
    of : (test : List ℤ → Bool) → NotP test → (k : ℕ) (lines : List (List ℤ)) → keep test (without_entry k lines) ≡ keep test lines
    of test n k [] = refl
    of test n k (line ∷ lines) =
        by_test (is_p line)
        (λ t. by_test (eqb k 1) (λ e. let f : test line ≡ false = n line t in rw (t, e, f)) (λ e. rw (t, e, of test n (k - 1) lines)))
        (λ t. rw (t, of test n k lines))

-- one P line less, where there is a k-th
pub count_without : (k : ℕ) (lines : List (List ℤ)) → within 1 (count is_p lines) k ≡ true → count is_p (without_entry k lines) ≡ count is_p lines - 1
unfolding without_entry
count_without k lines e = let h = between 1 (count is_p lines) k e in let z = of k lines h.0 h.1 in omega arith
  where
    of : (k : ℕ) (lines : List (List ℤ)) → 1 ≤ k → k ≤ count is_p lines → suc (count is_p (without_entry k lines)) ≡ count is_p lines
    of k [] l m = absurd (omega arith)
    of k (line ∷ lines) l m =
        by_test (is_p line)
        (λ t. let m' : k ≤ suc (count is_p lines) = rw t at m in
        by_test (eqb k 1) (λ e. rw (t, e)) (λ e. let n : k ≡ 1 → ⊥ = eqb-false k 1 e in rw (t, e) (rw t (ap suc (of (k - 1) lines (omega arith) (omega arith))))))
        (λ t. rw t (rw t (of k lines l (rw t at m))))

-- no more numbers
pub fewer_numbers : (k : ℕ) (lines : List (List ℤ)) → length (concat (without_entry k lines)) ≤ length (concat lines)
unfolding without_entry
fewer_numbers k [] = omega arith
fewer_numbers k (line ∷ lines) =
    let all = length-append line (concat lines) in
    if_ind (is_p line && eqb k 1) (λ (l : List (List ℤ)). length (concat l) ≤ length (line ++ concat lines)) (λ t. omega arith)
    (λ f. let left = without_entry (cond (is_p line) (k - 1) k) lines in omega (arith, length-append line (concat left), fewer_numbers (cond (is_p line) (k - 1) k) lines))

-- the entry stands between the lines before it and those behind it
pub record EntryAt (k : ℕ) (lines : List (List ℤ)) : Type 0 where
  pub before : List (List ℤ)
  pub line : List ℤ
  pub after : List (List ℤ)
  pub lines_are : lines ≡ before ++ (line ∷ after)
  pub is_p_lem : is_p line ≡ true
  pub number : k ≡ suc (count is_p before)

-- where there is a k-th
pub entry_at : (k : ℕ) (lines : List (List ℤ)) → within 1 (count is_p lines) k ≡ true → EntryAt k lines
entry_at k lines e = let h = between 1 (count is_p lines) k e in of k lines h.0 h.1
  where
    below : (k : ℕ) (first : List ℤ) (rest : List (List ℤ)) (j : ℕ) → EntryAt j rest → k ≡ one (is_p first) + j → EntryAt k (first ∷ rest)
    below k first rest j r e = record {
      before = first ∷ r.before;
      line = r.line;
      after = r.after;
      lines_are = ap (λ (ls : List (List ℤ)). first ∷ ls) r.lines_are;
      is_p_lem = r.is_p_lem;
      number = let n = r.number in omega (arith, count_cons is_p first r.before);
    }

    of : (k : ℕ) (lines : List (List ℤ)) → 1 ≤ k → k ≤ count is_p lines → EntryAt k lines
    of k [] l m = absurd (omega arith)
    of k (first ∷ rest) l m =
        let n = count_cons is_p first rest in
        by_test (is_p first)
        (λ t. let o : one (is_p first) ≡ 1 = rw t in
        by_test (eqb k 1) (λ e. record { before = []; line = first; after = rest; lines_are = refl; is_p_lem = t; number = eqb-true k 1 e })
        (λ e. let d : k ≡ 1 → ⊥ = eqb-false k 1 e in below k first rest (k - 1) (of (k - 1) rest (omega arith) (omega arith)) (omega arith)))
        (λ t. let o : one (is_p first) ≡ 0 = rw t in below k first rest k (of k rest l (omega arith)) (omega arith))

-- and without it these are left
pub without_at : (before : List (List ℤ)) (line : List ℤ) (after : List (List ℤ)) → is_p line ≡ true → without_entry (suc (count is_p before)) (before ++ (line ∷ after)) ≡ before ++ after
unfolding without_entry
without_at [] line after p = rw p
without_at (first ∷ rest) line after p =
    by_test (is_p first)
    (λ t. let z : suc (suc (count is_p rest)) - 1 ≡ suc (count is_p rest) = omega arith in
    rw (t, ne_eqb (suc (suc (count is_p rest))) 1 (omega arith), z) (ap (λ (l : List (List ℤ)). first ∷ l) (without_at rest line after p)))
    (λ t. rw t (ap (λ (l : List (List ℤ)). first ∷ l) (without_at rest line after p)))

-- the numbers of the shorter book: the new count
pub removed_numbers : (k : ℕ) (lines : List (List ℤ)) → Passed in_list lines → within 1 (count is_p lines) k ≡ true → loaded_book (without_entry k lines) ≡ set (concat (without_entry k lines)) 4 (pos (count is_p lines - 1))
unfolding loaded_book without_entry
removed_numbers k = passed_ind (λ lines. within 1 (count is_p lines) k ≡ true → loaded_book (without_entry k lines) ≡ set (concat (without_entry k lines)) 4 (pos (count is_p lines - 1))) of
  where
    of : (d eta u : ℤ) (rest : List (List ℤ)) → Passed in_list (b_record d eta u rest ∷ rest) → within 1 (count is_p rest) k ≡ true
        → loaded_book (without_entry k (b_record d eta u rest ∷ rest)) ≡ set (concat (without_entry k (b_record d eta u rest ∷ rest))) 4 (pos (count is_p rest - 1))
    of d eta u rest q e = rw (count_without k rest e, same_count (without_others k rest) is_t (not_p 3 refl))

-- the shorter book passes
pub removed_passed : (k : ℕ) (lines : List (List ℤ)) → Passed in_list lines → within 1 (count is_p lines) k ≡ true → Passed in_list (with_counts (without_entry k lines))
unfolding is_not_too_long without_entry
removed_passed k = passed_ind (λ lines. within 1 (count is_p lines) k ≡ true → Passed in_list (with_counts (without_entry k lines))) of
  where
    of : (d eta u : ℤ) (rest : List (List ℤ)) → Passed in_list (b_record d eta u rest ∷ rest) → within 1 (count is_p rest) k ≡ true → Passed in_list (with_counts (without_entry k (b_record d eta u rest ∷ rest)))
    of d eta u rest q e =
        let same = without_others k rest in
        let few = both (leb (count is_p rest) phrases_most) (are_few rest 3 (drop 2 kinds)) q.short in
        let fewer : count is_p (without_entry k rest) ≤ phrases_most = omega (arith, count_without k rest e, leb-true (count is_p rest) phrases_most few.0) in
        other_passed d eta u same q (all_without (is_whole in_list) is_p k rest (both (is_whole in_list (b_record d eta u rest)) (all (is_whole in_list) rest) q.whole).1)
        (all_without is_in_range is_p k rest (both (is_in_range (b_record d eta u rest)) (all is_in_range rest) q.ranged).1)
        (both_of {a = leb (count is_p (without_entry k rest)) phrases_most} (le-leb (count is_p (without_entry k rest)) phrases_most fewer) (rw (same_count same is_t (not_p 3 refl), same_count same is_u (not_p 4 refl), same_count same is_d (not_p 5 refl)) few.1))

-- ════ the books that they state

-- the book with other entries
abbrev pub with_entries : Book → List Entry → Book
with_entries book entries = record { limit = book.limit; eta = book.eta; unseen = book.unseen; entries = entries; grams = book.grams }

-- one entry more, behind the last
pub added_book : (lines : List (List ℤ)) (line : List ℤ) → Passed in_list lines → is_p line ≡ true
    → book_of_lines (with_counts (with_entry lines line)) ≡ with_entries (book_of_lines lines) ((book_of_lines lines).entries ++ (entry_of line ∷ []))
unfolding book_of_lines
added_book lines line p e =
    passed_ind (λ lines. book_of_lines (with_counts (with_entry lines line)) ≡ with_entries (book_of_lines lines) (map entry_of (keep is_p lines) ++ (entry_of line ∷ [])))
    (λ d eta u rest q. other_book d eta u (entry_others rest line e) ∙ rw (keep_++ is_p rest (line ∷ []), e, map-append)) lines p

-- a list without its k-th element, counted from 1
abbrev pub without : {A : Type 0} → ℕ → List A → List A
without k xs = without_by (λ x. true) k xs

entries_without : (k : ℕ) (lines : List (List ℤ)) → map entry_of (keep is_p (without_entry k lines)) ≡ without k (map entry_of (keep is_p lines))
unfolding without_entry
entries_without k [] = refl
entries_without k (line ∷ lines) =
    by_test (is_p line)
    (λ t. by_test (eqb k 1) (λ e. rw (t, e)) (λ e. rw (t, e) (rw t (ap (λ (l : List Entry). entry_of line ∷ l) (entries_without (k - 1) lines)))))
    (λ t. rw t (rw t (entries_without k lines)))

-- the entries without the k-th: "later entries then move down by one"
pub removed_book : (k : ℕ) (lines : List (List ℤ)) → Passed in_list lines
    → book_of_lines (with_counts (without_entry k lines)) ≡ with_entries (book_of_lines lines) (without k (book_of_lines lines).entries)
unfolding book_of_lines without_entry
removed_book k =
    passed_ind (λ lines. book_of_lines (with_counts (without_entry k lines)) ≡ with_entries (book_of_lines lines) (without k (book_of_lines lines).entries))
    (λ d eta u rest q. other_book d eta u (without_others k rest) ∙ rw (entries_without k rest))
