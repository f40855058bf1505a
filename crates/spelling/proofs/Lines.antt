-- Lines one at a time: the first line of a text and what follows it.
use Prim.Native.Nat.{ℕ, ◌+◌, ◌-◌, ◌≤◌, ◌<◌}
use mathlib.Core.Path.{◌≡◌, refl, sym, ap, ◌∙◌}
use mathlib.Core.List.{List, [], ◌∷◌}
use native.Mathlib.Numerals.{add-one}
use native.Mathlib.Omega.{arith}
use native.Mathlib.Nat.{le-min, min-le_right, le_antisymm, le_trans}
use lib.Dec.{eqb, ltb}
use lib.ListN.{length, get_or, take, drop, set, length-set, length-take, length-drop}
use lib.Seq.{drop-drop, get_or-set_same, get_or-set_other, get_or-take, get_or-drop}
use borrow.Author.Tests.{eqb-true, eqb-false, ltb-true, ltb-false}
use Rattle.laws.proofs.Tests.{by_test}
use Rattle.tokens.proofs.Runs.{run_inside}
use Rattle.meaning.specs.Numerals.{newline, before, split}
use Rattle.arpa.specs.Words.{spelled_most, spellings}
use Rattle.arpa.proofs.Spelled.{spellings_few}
use Rattle.spelling.specs.Lines.{is_in_line, line_size, line_at, starts_size, Stands, Starts, Lined}

-- ---- the first line of a text is all of it, or is followed by byte 10

split_last : (text : List ℕ) → length text ≤ line_size text → split newline text ≡ take (line_size text) text ∷ []
unfolding split
split_last [] h = refl
split_last (b ∷ text) h =
    let ih = split_last text in
    by_test (eqb b newline)
    (λ t. absurd (omega (arith, rw t at h)))
    (λ f. rw f (ap (before b) (ih (omega (arith, rw f at h)))))

split_more : (text : List ℕ) → line_size text < length text → split newline text ≡ take (line_size text) text ∷ split newline (drop (line_size text + 1) text)
unfolding split
split_more [] h = absurd (omega arith)
split_more (b ∷ text) h =
    let ih = split_more text in
    by_test (eqb b newline)
    (λ t. rw t)
    (λ f. rw (f, add-one) (ap (before b) (rw add-one at (ih (omega (arith, rw f at h))))))

-- ---- the lines of the word list, by their starts

-- the first i lines have their starts, and `at` is where line i starts, or where it would behind the last
pub record Read (list starts : List ℕ) (at i : ℕ) : Type 0 where
  pub before : Starts list starts i
  pub here : get_or starts i 0 ≡ at
  pub more : at ≤ length list → drop i (split newline list) ≡ split newline (drop at list)
  pub none : length list < at → drop i (split newline list) ≡ []

pub read_start : (list starts : List ℕ) → starts_size ≤ length starts → Read list (set starts 0 0) 0 0
read_start list starts r =
    record {
      before = record { room = simp length-set (omega arith); few = omega arith; within = omega arith; lines = λ k l. absurd (omega arith) };
      here = get_or-set_same starts 0 0 0 (omega arith);
      more = λ l. refl;
      none = λ l. absurd (omega arith);
    }

-- line i of the word list is line i of all, as long as that many count
line_is : (list : List ℕ) (i : ℕ) (line : List ℕ) (rest : List (List ℕ)) → i < spelled_most → drop i (split newline list) ≡ line ∷ rest → line_at list i ≡ line
unfolding line_at spellings
line_is list i line rest l e =
    let z : i + 0 ≡ i = omega arith in
    get_or-take spelled_most (split newline list) i [] l ∙ rw z at (sym (get_or-drop i (split newline list) 0 [])) ∙ ap (λ (ls : List (List ℕ)). get_or ls 0 []) e

-- how many count: all, to 65,534
module _ (list : List ℕ) where
  count_from : (n : ℕ) → n ≤ spelled_most → n ≤ length (split newline list) → n ≤ length (spellings list)
  unfolding spellings
  count_from n h k = rw length-take (le-min h k)

  count_all : length (spellings list) ≤ length (split newline list)
  unfolding spellings
  count_all = rw length-take (min-le_right spelled_most (length (split newline list)))

drop_rest : {A : Type 0} (i : ℕ) (xs : List A) (x : A) (rest : List A) → drop i xs ≡ x ∷ rest → (drop (i + 1) xs ≡ rest) × (i < length xs)
drop_rest i xs x rest e = (sym (drop-drop 1 i xs) ∙ ap (drop 1) e, omega (arith, length-drop i xs, ap length e))

-- one line more: line i, from `at` to e
module _ {list starts : List ℕ} {at i : ℕ} (r : Read list starts at i) (few : i < spelled_most) (in_List : at ≤ length list) (e : ℕ) (ends : e ≡ at + line_size (drop at list)) where
  abbrev bytes : List ℕ
  bytes = take (line_size (drop at list)) (drop at list)

  abbrev noted : List ℕ
  noted = set starts (i + 1) (e + 1)

  noted_at : (k : ℕ) → k < i + 1 → get_or noted k 0 ≡ get_or starts k 0
  noted_at k l = get_or-set_other starts (i + 1) k (e + 1) 0 (omega arith)

  noted_end : get_or noted (i + 1) 0 ≡ e + 1
  noted_end = let room = r.before.room in get_or-set_same starts (i + 1) (e + 1) 0 (omega arith)

  line_stands : (rest : List (List ℕ)) → drop i (split newline list) ≡ bytes ∷ rest → Stands list at (e + 1) (line_at list i)
  line_stands rest s =
      let z : (e + 1) - 1 - at ≡ line_size (drop at list) = omega arith in
      record { after = omega arith; inside = omega (arith, run_inside is_in_line list at in_List); bytes = rw z (sym (line_is list i bytes rest few s)) }

  starts_more : (rest : List (List ℕ)) → drop i (split newline list) ≡ bytes ∷ rest → i < length (split newline list) → Starts list noted (i + 1)
  starts_more rest s within =
      let room = r.before.room in
      record {
        room = simp length-set (omega arith);
        few = omega arith;
        within = count_from list (i + 1) (omega arith) (omega arith);
        lines = λ k l.
            by_test (eqb k i)
            (λ t. rw (eqb-true k i t, noted_end, noted_at i (omega arith), r.here) (line_stands rest s))
            (λ f. let lt : k < i = omega (arith, eqb-false k i f) in
            rw (noted_at (k + 1) (omega arith), noted_at k (omega arith)) (r.before.lines k lt));
      }

  -- what is left behind it
  read_of : (rest : List (List ℕ)) → split newline (drop at list) ≡ bytes ∷ rest
      → (e + 1 ≤ length list → rest ≡ split newline (drop (e + 1) list)) → (length list < e + 1 → rest ≡ []) → Read list noted (e + 1) (i + 1)
  read_of rest s m n =
      let d = drop_rest i (split newline list) bytes rest (r.more in_List ∙ s) in
      record { before = starts_more rest (r.more in_List ∙ s) d.1; here = noted_end; more = λ l. d.0 ∙ m l; none = λ l. d.0 ∙ n l }

  pub read_more : Read list noted (e + 1) (i + 1)
  read_more =
      let d = length-drop at list in
      let z : at + (line_size (drop at list) + 1) ≡ e + 1 = omega arith in
      by_test (ltb (line_size (drop at list)) (length (drop at list)))
      (λ t. let l = ltb-true (line_size (drop at list)) (length (drop at list)) t in
      read_of (split newline (drop (line_size (drop at list) + 1) (drop at list))) (split_more (drop at list) l)
      (λ _. ap (split newline) (drop-drop (line_size (drop at list) + 1) at list ∙ ap (λ (k : ℕ). drop k list) z)) (λ g. absurd (omega arith)))
      (λ f. let l = ltb-false (line_size (drop at list)) (length (drop at list)) f in
      read_of [] (split_last (drop at list) l) (λ g. absurd (omega arith)) (λ _. refl))

-- no line more: none is left, or no more count
module _ {list starts : List ℕ} {at i : ℕ} (r : Read list starts at i) where
  pub read_all : length list < at → Lined list starts i
  read_all h =
      let n : length (split newline list) ≤ i = omega (arith, length-drop i (split newline list), ap length (r.none h)) in
      record { lines = r.before; all = le_antisymm r.before.within (le_trans (count_all list) n) }

  pub read_most : spelled_most ≤ i → Lined list starts i
  read_most h = record { lines = r.before; all = le_antisymm r.before.within (le_trans (spellings_few list) h) }

-- fewer lines
pub starts_less : {list starts : List ℕ} {n : ℕ} (m : ℕ) → m ≤ n → Starts list starts n → Starts list starts m
starts_less m l s = let f = s.few in let w = s.within in record { room = s.room; few = omega arith; within = omega arith; lines = λ k h. s.lines k (omega arith) }
