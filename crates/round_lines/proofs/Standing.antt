-- Directions that stand one behind the other, with their ends: the round that these make is those directions.
use Prim.Native.Nat.{ℕ, ◌+◌, ◌-◌, ◌*◌, ◌≤◌}
use native.Mathlib.Omega.{arith}
use mathlib.Core.Path.{◌≡◌, refl, sym, ◌∙◌, ap}
use mathlib.Core.Bool.{true}
use mathlib.Core.List.{List, [], ◌∷◌, ◌++◌, append-nil}
use borrow.Author.Tests.{le-leb, lt-ltb, leb-true}
use lib.Dec.{leb}
use lib.ListN.{length, take, drop, length-append}
use lib.Seq.{take-add, take-take, take_at, drop_at, drop-drop}
use Rattle.laws.specs.Lists.{all, concat}
use Rattle.laws.proofs.Lists.{concat_++, all_++}
use Rattle.laws.proofs.Tests.{both, both_of}
use Rattle.meaning.specs.Questions.{within}
use Rattle.meaning.specs.Direction.{direction_of}
use Rattle.meaning.specs.Round.{are_rising, are_ends, directions_from, directions_of}
use Rattle.round_lines.specs.Lines.{Placed}

-- where each ends, the first from `before` on
unfoldable pub ends_from : ℕ → List (List ℕ) → List ℕ
ends_from before [] = []
ends_from before (d ∷ ds) = (before + length d) ∷ ends_from (before + length d) ds

ends_more : (before : ℕ) (ds : List (List ℕ)) (d : List ℕ) → ends_from before (ds ++ (d ∷ [])) ≡ ends_from before ds ++ ((before + length (concat ds) + length d) ∷ [])
unfolding ends_from
ends_more before [] d = let e : before + length d ≡ before + 0 + length d = omega arith in ap (λ (k : ℕ). k ∷ []) e
ends_more before (x ∷ ds) d =
    let e : before + length x + length (concat ds) + length d ≡ before + length (x ++ concat ds) + length d = omega (arith, length-append x (concat ds)) in
    ap (λ (l : List ℕ). (before + length x) ∷ l) (ends_more (before + length x) ds d ∙ ap (λ (k : ℕ). ends_from (before + length x) ds ++ (k ∷ [])) e)

ends_count : (before : ℕ) (ds : List (List ℕ)) → length (ends_from before ds) ≡ length ds
unfolding ends_from
ends_count before [] = refl
ends_count before (d ∷ ds) = let e = ends_count (before + length d) ds in omega arith

ends_rise : (before : ℕ) (ds : List (List ℕ)) → all (λ d. leb 1 (length d)) ds ≡ true → are_rising before (ends_from before ds) ≡ true
unfolding ends_from
ends_rise before [] h = refl
ends_rise before (d ∷ ds) h =
    let b = both (leb 1 (length d)) (all (λ x. leb 1 (length x)) ds) h in
    let l : 1 ≤ length d = leb-true _ _ b.0 in
    both_of (lt-ltb before (before + length d) (omega arith)) (ends_rise (before + length d) ds b.1)

ends_inside : (before most : ℕ) (ds : List (List ℕ)) → before + length (concat ds) ≤ most → all (λ end. leb end most) (ends_from before ds) ≡ true
unfolding ends_from
ends_inside before most [] h = refl
ends_inside before most (d ∷ ds) h =
    let a = length-append d (concat ds) in
    both_of (le-leb (before + length d) most (omega arith)) (ends_inside (before + length d) most ds (omega arith))

ends_mark : (before : ℕ) (list : List ℕ) (ds : List (List ℕ)) → take (length (concat ds)) (drop before list) ≡ concat ds → directions_from before list (ends_from before ds) ≡ ds
unfolding ends_from
ends_mark before list [] w = refl
ends_mark before list (d ∷ ds) w =
    let n = length d in
    let m = length (concat ds) in
    let here = drop before list in
    let s : before + n - before ≡ n = omega arith in
    let both-are : take n here ++ take m (drop n here) ≡ d ++ concat ds = sym (take-add n m here) ∙ ap (λ (k : ℕ). take k here) (sym (length-append d (concat ds))) ∙ w in
    let first : take n here ≡ d = sym (take-take n (n + m) here (omega arith)) ∙ ap (take n) (take-add n m here ∙ both-are) ∙ take_at d (concat ds) n refl in
    let then : take m (drop n here) ≡ concat ds = sym (drop_at d (take m (drop n here)) n refl) ∙ ap (drop n) (ap (λ (l : List ℕ). l ++ take m (drop n here)) (sym first) ∙ both-are) ∙ drop_at d (concat ds) n refl in
    ap (λ (k : ℕ). take k here ∷ directions_from (before + n) list (ends_from (before + n) ds)) s
    ∙ ap (λ (l : List ℕ). l ∷ directions_from (before + n) list (ends_from (before + n) ds)) first
    ∙ ap (λ (l : List (List ℕ)). d ∷ l) (ends_mark (before + n) list ds (ap (take m) (sym (drop-drop n before list)) ∙ then))

-- they stand at the beginning of `list`, up to `at`, and have 1 to 32 words each
pub record Standing (ds : List (List ℕ)) (at : ℕ) (list ends : List ℕ) : Type 0 where
  pub counted : at ≡ length (concat ds)
  pub words : take at list ≡ concat ds
  pub marked : ends ≡ ends_from 0 ds
  pub some : all (λ d. leb 1 (length d)) ds ≡ true
  pub few : at ≤ 32 * length ds

pub none_stand : (list : List ℕ) → Standing [] 0 list []
unfolding ends_from
none_stand list = record { counted = refl; words = refl; marked = refl; some = refl; few = omega arith }

-- one more behind them
pub one_stands : {ds : List (List ℕ)} {at count : ℕ} {old new ends : List ℕ} (text : List ℕ) → Standing ds at old ends → Placed text count at old new
    → Standing (ds ++ (direction_of text ∷ [])) (at + count) new (ends ++ ((at + count) ∷ []))
one_stands {ds} {at} {count} {old} {new} {ends} text s p =
    let d = direction_of text in
    let all_words : concat (ds ++ (d ∷ [])) ≡ concat ds ++ d = concat_++ ds (d ∷ []) ∙ ap (λ (l : List ℕ). concat ds ++ l) (append-nil d) in
    let end_is : 0 + length (concat ds) + length d ≡ at + count = omega (arith, s.counted, p.counted) in
    let l : 1 ≤ length d = omega (arith, p.some, p.counted) in
    record {
      counted = omega (arith, ap length all_words, length-append (concat ds) d, s.counted, p.counted);
      words = p.words ∙ ap (λ (l : List ℕ). l ++ d) s.words ∙ sym all_words;
      marked = ap (λ (l : List ℕ). l ++ ((at + count) ∷ [])) s.marked ∙ ap (λ (k : ℕ). ends_from 0 ds ++ (k ∷ [])) (sym end_is) ∙ sym (ends_more 0 ds d);
      some = all_++ (λ x. leb 1 (length x)) ds (d ∷ []) ∙ both_of s.some (both_of (le-leb _ _ l) refl);
      few = omega (arith, s.few, p.few, length-append ds (d ∷ []));
    }

-- the round
module _ {ds : List (List ℕ)} {at : ℕ} {list ends : List ℕ} (s : Standing ds at list ends) where
  pub stand_right : within 1 64 (length ds) ≡ true → at ≤ length list → are_ends list ends ≡ true
  unfolding are_ends
  stand_right n i =
      rw s.marked
      (both_of (both_of (ap (within 1 64) (ends_count 0 ds) ∙ n) (ends_rise 0 ds s.some)) (ends_inside 0 (length list) ds (omega (arith, s.counted))))

  pub stand_are : directions_of list ends ≡ ds
  unfolding directions_of
  stand_are = ap (directions_from 0 list) s.marked ∙ ends_mark 0 list ds (ap (λ (k : ℕ). take k list) (sym s.counted) ∙ s.words)
