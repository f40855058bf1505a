-- A text's lines are the parts of it that a slice's `split_inclusive` gives, where it is cut behind each byte 10.
use Prim.Native.Nat.{ℕ, zero, suc, ◌+◌, ◌<◌, min}
use native.Mathlib.Omega.{arith}
use mathlib.Core.Path.{◌≡◌, refl, sym, ◌∙◌, ap, subst}
use mathlib.Core.Bool.{Bool, true, false}
use mathlib.Core.List.{List, [], ◌∷◌, ◌++◌}
use denote.Param.Members.{Mut}
use denote.Ref.{Bor}
use lib.Dec.{eqb}
use lib.ListN.{length, get_or}
use Rattle.std.specs.Prelude.{Option, None, Some, MatchOption}
use Rattle.std.specs.Fn.{CalledAt, ComputesKey}
use Rattle.std.specs.Iterator.{Yields}
use Rattle.std.specs.List.{IsFirstMatchOrLen}
use Rattle.std.specs.Slice.Iter.{split_inclusive_rest, split_inclusive_callee}
use Rattle.std.specs.declared.slice.SplitInclusive.{SplitInclusive}
use Rattle.std.proofs.lemmas.Fn.{always_returns_same}
use Rattle.std.proofs.lemmas.Iterator.{YieldsList}
use Rattle.std.proofs.lemmas.Iterator.Consumers.{YieldsList-turn, YieldsList-end}
use Rattle.std.proofs.lemmas.Iterator.Splits.{YieldsList-from_shown_while}
use Rattle.meaning.specs.Numerals.{newline, before}
use Rattle.meaning.specs.Sheet.{direction_texts}

abbrev is_newline : ℕ → Bool
is_newline b = eqb b newline

-- x, up to the first byte 10 and with it, is the first line
first_line : (text x more : List ℕ) (i : ℕ) → text ≡ x ++ more → length x ≡ min (i + 1) (length text) → IsFirstMatchOrLen is_newline text i → 0 < length text → direction_texts text ≡ x ∷ direction_texts more
unfolding direction_texts
first_line [] x more i e l m some = absurd (omega arith)
first_line (b ∷ text) [] more i e l m some = absurd (omega arith)
first_line (b ∷ text) (c ∷ []) more zero e l m some =
    let head : b ≡ c = cc in
    let tail : text ≡ more = cc in
    let t : is_newline b ≡ true = m.1 some 0 in
    rw t (λ j. (head j ∷ []) ∷ direction_texts (tail j))
first_line (b ∷ text) (c ∷ d ∷ x) more zero e l m some = absurd (omega arith)
first_line (b ∷ []) (c ∷ []) more (suc i) e l m some =
    let head : b ≡ c = cc in
    let tail : [] ≡ more = cc in
    let f : is_newline b ≡ false = m.0 0 0 (omega arith) (omega arith) in
    rw f (λ j. (head j ∷ []) ∷ direction_texts (tail j))
first_line (b ∷ []) (c ∷ d ∷ x) more (suc i) e l m some = absurd (omega arith)
first_line (b ∷ a ∷ text) (c ∷ x) more (suc i) e l m some =
    let head : b ≡ c = cc in
    let tail : a ∷ text ≡ x ++ more = cc in
    let f : is_newline b ≡ false = m.0 0 0 (omega arith) (omega arith) in
    let rest : IsFirstMatchOrLen is_newline (a ∷ text) i = (λ k d low high. m.0 (suc k) d (omega arith) (omega arith), λ h d. m.1 (omega arith) d) in
    let more_lines = first_line (a ∷ text) x more i tail (omega arith) rest (omega arith) in
    rw f (ap (before b) more_lines ∙ ap (λ (y : ℕ). (y ∷ x) ∷ direction_texts more) head)

module _ {F : Type 0} (g : Mut F (Bor ℕ × Unit {0}) Bool) where
  -- one call of `next`
  abbrev pub part_steps : SplitInclusive ℕ F → Option (Bor (List ℕ)) → SplitInclusive ℕ F → Type 0
  part_steps s r t =
      MatchOption r ((length (split_inclusive_rest s) ≡ 0) × (t ≡ s))
      (λ x. (split_inclusive_rest s ≡ x.now ++ split_inclusive_rest t)
      × ((i : ℕ) × (length x.now ≡ min (i + 1) (length (split_inclusive_rest s)))
      × ((p : ℕ → Bool) → ComputesKey g p (split_inclusive_callee s) → ComputesKey g p (split_inclusive_callee t) × IsFirstMatchOrLen p (split_inclusive_rest s) i))
      × (0 < length (split_inclusive_rest s)))

  -- no part is left only of no text
  none_left : (text : List ℕ) → length text ≡ 0 → length (direction_texts text) ≡ 0
  unfolding direction_texts
  none_left [] e = refl
  none_left (b ∷ text) e = absurd (omega arith)

  pub lines_given : {f : F} {s : SplitInclusive ℕ F} (text : List ℕ) → split_inclusive_rest s ≡ text → split_inclusive_callee s ≡ f → ((x : ℕ) (b : Bool) (q : F) → CalledAt g f x b q → (q ≡ f) × (b ≡ is_newline x))
      → YieldsList part_steps (λ x. x.now) s (direction_texts text)
  lines_given {f} {s} text rest callee tests =
      subst (λ (bs : List ℕ). YieldsList part_steps (λ x. x.now) s (direction_texts bs)) rest
      (YieldsList-from_shown_while part_steps (λ x. x.now) (λ t. direction_texts (split_inclusive_rest t)) (λ t. ComputesKey g is_newline (split_inclusive_callee t))
      (λ t u h k. none_left (split_inclusive_rest t) k.0)
      (λ t x u h k. let m = k.1.2 is_newline h in (m.0, first_line (split_inclusive_rest t) x.now (split_inclusive_rest u) k.1.0 k.0 k.1.1 m.1 k.2))
      s (subst (ComputesKey g is_newline) (sym callee) (always_returns_same g (λ a r. r ≡ is_newline a.0.now) f (λ a r q k. let m = tests a.0.now r q (record { shown = a.0; shows = refl; called = k }) in (m.1, m.0)))))

  -- a loop over them: each part is the next line, and after the last one there is none
  module _ {f : F} (s t u : SplitInclusive ℕ F) (text : List ℕ) (rest : split_inclusive_rest s ≡ text) (callee : split_inclusive_callee s ≡ f)
      (tests : (x : ℕ) (b : Bool) (q : F) → CalledAt g f x b q → (q ≡ f) × (b ≡ is_newline x)) (parts : List (Bor (List ℕ))) (given : Yields part_steps s parts t)
      {n : ℕ} (count : n ≡ length parts) {r : Option (Bor (List ℕ))} (step : part_steps t r u) where
    pub line_turn : {x : Bor (List ℕ)} → r ≡ Some x → (n < length (direction_texts text)) × (x.now ≡ get_or (direction_texts text) n x.now)
    line_turn {x} is =
        subst (λ (k : ℕ). (k < length (direction_texts text)) × (x.now ≡ get_or (direction_texts text) k x.now)) (sym count)
        (YieldsList-turn (lines_given text rest callee tests) parts t given r u x is step)

    pub line_end : r ≡ None → n ≡ length (direction_texts text)
    line_end is = count ∙ (YieldsList-end (lines_given text rest callee tests) parts t given r u is step).1
