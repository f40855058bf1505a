-- A number that is put from its last digit: the last digits of n stand from place i on, and the digits before them are those of `rest`.
use Prim.Native.Nat.{ℕ, zero, suc, ◌+◌, ◌-◌, ◌/◌, ◌%◌, ◌≤◌, ◌<◌}
use mathlib.Core.Path.{◌≡◌, refl, sym, ap, ◌∙◌}
use mathlib.Core.List.{List, [], ◌∷◌, ◌++◌, append_assoc}
use native.Mathlib.Numerals.{add-one}
use native.Mathlib.Omega.{arith}
use borrow.Author.Tests.{ltb-true, ltb-false}
use lib.Dec.{ltb}
use lib.IntN.{pos}
use lib.ListN.{length, take, drop, set, length-set, take-append-drop}
use lib.Seq.{drop_at, set_split, take-set-le, length-take-le}
use Rattle.laws.proofs.Tests.{by_test}
use Rattle.meaning.specs.Render.{decimal}
use Rattle.decimals.specs.Put.{Put}
use Rattle.decimals.proofs.Digits.{digit, digits, more_digits_lem}

-- the last k digits of a number
abbrev pub last_digits : ℕ → ℕ → List ℕ
last_digits zero n = []
last_digits (suc k) n = last_digits k (n / 10) ++ ((48 + n % 10) ∷ [])

-- as many as it has are its digits
all_digits : (fuel n : ℕ) → n < fuel → last_digits (length (decimal (pos n))) n ≡ decimal (pos n)
all_digits zero n h = absurd (omega arith)
all_digits (suc fuel) n h =
    by_test (ltb n 10)
    (λ t. let l = ltb-true n 10 t in let r : n % 10 ≡ n = omega arith in rw (digit n l) (ap (λ (d : ℕ). (48 + d) ∷ []) r))
    (λ f.
    let l = ltb-false n 10 f in
    let e : length (decimal (pos n)) ≡ suc (length (decimal (pos (n / 10)))) = omega (arith, more_digits_lem n l) in
    ap (λ (k : ℕ). last_digits k n) e ∙ ap (λ (ds : List ℕ). ds ++ ((48 + n % 10) ∷ [])) (all_digits fuel (n / 10) (omega arith)) ∙ sym (digits n l))

pub record Behind (n rest at end i : ℕ) (old out : List ℕ) : Type 0 where
  pub after : at ≤ i
  pub same : length out ≡ length old
  pub front : take at out ≡ take at old
  pub back : last_digits (i - at) rest ++ drop i out ≡ last_digits (end - at) n ++ drop end old

pub behind_start : (old : List ℕ) (n at end : ℕ) → at ≤ end → Behind n n at end end old old
behind_start old n at end h = record { after = h; same = refl; front = refl; back = refl }

-- the store at place i, and what stands from there on
drop_set : (l : List ℕ) (i v : ℕ) → i < length l → drop i (set l i v) ≡ v ∷ drop (i + 1) l
drop_set l i v h = rw (set_split l i v h, add-one) (drop_at (take i l) (v ∷ drop (suc i) l) i (length-take-le i l (omega arith)))

-- one digit more
pub behind_more : {n rest at end i : ℕ} {old out : List ℕ} → Behind n rest at end i old out → at < i → i ≤ length out
    → Behind n (rest / 10) at end (i - 1) old (set out (i - 1) (48 + rest % 10))
behind_more {n} {rest} {at} {end} {i} {old} {out} b a h =
    let j = i - 1 in
    let v = 48 + rest % 10 in
    let e : j + 1 ≡ i = omega arith in
    let k : suc (j - at) ≡ i - at = omega arith in
    let back : last_digits (suc (j - at)) rest ++ drop (j + 1) out ≡ last_digits (end - at) n ++ drop end old =
    ap (λ (m : ℕ). last_digits m rest ++ drop (j + 1) out) k ∙ ap (λ (m : ℕ). last_digits (i - at) rest ++ drop m out) e ∙ b.back in
    record {
      after = omega arith;
      same = length-set out j v ∙ b.same;
      front = take-set-le at out j v (omega arith) ∙ b.front;
      back = rw (drop_set out j v (omega arith)) (sym (append_assoc (last_digits (j - at) (rest / 10)) (v ∷ []) (drop (j + 1) out)) ∙ back);
    }

-- all are put
pub behind_end : {n rest at end i : ℕ} {old out : List ℕ} → Behind n rest at end i old out → i ≤ at → end ≡ at + length (decimal (pos n)) → end ≤ length old
    → Put (decimal (pos n)) at end old out
behind_end {n} {rest} {at} {end} {i} {old} {out} b h e r =
    let none : i - at ≡ 0 = omega arith in
    let first : i ≡ at = omega arith in
    let many : end - at ≡ length (decimal (pos n)) = omega arith in
    let back : drop at out ≡ decimal (pos n) ++ drop end old =
    ap (λ (k : ℕ). drop k out) (sym first) ∙ ap (λ (k : ℕ). last_digits k rest ++ drop i out) (sym none) ∙ b.back
    ∙ ap (λ (ds : List ℕ). ds ++ drop end old) (ap (λ (k : ℕ). last_digits k n) many ∙ all_digits (suc n) n (omega arith)) in
    record {
      end = e;
      room = r;
      same = b.same;
      list = sym (take-append-drop at out) ∙ rw (b.front, back) (sym (append_assoc (take at old) (decimal (pos n)) (drop end old)));
    }
