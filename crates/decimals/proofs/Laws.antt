-- Bytes put one after the other: how the functions that print are made of each other.
use Prim.Native.Nat.{ℕ, suc, ◌+◌, ◌≤◌, ◌<◌}
use mathlib.Core.Path.{◌≡◌, refl, sym, ap, subst, ◌∙◌}
use mathlib.Core.List.{List, [], ◌∷◌, ◌++◌, map, map-append, append_assoc, append-nil}
use native.Mathlib.Numerals.{add-one}
use native.Mathlib.Omega.{arith}
use lib.ListN.{length, get_or, take, drop, set, length-append, length-set, take-append-drop}
use lib.Seq.{take_at, drop_at, drop-drop, set_split, length-take-le, take_all, append_snoc}
use Rattle.laws.specs.Lists.{concat}
use Rattle.laws.proofs.Lists.{take_next, concat_++}
use Rattle.meaning.specs.Reply.{written_over}
use Rattle.decimals.specs.Put.{Put}

pub put_none : (at : ℕ) (old : List ℕ) → at ≤ length old → Put [] at at old old
put_none at old h = record { end = omega arith; room = h; same = refl; list = rw append-nil (sym (take-append-drop at old)) }

pub put_one : (at b : ℕ) (old : List ℕ) → at < length old → Put (b ∷ []) at (at + 1) old (set old at b)
put_one at b old h =
    record {
      end = refl;
      room = omega arith;
      same = length-set old at b;
      list = rw add-one (set_split old at b h ∙ sym (append_snoc (take at old) b (drop (suc at) old)));
    }

-- the same bytes, in another form
pub put_is : {bs cs : List ℕ} {at r : ℕ} {old new : List ℕ} → bs ≡ cs → Put bs at r old new → Put cs at r old new
put_is {at} {r} {old} {new} e p = subst (λ (l : List ℕ). Put l at r old new) e p

-- one after the other
pub put_then : {bs cs : List ℕ} {at m r : ℕ} {old mid new : List ℕ} → Put bs at m old mid → Put cs m r mid new → Put (bs ++ cs) at r old new
put_then {bs} {cs} {at} {m} {r} {old} {mid} {new} p q =
    let front : length (take at old ++ bs) ≡ m = length-append (take at old) bs ∙ omega (arith, length-take-le at old (omega arith), p.end, p.room) in
    let took : take m mid ≡ take at old ++ bs = rw p.list (take_at (take at old ++ bs) (drop m old) m front) in
    let left : drop m mid ≡ drop m old = rw p.list (drop_at (take at old ++ bs) (drop m old) m front) in
    let far : r ≡ m + length cs = q.end in
    let rest : drop r mid ≡ drop r old = rw (far, ← (drop-drop (length cs) m mid), left, drop-drop) in
    record {
      end = rw length-append (omega (arith, p.end, q.end));
      room = omega (arith, p.same, q.room);
      same = q.same ∙ p.same;
      list = q.list ∙ rw (took, rest, append_assoc (take at old) bs cs);
    }

-- at the beginning of the list: it is written over
pub put_over : {bs : List ℕ} {r : ℕ} {old new : List ℕ} → Put bs 0 r old new → (r ≡ length bs) × (new ≡ written_over bs old)
put_over {bs} {r} {old} p = let e : r ≡ length bs = omega (arith, p.end) in (e, p.list ∙ ap (λ (n : ℕ). bs ++ drop n old) e)

-- ---- a loop that puts something for each element: the bytes of the first i elements are put

module _ {A : Type 0} (f : A → List ℕ) (xs : List A) where
  each_next : (i : ℕ) (d : A) {x : A} → i < length xs → get_or xs i d ≡ x → concat (map f (take (i + 1) xs)) ≡ concat (map f (take i xs)) ++ f x
  each_next i d h e = rw (take_next xs i d h, map-append, concat_++, append-nil) (ap (λ (y : A). concat (map f (take i xs)) ++ f y) e)

  each_parts : (i : ℕ) → concat (map f xs) ≡ concat (map f (take i xs)) ++ concat (map f (drop i xs))
  each_parts i = ap (λ (l : List A). concat (map f l)) (sym (take-append-drop i xs)) ∙ rw (map-append, concat_++)

  pub each_start : {at : ℕ} {old : List ℕ} → at + length (concat (map f xs)) ≤ length old → Put (concat (map f (take 0 xs))) at at old old
  each_start {at} {old} h = put_none at old (omega arith)

  -- element i is x
  module _ {at next : ℕ} {old mid : List ℕ} {x : A} (i : ℕ) (d : A) (h : i < length xs) (e : get_or xs i d ≡ x) (p : Put (concat (map f (take i xs))) at next old mid) where
    pub each_room : at + length (concat (map f xs)) ≤ length old → next + length (f x) ≤ length mid
    each_room room =
        omega (arith, p.end, p.same, simp length-append at (ap length (each_next i d h e)), simp length-append at (ap length (each_parts (i + 1))))

    pub each_more : {r : ℕ} {new : List ℕ} → Put (f x) next r mid new → Put (concat (map f (take (i + 1) xs))) at r old new
    each_more q = put_is (sym (each_next i d h e)) (put_then p q)

  pub each_end : {at next : ℕ} {old new : List ℕ} (i : ℕ) → length xs ≤ i → Put (concat (map f (take i xs))) at next old new → Put (concat (map f xs)) at next old new
  each_end i h p = put_is (ap (λ (l : List A). concat (map f l)) (take_all i xs h)) p
