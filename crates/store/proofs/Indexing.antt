-- The index of the store: what find_equal keeps on its way along a chain, and that the index is kept where a place is put or appended.
-- Which bucket a state lies in does not matter to any of it, but that equal states lie in the same.
use mathlib.Core.Path.{◌≡◌, refl, sym, ◌∙◌, ap, subst}
use mathlib.Core.Bool.{true, false}
use mathlib.Core.Logic.{◌⊎◌, inl, inr, ⊎_elim}
use mathlib.Core.List.{List}
use Prim.Native.Nat.{ℕ, zero, suc, ◌+◌, ◌*◌, ◌/◌, ◌%◌, ◌-◌, ◌<◌, ◌≤◌, min}
use native.Mathlib.Nat.{mod-lt, mul_comm, mul-lt-mul_of_pos_right, div-lt_iff_lt-mul}
use native.Mathlib.Decide.{ℕ_discrete}
use native.Mathlib.Omega.{arith}
use lib.Dec.{eqb, ltb}
use lib.IntN.{ℤ, pos}
use lib.ListN.{length, get_or, replicate, length-replicate}
use lib.Seq.{ext_get_or}
use borrow.Author.Tests.{eqb-true, ltb-true, ltb-false}
use Rattle.laws.specs.Integers.{nat_of}
use Rattle.laws.specs.Index.{Chained, in_bucket, latest}
use Rattle.laws.proofs.Index.{latest_none, latest_lt, latest_at, chained_none, chained_same, chained_more, walk_start, walk_step, walk_less, walk_out}
use Rattle.laws.proofs.Tests.{both, by_test}
use Rattle.meaning.specs.declared.State.{State}
use Rattle.store.specs.Store.{slots, number_at, place_at, head_at, link_at, words_of, bucket_of, Way, Unseen, Indexed, Spare, Relinked, Put, is_same, Zeroed, Clearing}
use Rattle.store.specs.declared.Place.{Place}
use Rattle.store.proofs.Writes.{places_same}

-- a part of 2 ^ 32 as a part of m
scale_lt : (k m : ℕ) → k < 4294967296 → 0 < m → k * m / 4294967296 < m
scale_lt k m l h =
    (div-lt_iff_lt-mul {k = 4294967296} {x = k * m} {y = m} (omega arith)).1
    (let a : k * m < 4294967296 * m = mul-lt-mul_of_pos_right l h in let b : 4294967296 * m ≡ m * 4294967296 = mul_comm 4294967296 m in omega arith)

pub bucket_lt : (n : ℕ) (x : State) → 0 < n → bucket_of n x < n
unfolding bucket_of
bucket_lt n x h =
    let s = scale_lt ((words_of x * 2654435769 % 4294967296 + x.covered * 2246822519 % 4294967296 + x.r * 3266489917 % 4294967296) % 4294967296) (min n 2147483648) (mod-lt _ (omega arith)) (omega arith) in
    omega (arith, s)

-- equal states agree in all but the score
pub record Agree (a b : State) : Type 0 where
  pub word1_is : a.word1 ≡ b.word1
  pub word2_is : a.word2 ≡ b.word2
  pub covered_is : a.covered ≡ b.covered
  pub r_is : a.r ≡ b.r

pub same_agree : (a b : State) → is_same a b ≡ true → Agree a b
unfolding is_same
same_agree a b e =
    let p = both (eqb a.word1 b.word1) _ e in
    let q = both (eqb a.word2 b.word2) _ p.1 in
    let s = both (eqb a.covered b.covered) (eqb a.r b.r) q.1 in
    record { word1_is = eqb-true _ _ p.0; word2_is = eqb-true _ _ q.0; covered_is = eqb-true _ _ s.0; r_is = eqb-true _ _ s.1 }

same_bucket : (n : ℕ) (a b : State) → is_same a b ≡ true → bucket_of n a ≡ bucket_of n b
unfolding bucket_of
same_bucket n a b e =
    let g = same_agree a b e in
    rw (g.word1_is, g.word2_is, g.covered_is, g.r_is)

-- ---- the walk of `find_equal`
module _ (st : List ℤ) (count : ℕ) (x : State) (J : Indexed st count) where
  pub way_starts : (h at : ℕ) → h ≡ bucket_of (slots st) x → h < slots st → at ≡ head_at st h → Way st count x at
  way_starts h at e l q = walk_start J.chained (λ k. is_same (place_at st k).state x) (bucket_of (slots st) x) (λ k _ t. same_bucket (slots st) (place_at st k).state x t) e l q

  pub way_goes : (at next : ℕ) → Way st count x at → 0 < at → is_same (place_at st (at - 1)).state x ≡ false → next ≡ link_at st (at - 1) → Way st count x next
  way_goes at next w p f q = walk_step J.chained (λ k. is_same (place_at st k).state x) (bucket_of (slots st) x) (λ k _ t. same_bucket (slots st) (place_at st k).state x t) w p f q

  pub way_less : (at next : ℕ) → Way st count x at → 0 < at → next ≡ link_at st (at - 1) → next < at
  way_less at next w p q = walk_less J.chained p w.bound q

  pub way_ends : (at : ℕ) → Way st count x at → at ≤ 0 → Unseen st count x
  way_ends at w z k h = latest_none (λ k. is_same (place_at st k).state x) count (walk_out w z) k h

-- ---- the index after a change

-- a head that is the same as a number is read the same
head_same : (st new : List ℤ) (h : ℕ) → get_or new h (pos 0) ≡ get_or st h (pos 0) → head_at new h ≡ head_at st h
unfolding head_at
head_same st new h e = ap nat_of e

plain_same : (st new : List ℤ) (h : ℕ) → get_or new h (pos 0) ≡ get_or st h (pos 0) → get_or st h (pos 0) ≡ pos (head_at st h) → get_or new h (pos 0) ≡ pos (head_at new h)
plain_same st new h e p = e ∙ p ∙ ap pos (sym (head_same st new h e))

head_is : (st : List ℤ) (h k : ℕ) → get_or st h (pos 0) ≡ pos k → head_at st h ≡ k
unfolding head_at
head_is st h k e = ap nat_of e

-- an equal state took the place k
pub indexed_set : (st new : List ℤ) (count k : ℕ) (x : Place) → Indexed st count → k < count → Put st new k x → Spare st new k → is_same (place_at st k).state x.state ≡ true → Indexed new count
indexed_set st new count k x J lt u v e =
    record {
      room = omega (arith, u.long, J.room);
      few = omega (arith, u.long, J.few);
      unused = λ j f l m. v.numbers j f (λ z. omega arith) m ∙ J.unused j f l m;
      plain = λ h l. let m : h < slots st = subst (λ (n : ℕ). h < n / 8) u.long l in plain_same st new h (v.heads h m) (J.plain h m);
      chained =
          subst (λ (m : ℕ). Chained (λ j. bucket_of m (place_at new j).state) (head_at new) (link_at new) m count) (ap (λ (m : ℕ). m / 8) (sym u.long))
          (chained_same _ (head_at new) (link_at new) J.chained (λ j _. bucket j (ℕ_discrete j k)) (λ h l. head_same st new h (v.heads h l)) (λ j _. v.links j));
    }
  where
    bucket : (j : ℕ) → Dec (j ≡ k) → bucket_of (slots st) (place_at new j).state ≡ bucket_of (slots st) (place_at st j).state
    bucket j (yes q) =
        subst (λ (i : ℕ). bucket_of (slots st) (place_at new i).state ≡ bucket_of (slots st) (place_at st i).state) (sym q)
        (ap (λ (z : Place). bucket_of (slots st) z.state) u.at ∙ sym (same_bucket (slots st) (place_at st k).state x.state e))
    bucket j (no q) = ap (λ (z : Place). bucket_of (slots st) z.state) (u.other j q)

-- one state more
pub indexed_append : (st mid new : List ℤ) (count : ℕ) (x : Place) → Indexed st count → 8 * count + 8 ≤ length st → Put st mid count x → Spare st mid count
    → Relinked mid new count (bucket_of (slots st) x.state) → Indexed new (count + 1) × Put st new count x
indexed_append st mid new count x J r u v w =
    let long : length new ≡ length st = w.long ∙ u.long in
    let here : bucket_of (slots st) (place_at new count).state ≡ bucket_of (slots st) x.state = ap (λ (z : Place). bucket_of (slots st) z.state) (w.places count ∙ u.at) in (
      record {
        room = omega (arith, J.room);
        few = omega arith;
        unused = λ j f l m. w.numbers j f (λ z. omega arith) m ∙ v.numbers j f (λ z. omega arith) m ∙ J.unused j f (omega arith) m;
        plain = λ h l. plain h (subst (λ (n : ℕ). h < n / 8) long l) (ℕ_discrete h (bucket_of (slots st) x.state));
        chained =
            subst (λ (m : ℕ). Chained (λ j. bucket_of m (place_at new j).state) (head_at new) (link_at new) m (count + 1)) (ap (λ (m : ℕ). m / 8) (sym long))
            (chained_more (λ k. bucket_of (slots st) (place_at new k).state) (head_at new) (link_at new) J.chained
            (λ k l. ap (λ (z : Place). bucket_of (slots st) z.state) (w.places k ∙ u.other k (omega arith)))
            (bucket_lt (slots st) (place_at new count).state (omega (arith, J.room)))
            (λ h l n. head_same st new h (heads h l (λ e. n (e ∙ sym here))))
            (ap (head_at new) here ∙ head_is new _ _ w.head)
            (λ k l. w.links k (omega arith) ∙ v.links k)
            (w.link ∙ head_same st mid _ (v.heads _ (bucket_lt (slots st) x.state (omega (arith, J.room)))) ∙ ap (head_at st) (sym here)));
      },
      record { long = long; at = w.places count ∙ u.at; other = λ j n. w.places j ∙ u.other j n },
    )
  where
    heads : (h : ℕ) → h < slots st → (h ≡ bucket_of (slots st) x.state → ⊥) → get_or new h (pos 0) ≡ get_or st h (pos 0)
    heads h l n = w.heads h (subst (λ (m : ℕ). h < m / 8) (sym u.long) l) n ∙ v.heads h l

    plain : (h : ℕ) → h < slots st → Dec (h ≡ bucket_of (slots st) x.state) → get_or new h (pos 0) ≡ pos (head_at new h)
    plain h l (yes q) = subst (λ (g : ℕ). get_or new g (pos 0) ≡ pos (head_at new g)) (sym q) (w.head ∙ ap pos (sym (head_is new _ _ w.head)))
    plain h l (no q) = plain_same st new h (heads h l q) (J.plain h l)

-- every number of a store of zeros
zeros : (n k : ℕ) → get_or (replicate n (pos 0)) k (pos 0) ≡ pos 0
zeros zero k = refl
zeros (suc n) zero = refl
zeros (suc n) (suc k) = zeros n k

-- no state yet
pub indexed_none : (st : List ℤ) (n : ℕ) → 8 ≤ length st → st ≡ replicate n (pos 0) → Indexed st 0
indexed_none st n long e =
    record {
      room = long;
      few = omega arith;
      unused = λ k f l m. zero_at _;
      plain = λ h _. zero_at h ∙ ap pos (sym (head_is st h 0 (zero_at h)));
      chained = chained_none _ (head_at st) (link_at st) (slots st) (λ h _. head_is st h 0 (zero_at h));
    }
  where
    zero_at : (p : ℕ) → get_or st p (pos 0) ≡ pos 0
    zero_at p = ap (λ (s : List ℤ). get_or s p (pos 0)) e ∙ zeros n p

-- ---- what `clear_places` does
-- the state of a place that is still to come is that of the start
state_ahead : {old st : List ℤ} {k : ℕ} → Clearing old st k → place_at st k ≡ place_at old k
state_ahead {old} {st} {k} C = places_same old st k (λ f l m. C.ahead k f (omega arith) l)

pub clear_goes : (old st new : List ℤ) (k h : ℕ) → Clearing old st k → h ≡ bucket_of (slots st) (place_at st k).state → 8 * h + 8 ≤ length st → Zeroed st new k h → Clearing old new (k + 1)
clear_goes old st new k h C e r Z =
    record {
      long = Z.long ∙ C.long;
      done = λ j f l m. done j f l m (ℕ_discrete j k);
      ahead = λ j f l m. Z.places j f (λ z. omega arith) m ∙ C.ahead j f (omega arith) m;
      cleared = λ j l. head (bucket_of (slots old) (place_at old j).state) j l refl (ℕ_discrete (bucket_of (slots old) (place_at old j).state) h) (ℕ_discrete j k);
      heads = λ g l. heads g l (ℕ_discrete g h);
    }
  where
    here : h ≡ bucket_of (slots old) (place_at old k).state
    here = e ∙ ap (λ (m : ℕ). bucket_of (m / 8) (place_at st k).state) C.long ∙ ap (λ (z : Place). bucket_of (slots old) z.state) (state_ahead C)

    done : (j f : ℕ) → j < k + 1 → f < 7 → Dec (j ≡ k) → number_at new j f ≡ pos 0
    done j f l m (yes q) = subst (λ (i : ℕ). number_at new i f ≡ pos 0) (sym q) (Z.place f m)
    done j f l m (no q) = Z.places j f q m ∙ C.done j f (omega arith) m

    -- another head of a bucket
    other : (g : ℕ) → g < slots old → (g ≡ h → ⊥) → get_or new g (pos 0) ≡ get_or st g (pos 0)
    other g l = Z.heads g (subst (λ (n : ℕ). g < n / 8) (sym C.long) l)

    head : (g j : ℕ) → j < k + 1 → g ≡ bucket_of (slots old) (place_at old j).state → Dec (g ≡ h) → Dec (j ≡ k) → get_or new g (pos 0) ≡ pos 0
    head g j l q (yes y) d = subst (λ (i : ℕ). get_or new i (pos 0) ≡ pos 0) (sym y) Z.head
    head g j l q (no y) (yes d) = absurd (y (q ∙ ap (λ (i : ℕ). bucket_of (slots old) (place_at old i).state) d ∙ sym here))
    head g j l q (no y) (no d) =
        let b = bucket_lt (slots old) (place_at old j).state (omega (arith, C.long)) in
        other g (omega arith) y ∙ subst (λ (i : ℕ). get_or st i (pos 0) ≡ pos 0) (sym q) (C.cleared j (omega arith))

    heads : (g : ℕ) → g < slots old → Dec (g ≡ h) → (get_or new g (pos 0) ≡ pos 0) ⊎ (get_or new g (pos 0) ≡ get_or old g (pos 0))
    heads g l (yes q) = inl (subst (λ (i : ℕ). get_or new i (pos 0) ≡ pos 0) (sym q) Z.head)
    heads g l (no q) = ⊎_elim (λ z. inl (other g l q ∙ z)) (λ z. inr (other g l q ∙ z)) (C.heads g l)

-- after the last place no number is left: a head that is not zero is that of a bucket with a state
pub clear_ends : (old st : List ℤ) (count k : ℕ) → Indexed old count → count ≤ k → k ≤ count → Clearing old st k → st ≡ replicate (length old) (pos 0)
unfolding in_bucket
clear_ends old st count k J l m C =
    ext_get_or (pos 0) st (replicate (length old) (pos 0)) (C.long ∙ sym (length-replicate (length old) (pos 0)))
    (λ p _. by_test (ltb p (slots old)) (λ t. head p (head_at old p) (ltb-true p (slots old) t) refl) (λ f. behind p (ltb-false p (slots old) f)) ∙ sym (zeros (length old) p))
  where
    head : (h a : ℕ) → h < slots old → head_at old h ≡ a → get_or st h (pos 0) ≡ pos 0
    head h zero b e = ⊎_elim (λ z. z) (λ z. z ∙ J.plain h b ∙ ap pos e) (C.heads h b)
    head h (suc a) b e =
        let q : latest (in_bucket (λ j. bucket_of (slots old) (place_at old j).state) h) count ≡ suc a = sym (J.chained.heads h b) ∙ e in
        let lt : a < count = latest_lt (in_bucket (λ j. bucket_of (slots old) (place_at old j).state) h) count a q in
        let i : bucket_of (slots old) (place_at old a).state ≡ h = eqb-true _ h (latest_at (in_bucket (λ j. bucket_of (slots old) (place_at old j).state) h) count a q) in
        subst (λ (g : ℕ). get_or st g (pos 0) ≡ pos 0) i (C.cleared a (omega arith))

    number : (j f : ℕ) → f < 7 → number_at st j f ≡ pos 0
    number j f b =
        by_test (ltb j k)
        (λ t. C.done j f (ltb-true j k t) b)
        (λ t. let ge = ltb-false j k t in C.ahead j f ge b ∙ J.unused j f (omega arith) b)

    -- number r of the place q
    behind : (p : ℕ) → slots old ≤ p → get_or st p (pos 0) ≡ pos 0
    behind p b =
        let q = (p - slots st) / 7 in
        let r = (p - slots st) % 7 in
        let e : slots st + 7 * q + r ≡ p = omega (arith, C.long) in
        rw e at (number q r (omega arith))
