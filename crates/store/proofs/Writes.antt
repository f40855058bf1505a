-- What the writes of `put_place` and `link_place` come to.
-- The numbers of a place are packed and read back by division: that is all the arithmetic here.
use mathlib.Core.Path.{◌≡◌, sym, ap, ◌∙◌, subst}
use mathlib.Core.List.{List, [], ◌∷◌}
use Prim.Native.Nat.{ℕ, suc, ◌+◌, ◌*◌, ◌/◌, ◌%◌, ◌≤◌, ◌<◌}
use native.Mathlib.Omega.{arith}
use lib.IntN.{ℤ, pos}
use lib.ListN.{length, get_or, set, length-set}
use lib.Seq.{get_or-set_same, get_or-set_other}
use Rattle.laws.specs.Integers.{nat_of}
use Rattle.laws.specs.Lists.{set_at, set_from}
use Rattle.laws.proofs.Fields.{set_long, set_far, set_near, from_long, from_far, from_first, from_near}
use Rattle.meaning.specs.declared.State.{State}
use Rattle.store.specs.Store.{place_from, number_at, nat_at, place_at, head_at, link_at, words_of, Storable, Put, Spare, Relinked}
use Rattle.store.specs.declared.Place.{Place}

-- ---- two numbers in one
high_part : (n a b : ℕ) → n ≡ a * 65536 + b → a < 65536 → b < 65536 → n / 65536 % 65536 ≡ a
high_part n a b e h l = omega arith

low_part : (n a b : ℕ) → n ≡ a * 65536 + b → b < 65536 → n % 65536 ≡ b
low_part n a b e l = omega arith

whole : (n a : ℕ) → n ≡ a → a < 4294967296 → n % 4294967296 ≡ a
whole n a e l = omega arith

r_part : (n a b : ℕ) → n ≡ a * 64 + b → a < 65536 → b < 64 → n / 64 % 65536 ≡ a
r_part n a b e h l = omega arith

size_part : (n a b : ℕ) → n ≡ a * 64 + b → b < 64 → n % 64 ≡ b
size_part n a b e l = omega arith

-- the fields of a state fit their widths
pub record Sized (x : State) : Type 0 where
  pub word1_fits : x.word1 < 65536
  pub word2_fits : x.word2 < 65536
  pub covered_fits : x.covered < 4294967296
  pub r_fits : x.r < 65536

-- ---- the numbers of a place

pub first_number : (p : ℕ) → p ≡ p + 0
first_number p = omega arith

-- in a store that is as long, a place stands where it stood
still : (st new : List ℤ) → length new ≡ length st → (j f : ℕ) (z : ℤ) → get_or new (place_from st j + f) (pos 0) ≡ z → number_at new j f ≡ z
still st new long j f z = subst (λ (n : ℕ). get_or new (n / 8 + 7 * j + f) (pos 0) ≡ z) (sym long)

-- a place whose numbers are the same, but for its link
pub places_same : (st new : List ℤ) (j : ℕ) → ((f : ℕ) → f < 7 → (f ≡ 3 → ⊥) → number_at new j f ≡ number_at st j f) → place_at new j ≡ place_at st j
unfolding place_at
places_same st new j e =
    λ i. record {
      state =
          record {
            word1 = nat_of (e 0 (omega arith) (λ z. omega arith) i) / 65536 % 65536;
            word2 = nat_of (e 0 (omega arith) (λ z. omega arith) i) % 65536;
            covered = nat_of (e 1 (omega arith) (λ z. omega arith) i) % 4294967296;
            r = nat_of (e 2 (omega arith) (λ z. omega arith) i) / 64 % 65536;
            score = e 4 (omega arith) (λ z. omega arith) i;
          };
      size = nat_of (e 2 (omega arith) (λ z. omega arith) i) % 64;
      parent = nat_of (e 5 (omega arith) (λ z. omega arith) i);
      step = nat_of (e 6 (omega arith) (λ z. omega arith) i);
    }

-- ---- the six writes of `put_place`: two runs, with the link between them
module _ (st : List ℤ) (k : ℕ) (h : 8 * k + 8 ≤ length st) (a b c s d e : ℤ) where
  abbrev begun : List ℤ
  begun = set_from st (place_from st k) (a ∷ b ∷ c ∷ [])

  abbrev after : List ℤ
  after = set_at begun (place_from st k) 4 (s ∷ d ∷ e ∷ [])

  begun_long : length begun ≡ length st
  begun_long = from_long st (place_from st k) (a ∷ b ∷ c ∷ [])

  after_long : length after ≡ length st
  after_long = set_long begun (place_from st k) 4 (s ∷ d ∷ e ∷ []) ∙ begun_long

  -- a number that none of the writes hits
  away : (p : ℕ) → (place_from st k ≤ p → place_from st k + 3 ≤ p) → (place_from st k + 4 ≤ p → place_from st k + 7 ≤ p) → get_or after p (pos 0) ≡ get_or st p (pos 0)
  away p m n = set_far (s ∷ d ∷ e ∷ []) begun (place_from st k) 4 p (pos 0) n ∙ from_far (a ∷ b ∷ c ∷ []) st (place_from st k) p (pos 0) m

  first : number_at after k 0 ≡ a
  first =
      still st after after_long k 0 a
      (subst (λ (p : ℕ). get_or after p (pos 0) ≡ a) (first_number (place_from st k))
      (set_far (s ∷ d ∷ e ∷ []) begun (place_from st k) 4 (place_from st k) (pos 0) (λ l. omega arith) ∙ from_first a (b ∷ c ∷ []) st (place_from st k) (pos 0) (omega arith)))

  front : (j : ℕ) → j < 2 → number_at after k (suc j) ≡ get_or (b ∷ c ∷ []) j (pos 0)
  front j l =
      still st after after_long k (suc j) _
      (set_far (s ∷ d ∷ e ∷ []) begun (place_from st k) 4 (place_from st k + suc j) (pos 0) (λ m. omega arith) ∙ from_near a (b ∷ c ∷ []) st (place_from st k) j (pos 0) l (omega arith))

  back : (j : ℕ) → j < 3 → number_at after k (4 + j) ≡ get_or (s ∷ d ∷ e ∷ []) j (pos 0)
  back j l = still st after after_long k (4 + j) _ (set_near (s ∷ d ∷ e ∷ []) begun (place_from st k) 4 j (pos 0) l (omega (arith, begun_long)))

  -- a number of another place
  other_place : (j f : ℕ) → (j ≡ k → ⊥) → f < 7 → number_at after j f ≡ number_at st j f
  other_place j f n l =
      still st after after_long j f _ (away (place_from st j + f) (λ (g : place_from st k ≤ place_from st j + f). omega arith) (λ (g : place_from st k + 4 ≤ place_from st j + f). omega arith))

  pub put_spare : Spare st after k
  unfolding link_at
  put_spare =
      record {
        heads = λ g l. away g (λ (m : place_from st k ≤ g). omega arith) (λ (m : place_from st k + 4 ≤ g). omega arith);
        links = λ j. ap nat_of (still st after after_long j 3 _ (away (place_from st j + 3) (λ (m : place_from st k ≤ place_from st j + 3). omega arith) (λ (m : place_from st k + 4 ≤ place_from st j + 3). omega arith)));
        numbers = other_place;
      }

  pub put_all : (x : Place) → Sized x.state → Storable x → a ≡ pos (words_of x.state) → b ≡ pos x.state.covered → c ≡ pos (x.state.r * 64 + x.size)
      → s ≡ x.state.score → d ≡ pos x.parent → e ≡ pos x.step → Put st after k x
  unfolding place_at
  put_all x z y ea eb ec es ed ee =
      let w1 = z.word1_fits in
      let w2 = z.word2_fits in
      let wr = z.r_fits in
      let ws = y.size_fits in
      let words : nat_at after k 0 ≡ x.state.word1 * 65536 + x.state.word2 = ap nat_of (first ∙ ea) in
      let rest : nat_at after k 2 ≡ x.state.r * 64 + x.size = ap nat_of (front 1 (omega arith) ∙ ec) in
      let covered : nat_at after k 1 ≡ x.state.covered = ap nat_of (front 0 (omega arith) ∙ eb) in
      record {
        long = after_long;
        at =
            λ i. record {
              state =
                  record {
                    word1 = high_part _ x.state.word1 x.state.word2 words w1 w2 i;
                    word2 = low_part _ x.state.word1 x.state.word2 words w2 i;
                    covered = whole _ x.state.covered covered z.covered_fits i;
                    r = r_part _ x.state.r x.size rest wr ws i;
                    score = (back 0 (omega arith) ∙ es) i;
                  };
              size = size_part _ x.state.r x.size rest ws i;
              parent = ap nat_of (back 1 (omega arith) ∙ ed) i;
              step = ap nat_of (back 2 (omega arith) ∙ ee) i;
            };
        other = λ j n. places_same st after j (λ f l _. other_place j f n l);
      }

-- ---- the two writes of `link_place`
module _ (st : List ℤ) (k h : ℕ) (x y : ℤ) (hk : 8 * k + 8 ≤ length st) (hh : 8 * h + 8 ≤ length st) where
  abbrev linked : List ℤ
  linked = set (set st (place_from st k + 3) x) h y

  linked_long : length linked ≡ length st
  linked_long = length-set (set st (place_from st k + 3) x) h y ∙ length-set st (place_from st k + 3) x

  other_number : (p : ℕ) → (p ≡ place_from st k + 3 → ⊥) → (p ≡ h → ⊥) → get_or linked p (pos 0) ≡ get_or st p (pos 0)
  other_number p m n = get_or-set_other (set st (place_from st k + 3) x) h p y (pos 0) n ∙ get_or-set_other st (place_from st k + 3) p x (pos 0) m

  -- a number of a place that is not the link of k: no head lies in a place
  other_link : (j f : ℕ) → f < 7 → (place_from st j + f ≡ place_from st k + 3 → ⊥) → number_at linked j f ≡ number_at st j f
  other_link j f l n = still st linked linked_long j f _ (other_number (place_from st j + f) n (λ z. omega arith))

  pub relinked : x ≡ get_or st h (pos 0) → y ≡ pos (k + 1) → Relinked st linked k h
  unfolding head_at link_at
  relinked ex ey =
      record {
        long = linked_long;
        places = λ j. places_same st linked j (λ f l n. other_link j f l (λ z. omega arith));
        numbers = λ j f n l. other_link j f l (λ z. omega arith);
        head = get_or-set_same (set st (place_from st k + 3) x) h y (pos 0) (rw length-set (omega arith)) ∙ ey;
        heads = λ g l n. other_number g (λ z. omega arith) n;
        link = ap nat_of (still st linked linked_long k 3 _ (get_or-set_other (set st (place_from st k + 3) x) h (place_from st k + 3) y (pos 0) (λ z. omega arith) ∙ get_or-set_same st (place_from st k + 3) x (pos 0) (omega arith) ∙ ex));
        links = λ j n. ap nat_of (other_link j 3 (omega arith) (λ z. n (omega arith)));
      }
