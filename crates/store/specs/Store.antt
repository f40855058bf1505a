-- The store as a function from places to what they hold. It is a list of integers, eight to a place: a head and seven numbers; src/lib.rt says what each is.
-- Reading is total (a negative number counts as 0, and what is too large for its field is cut), so nothing is asked of what a store held before.
use Rattle.std.specs.Prelude.{◌≡◌, Bool, true, false, ◌&&◌, ◌⊎◌, List, ℕ, ◌+◌, ◌*◌, ◌/◌, ◌%◌, ◌<◌, ◌≤◌, ◌^◌, min, eqb, ℤ, pos, length, get_or, Option, Some, None}
use Rattle.laws.specs.Integers.{nat_of}
use Rattle.laws.specs.Index.{Chained, Walk}
use Rattle.meaning.specs.declared.State.{State}
use Rattle.store.specs.declared.Place.{Place}

-- ---- reading

-- as many places, and as many buckets, as there are eight numbers
abbrev pub slots : List ℤ → ℕ
slots st = length st / 8

-- the heads of the buckets stand first, then the places, seven numbers to each
abbrev pub place_from : List ℤ → ℕ → ℕ
place_from st k = slots st + 7 * k

-- number f of the place k
abbrev pub number_at : List ℤ → ℕ → ℕ → ℤ
number_at st k f = get_or st (place_from st k + f) (pos 0)

-- the same as a natural
abbrev pub nat_at : List ℤ → ℕ → ℕ → ℕ
nat_at st k f = nat_of (number_at st k f)

unfoldable pub place_at : List ℤ → ℕ → Place
place_at st k =
    record {
      state =
          record {
            word1 = nat_at st k 0 / 65536 % 65536;
            word2 = nat_at st k 0 % 65536;
            covered = nat_at st k 1 % 4294967296;
            r = nat_at st k 2 / 64 % 65536;
            score = number_at st k 4;
          };
      size = nat_at st k 2 % 64;
      parent = nat_at st k 5;
      step = nat_at st k 6;
    }

unfoldable pub head_at : List ℤ → ℕ → ℕ
head_at st h = nat_of (get_or st h (pos 0))

unfoldable pub link_at : List ℤ → ℕ → ℕ
link_at st k = nat_at st k 3

-- ---- writing

-- the last two words as one number
abbrev pub words_of : State → ℕ
words_of x = x.word1 * 65536 + x.word2

-- what is no field of a fixed width fits a place too
pub record Storable (x : Place) : Type 0 where
  pub size_fits : x.size < 64
  pub parent_fits : x.parent < 2 ^ 63
  pub step_fits : x.step < 2 ^ 63

-- the place k now holds x, and no other changed
pub record Put (old new : List ℤ) (k : ℕ) (x : Place) : Type 0 where
  pub long : length new ≡ length old
  pub at : place_at new k ≡ x
  pub other : (j : ℕ) → (j ≡ k → ⊥) → place_at new j ≡ place_at old j

-- the heads, the links and every number of the places other than k are as they were
pub record Spare (old new : List ℤ) (k : ℕ) : Type 0 where
  pub heads : (h : ℕ) → h < slots old → get_or new h (pos 0) ≡ get_or old h (pos 0)
  pub links : (j : ℕ) → link_at new j ≡ link_at old j
  pub numbers : (j f : ℕ) → (j ≡ k → ⊥) → f < 7 → number_at new j f ≡ number_at old j f

-- the place k is linked in front of the bucket h, and nothing else changed
pub record Relinked (old new : List ℤ) (k h : ℕ) : Type 0 where
  pub long : length new ≡ length old
  pub places : (j : ℕ) → place_at new j ≡ place_at old j
  pub numbers : (j f : ℕ) → (j ≡ k → ⊥) → f < 7 → number_at new j f ≡ number_at old j f
  pub head : get_or new h (pos 0) ≡ pos (k + 1)
  pub heads : (g : ℕ) → g < slots old → (g ≡ h → ⊥) → get_or new g (pos 0) ≡ get_or old g (pos 0)
  pub link : link_at new k ≡ head_at old h
  pub links : (j : ℕ) → (j ≡ k → ⊥) → link_at new j ≡ link_at old j

-- ---- the index

-- a state's bucket, of n: by all but its score
unfoldable pub bucket_of : ℕ → State → ℕ
bucket_of n x =
    (words_of x * 2654435769 % 4294967296 + x.covered * 2246822519 % 4294967296 + x.r * 3266489917 % 4294967296) % 4294967296 * min n 2147483648 / 4294967296

-- the states of the first places are indexed, and the store is zero but for what they need
pub record Indexed (st : List ℤ) (count : ℕ) : Type 0 where
  pub room : 8 ≤ length st
  pub few : 8 * count ≤ length st
  pub unused : (k f : ℕ) → count ≤ k → f < 7 → number_at st k f ≡ pos 0
  pub plain : (h : ℕ) → h < slots st → get_or st h (pos 0) ≡ pos (head_at st h)
  pub chained : Chained (λ k. bucket_of (slots st) (place_at st k).state) (head_at st) (link_at st) (slots st) count

-- ---- finding

-- all but the scores agree
unfoldable pub is_same : State → State → Bool
is_same a b = eqb a.word1 b.word1 && (eqb a.word2 b.word2 && (eqb a.covered b.covered && eqb a.r b.r))

-- what find_equal keeps on its way along the chain of x's bucket; at is 1 + the place to look at next, or 0
abbrev pub Way : List ℤ → ℕ → State → ℕ → Type 0
Way st count x at = Walk (λ k. bucket_of (slots st) (place_at st k).state) (λ k. is_same (place_at st k).state x) (bucket_of (slots st) x) count at

-- no place below count holds an equal state
abbrev pub Unseen : List ℤ → ℕ → State → Type 0
Unseen st count x = (k : ℕ) → k < count → is_same (place_at st k).state x ≡ false

-- a place below count that holds an equal state, or none does
abbrev pub Located : List ℤ → ℕ → State → Option ℕ → Type 0
Located st count x (Some k) = (k < count) × (is_same (place_at st k).state x ≡ true)
Located st count x None = Unseen st count x

-- ---- clearing

-- the place k is zero, and so is the head h
pub record Zeroed (old new : List ℤ) (k h : ℕ) : Type 0 where
  pub long : length new ≡ length old
  pub place : (f : ℕ) → f < 7 → number_at new k f ≡ pos 0
  pub head : get_or new h (pos 0) ≡ pos 0
  pub places : (j f : ℕ) → (j ≡ k → ⊥) → f < 7 → number_at new j f ≡ number_at old j f
  pub heads : (g : ℕ) → g < slots old → (g ≡ h → ⊥) → get_or new g (pos 0) ≡ get_or old g (pos 0)

-- what clear_places keeps: the places below k are zero, and the heads of their buckets
pub record Clearing (old new : List ℤ) (k : ℕ) : Type 0 where
  pub long : length new ≡ length old
  pub done : (j f : ℕ) → j < k → f < 7 → number_at new j f ≡ pos 0
  pub ahead : (j f : ℕ) → k ≤ j → f < 7 → number_at new j f ≡ number_at old j f
  pub cleared : (j : ℕ) → j < k → get_or new (bucket_of (slots old) (place_at old j).state) (pos 0) ≡ pos 0
  pub heads : (h : ℕ) → h < slots old → (get_or new h (pos 0) ≡ pos 0) ⊎ (get_or new h (pos 0) ≡ get_or old h (pos 0))
