-- A list that is written part by part (`by_parts`), as a round's lists are: which places are whose, what one direction more writes, and what is left. With it the
-- directions that the ends mark, and the store after them.
use Prim.Native.Nat.{ℕ, zero, suc, ◌+◌, ◌-◌, ◌*◌, ◌≤◌, ◌<◌}
use native.Mathlib.Nat.{mul-zero, mul-suc}
use native.Mathlib.Omega.{arith}
use mathlib.Core.Path.{◌≡◌, refl, sym, ap, ◌∙◌, subst}
use mathlib.Core.Bool.{true}
use mathlib.Core.List.{List, [], ◌∷◌, ◌++◌, append_assoc}
use borrow.Author.Tests.{ltb-true}
use lib.Dec.{ltb}
use lib.IntN.{ℤ, pos}
use lib.ListN.{length, get_or, take, drop, length-append, length-drop, length-replicate}
use lib.Seq.{length-take-le, take-length, take_at, drop_at, take-append-add, drop-drop}
use Rattle.laws.proofs.Tests.{both}
use Rattle.meaning.specs.Reply.{cleared_if, before_search, decoded_store}
use Rattle.meaning.specs.Round.{are_rising, directions_from, alone, by_parts, store_after}

-- ════ the places of direction k, counted from 0

abbrev pub part_of : {A : Type 0} → ℕ → ℕ → List A → List A
part_of size k list = take size (drop (size * k) list)

more : (size n : ℕ) → size * suc n ≡ size + size * n
more size n = let e = mul-suc size n in omega arith

module _ {A : Type 0} (size : ℕ) where
  -- the first ones, and those of the next direction
  drop_first : (xs : List A) → drop (size * 0) xs ≡ xs
  drop_first xs = ap (λ (n : ℕ). drop n xs) (mul-zero size)

  drop_more : (k : ℕ) (xs : List A) → drop (size * suc k) xs ≡ drop (size * k) (drop size xs)
  drop_more k xs = ap (λ (n : ℕ). drop n xs) (more size k) ∙ sym (drop-drop (size * k) size xs)

  pub part_first : (xs : List A) → part_of size 0 xs ≡ take size xs
  part_first xs = ap (take size) (drop_first xs)

  pub part_more : (k : ℕ) (xs : List A) → part_of size (suc k) xs ≡ part_of size k (drop size xs)
  part_more k xs = ap (take size) (drop_more k xs)

  -- all of them are there
  pub part_long : (k n : ℕ) (xs : List A) → k < n → size * n ≤ length xs → length (part_of size k xs) ≡ size
  part_long k zero xs l h = absurd (omega arith)
  part_long zero (suc n) xs l h = let m = more size n in ap length (part_first xs) ∙ length-take-le size xs (omega arith)
  part_long (suc k) (suc n) xs l h =
      let m = more size n in let d = length-drop size xs in
      ap length (part_more k xs) ∙ part_long k n (drop size xs) (omega arith) (omega arith)

  -- the rest of a list that has places for all
  rest_long : (n : ℕ) (list : List A) → size * suc n ≤ length list → size * n ≤ length (drop size list)
  rest_long n list h = let m = more size n in let d = length-drop size list in omega arith

  -- behind a part
  module _ (xs ys : List A) (e : length xs ≡ size) where
    take_behind : (k : ℕ) → take (size * suc k) (xs ++ ys) ≡ xs ++ take (size * k) ys
    take_behind k = ap (λ (n : ℕ). take n (xs ++ ys)) (more size k ∙ ap (λ (n : ℕ). n + size * k) (sym e)) ∙ take-append-add xs ys (size * k)

    drop_behind : (k : ℕ) → drop (size * suc k) (xs ++ ys) ≡ drop (size * k) ys
    drop_behind k = drop_more k (xs ++ ys) ∙ ap (drop (size * k)) (drop_at xs ys size e)

-- ════ the parts one after the other

module _ {A B : Type 0} (size : ℕ) (each : B → List A → List A) where
  -- no direction is decoded yet
  pub parts_begin : (ds : List B) (list : List A) → by_parts size each (take 0 ds) list ≡ list
  parts_begin ds list = refl

  -- two that write the same
  pub parts_same : (each' : B → List A → List A) → ((d : B) (xs : List A) → length xs ≡ size → each d xs ≡ each' d xs)
      → (ds : List B) (list : List A) → size * length ds ≤ length list → by_parts size each ds list ≡ by_parts size each' ds list
  parts_same each' s [] list h = refl
  parts_same each' s (d ∷ ds) list h =
      let m = more size (length ds) in
      rw (s d (take size list) (length-take-le size list (omega arith)), parts_same each' s ds (drop size list) (rest_long size (length ds) list h))

module _ {A B : Type 0} (size : ℕ) (each : B → List A → List A) (keeps : (d : B) (xs : List A) → length xs ≡ size → length (each d xs) ≡ size) where
  -- the first part, and what is behind it
  first_long : (d : B) (n : ℕ) (list : List A) → size * suc n ≤ length list → length (each d (take size list)) ≡ size
  first_long d n list h = let m = more size n in keeps d (take size list) (length-take-le size list (omega arith))

  drop_written : (d : B) (n k : ℕ) (list ys : List A) → size * suc n ≤ length list → drop (size * suc k) (each d (take size list) ++ ys) ≡ drop (size * k) ys
  drop_written d n k list ys h = drop_behind size (each d (take size list)) ys (first_long d n list h) k

  pub parts_long : (ds : List B) (list : List A) → size * length ds ≤ length list → length (by_parts size each ds list) ≡ length list
  parts_long [] list h = refl
  parts_long (d ∷ ds) list h =
      let a = length-append (each d (take size list)) (by_parts size each ds (drop size list)) in
      let f = first_long d (length ds) list h in let m = more size (length ds) in
      let r = parts_long ds (drop size list) (rest_long size (length ds) list h) in let l = length-drop size list in
      omega arith

  pub parts_at : (ds : List B) (list : List A) (k : ℕ) (b : B) → k < length ds → size * length ds ≤ length list
      → part_of size k (by_parts size each ds list) ≡ each (get_or ds k b) (part_of size k list)
  parts_at [] list k b l h = absurd (omega arith)
  parts_at (d ∷ ds) list zero b l h =
      part_first size _ ∙ take_at _ (by_parts size each ds (drop size list)) size (first_long d (length ds) list h) ∙ ap (each d) (sym (part_first size list))
  parts_at (d ∷ ds) list (suc k) b l h =
      ap (take size) (drop_written d (length ds) k list (by_parts size each ds (drop size list)) h)
      ∙ parts_at ds (drop size list) k b (omega arith) (rest_long size (length ds) list h) ∙ ap (each (get_or ds k b)) (sym (part_more size k list))

  pub parts_behind : (ds : List B) (list : List A) → size * length ds ≤ length list → drop (size * length ds) (by_parts size each ds list) ≡ drop (size * length ds) list
  parts_behind [] list h = refl
  parts_behind (d ∷ ds) list h =
      drop_written d (length ds) (length ds) list (by_parts size each ds (drop size list)) h
      ∙ parts_behind ds (drop size list) (rest_long size (length ds) list h) ∙ sym (drop_more size (length ds) list)

  -- one direction more
  pub parts_next : (ds : List B) (list : List A) (k : ℕ) (b : B) → k < length ds → size * length ds ≤ length list
      → by_parts size each (take (suc k) ds) list
      ≡ take (size * k) (by_parts size each (take k ds) list)
      ++ (each (get_or ds k b) (part_of size k list) ++ drop size (drop (size * k) (by_parts size each (take k ds) list)))
  parts_next [] list k b l h = absurd (omega arith)
  parts_next (d ∷ ds) list zero b l h = rw mul-zero refl
  parts_next (d ∷ ds) list (suc k) b l h =
      let first = each d (take size list) in let now = by_parts size each (take k ds) (drop size list) in
      let f = first_long d (length ds) list h in
      ap (λ (xs : List A). first ++ xs) (parts_next ds (drop size list) k b (omega arith) (rest_long size (length ds) list h))
      ∙ sym (append_assoc first (take (size * k) now) _)
      ∙ rw (take_behind size first now f k, drop_behind size first now f k, part_more size k list) refl

  -- the places of a direction are untouched until then
  pub parts_ahead : (ds : List B) (list : List A) (k : ℕ) → k < length ds → size * length ds ≤ length list
      → part_of size k (by_parts size each (take k ds) list) ≡ part_of size k list
  parts_ahead [] list k l h = absurd (omega arith)
  parts_ahead (d ∷ ds) list zero l h = refl
  parts_ahead (d ∷ ds) list (suc k) l h =
      ap (take size) (drop_written d (length ds) k list (by_parts size each (take k ds) (drop size list)) h)
      ∙ parts_ahead ds (drop size list) k (omega arith) (rest_long size (length ds) list h) ∙ sym (part_more size k list)

-- all directions
pub parts_whole : {B : Type 0} (ds : List B) → take (length ds) ds ≡ ds
parts_whole ds = take-length ds

-- ════ the directions that the ends mark

-- where direction k begins
abbrev pub end_before : ℕ → List ℕ → ℕ → ℕ
end_before before ends zero = before
end_before before ends (suc k) = get_or ends k 0

pub directions_count : (before : ℕ) (directions ends : List ℕ) → length (directions_from before directions ends) ≡ length ends
directions_count before directions [] = refl
directions_count before directions (end ∷ ends) = ap suc (directions_count end directions ends)

-- one end later
pub begins : (before end : ℕ) (ends : List ℕ) (k : ℕ) → end_before end ends k ≡ end_before before (end ∷ ends) (suc k)
begins before end ends zero = refl
begins before end ends (suc k) = refl

pub direction_at : (before : ℕ) (directions ends : List ℕ) (k : ℕ) → k < length ends
    → get_or (directions_from before directions ends) k [] ≡ take (get_or ends k 0 - end_before before ends k) (drop (end_before before ends k) directions)
direction_at before directions [] k l = absurd (omega arith)
direction_at before directions (end ∷ ends) zero l = refl
direction_at before directions (end ∷ ends) (suc k) l =
    direction_at end directions ends k (omega arith) ∙ ap (λ (n : ℕ). take (get_or ends k 0 - n) (drop n directions)) (begins before end ends k)

pub rising_at : (before : ℕ) (ends : List ℕ) (k : ℕ) → are_rising before ends ≡ true → k < length ends → end_before before ends k < get_or ends k 0
rising_at before [] k r l = absurd (omega arith)
rising_at before (end ∷ ends) zero r l = ltb-true before end (both (ltb before end) (are_rising end ends) r).0
rising_at before (end ∷ ends) (suc k) r l =
    subst (λ (n : ℕ). n < get_or ends k 0) (begins before end ends k) (rising_at end ends k (both (ltb before end) (are_rising end ends) r).1 (omega arith))

-- ════ the store

cleared_long : (k : ℕ) (store : List ℤ) → length (cleared_if k store) ≡ length store
cleared_long zero store = length-replicate (length store) (pos 0)
cleared_long (suc k) store = refl

module _ (loaded : List ℤ) (width : ℤ) where
  pub decoded_long : (d : List ℕ) (places : List ℤ) (store : List ℤ) → length (decoded_store loaded d width (alone places) store) ≡ length store
  unfolding decoded_store
  decoded_long d places store = cleared_long (before_search loaded d width (alone places)) store

  pub store_long : (ds : List (List ℕ)) (store : List ℤ) → length (store_after loaded width ds store) ≡ length store
  store_long [] store = refl
  store_long (d ∷ ds) store = store_long ds (decoded_store loaded d width (alone store) store) ∙ decoded_long d store store

  -- one direction more: each finds a store of the same length
  pub store_more : (ds : List (List ℕ)) (store : List ℤ) (k : ℕ) → k < length ds
      → store_after loaded width (take (suc k) ds) store ≡ decoded_store loaded (get_or ds k []) width (alone store) (store_after loaded width (take k ds) store)
  store_more [] store k l = absurd (omega arith)
  store_more (d ∷ ds) store zero l = refl
  store_more (d ∷ ds) store (suc k) l =
      let store' = decoded_store loaded d width (alone store) store in
      store_more ds store' k (omega arith)
      ∙ ap (λ (n : ℕ). decoded_store loaded (get_or ds k []) width (record { steps = 32; words = 256; store = n }) (store_after loaded width (take k ds) store')) (decoded_long d store store)
