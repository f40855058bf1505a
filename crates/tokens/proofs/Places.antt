-- The places where the first five fields of a line begin and end, with one field more noted.
use Prim.Native.Nat.{ℕ, ◌+◌, ◌*◌, ◌-◌, ◌≤◌, ◌<◌}
use mathlib.Core.Path.{◌≡◌, refl, sym, subst, ◌∙◌}
use mathlib.Core.Logic.{⊎_elim}
use mathlib.Core.List.{List, [], ◌∷◌, ◌++◌}
use native.Mathlib.Nat.{eq-or-lt_of_le}
use native.Mathlib.Omega.{arith}
use lib.Dec.{ltb}
use lib.ListN.{length, take, drop, get_or, set, length-set, length-append, get_or-append}
use lib.Seq.{get_or-set_same, get_or-set_other, get_or_at}
use borrow.Author.Tests.{lt-ltb}
use Rattle.laws.proofs.Tests.{by_test}
use Rattle.tokens.specs.Scan.{note_at, field_at, FieldNoted, Noted}

module _ (places : List ℕ) (k from to : ℕ) where
  pub note_length : length (note_at places k from to) ≡ length places
  unfolding note_at
  note_length = by_test (ltb k 5) (λ t. rw t (simp length-set)) (λ f. rw f)

  -- what stands before the places of field k stays
  note_kept : (i : ℕ) → i < 2 * k → get_or (note_at places k from to) i 0 ≡ get_or places i 0
  unfolding note_at
  note_kept i h =
      by_test (ltb k 5)
      (λ t. rw t (get_or-set_other (set places (2 * k) from) (2 * k + 1) i to 0 (λ e. omega arith) ∙ get_or-set_other places (2 * k) i from 0 (λ e. omega arith)))
      (λ f. rw f)

  module _ (five : k < 5) (room : 10 ≤ length places) where
    note_from : get_or (note_at places k from to) (2 * k) 0 ≡ from
    unfolding note_at
    note_from = rw (lt-ltb k 5 five) (get_or-set_other (set places (2 * k) from) (2 * k + 1) (2 * k) to 0 (λ e. omega arith) ∙ get_or-set_same places (2 * k) from 0 (omega arith))

    note_to : get_or (note_at places k from to) (2 * k + 1) 0 ≡ to
    unfolding note_at
    note_to = rw (lt-ltb k 5 five) (get_or-set_same (set places (2 * k) from) (2 * k + 1) to 0 (rw length-set (omega arith)))

pub noted_none : (text places : List ℕ) → Noted text places []
noted_none text places = record { part = λ k h l. absurd (omega arith); is = λ k h l. absurd (omega arith) }

-- a field by its two places
field_by : (text places : List ℕ) (k from to : ℕ) → get_or places (2 * k) 0 ≡ from → get_or places (2 * k + 1) 0 ≡ to → field_at text places k ≡ take (to - from) (drop from text)
unfolding field_at
field_by text places k from to e f = rw (e, f)

module _ (text places : List ℕ) (k from to : ℕ) (room : 10 ≤ length places) where
  -- the field that is noted
  new_part : k < 5 → from ≤ to → to ≤ length text → FieldNoted text (note_at places k from to) k
  new_part h order within =
      let s = note_length places k from to in
      record { room = omega arith; order = rw (note_from places k from to h room, note_to places k from to h room) order; within = rw (note_to places k from to h room) within }

  new_field : k < 5 → field_at text (note_at places k from to) k ≡ take (to - from) (drop from text)
  new_field h = field_by text (note_at places k from to) k from to (note_from places k from to h room) (note_to places k from to h room)

  -- a field before it
  old_part : (j : ℕ) → j < k → FieldNoted text places j → FieldNoted text (note_at places k from to) j
  old_part j h n =
      let s = note_length places k from to in
      let e = note_kept places k from to (2 * j) (omega arith) in
      let f = note_kept places k from to (2 * j + 1) (omega arith) in
      record { room = omega (arith, n.room); order = rw (e, f) n.order; within = rw f n.within }

  old_field : (j : ℕ) → j < k → field_at text (note_at places k from to) j ≡ field_at text places j
  old_field j h =
      field_by text (note_at places k from to) j (get_or places (2 * j) 0) (get_or places (2 * j + 1) 0) (note_kept places k from to (2 * j) (omega arith)) (note_kept places k from to (2 * j + 1) (omega arith))
      ∙ sym (field_by text places j (get_or places (2 * j) 0) (get_or places (2 * j + 1) 0) refl refl)

  pub noted_more : (fields : List (List ℕ)) → length fields ≡ k → from ≤ to → to ≤ length text → Noted text places fields
      → Noted text (note_at places k from to) (fields ++ (take (to - from) (drop from text) ∷ []))
  noted_more fields long order within n =
      let piece = take (to - from) (drop from text) in
      let size : length (fields ++ (piece ∷ [])) ≡ length fields + 1 = length-append fields (piece ∷ []) in
      record {
        part = λ j h l.
            ⊎_elim (λ e. subst (FieldNoted text (note_at places k from to)) (sym e) (new_part (omega arith) order within))
            (λ b. old_part j b (n.part j h (omega arith))) (eq-or-lt_of_le (at_most j l size));
        is = λ j h l.
            ⊎_elim (λ e. rw e (new_field (omega arith) ∙ sym (get_or_at fields piece [] [] k long)))
            (λ b. old_field j b ∙ n.is j h (omega arith) ∙ sym (get_or-append fields (piece ∷ []) [] j (omega arith))) (eq-or-lt_of_le (at_most j l size));
      }
    where
      at_most : (j : ℕ) {m : ℕ} → j < m → m ≡ length fields + 1 → j ≤ k
      at_most j l e = omega arith
