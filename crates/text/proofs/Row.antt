-- A list that takes the numbers of a text from its beginning, as many as it has places for: the invariant of such a loop.
use mathlib.Core.Path.{◌≡◌, refl, sym, ap, ◌∙◌}
use mathlib.Core.List.{List, [], ◌∷◌, ◌++◌, append_assoc, append-nil}
use Prim.Native.Nat.{ℕ, ◌+◌}
use native.Mathlib.Omega.{arith}
use lib.IntN.{ℤ}
use lib.ListN.{length, set, length-append}
use Rattle.meaning.specs.Reply.{filled_with}
use Rattle.meaning.proofs.Filled.{filled_none, filled_next}

-- the invariant: `out` began as `old`, n numbers are done, and with `rest` they will be `all`
pub record Writing (old out : List ℤ) (n : ℕ) (rest all : List ℤ) : Type 0 where
  pub new : List ℤ
  pub whole : new ++ rest ≡ all
  pub counted : n ≡ length new
  pub holds : out ≡ filled_with new old

pub write_start : (old all : List ℤ) → Writing old old 0 all all
write_start old all = record { new = []; whole = refl; counted = refl; holds = filled_none old }

pub write_put : {old out : List ℤ} {n : ℕ} {v : ℤ} {rest all : List ℤ} → Writing old out n (v ∷ rest) all → Writing old (set out n v) (n + 1) rest all
write_put {old} {out} {n} {v} {rest} w = record {
  new = w.new ++ (v ∷ []);
  whole = append_assoc w.new (v ∷ []) rest ∙ w.whole;
  counted = omega (arith, length-append w.new (v ∷ []), w.counted);
  holds = rw w.counted (filled_next w.new old v w.holds);
}

pub write_count : {old out : List ℤ} {n : ℕ} {all : List ℤ} → Writing old out n [] all → n ≡ length all
write_count w = w.counted ∙ ap length (sym (append-nil w.new) ∙ w.whole)

pub write_end : {old out : List ℤ} {n : ℕ} {all : List ℤ} → Writing old out n [] all → out ≡ filled_with all old
write_end {old} w = w.holds ∙ ap (λ (x : List ℤ). filled_with x old) (sym (append-nil w.new) ∙ w.whole)
