-- Numbers put at the front of a list, one a turn: what a turn leaves, and what stands there at the end.
use mathlib.Core.Path.{◌≡◌, ◌∙◌}
use mathlib.Core.List.{List, ◌++◌}
use Prim.Native.Nat.{ℕ, ◌+◌, ◌<◌}
use lib.IntN.{ℤ, pos}
use lib.ListN.{length, get_or, take, drop, set}
use lib.Seq.{take-length}
use Rattle.laws.proofs.Fill.{copy_more}
use Rattle.meaning.specs.Reply.{written_over}

module _ (src old : List ℤ) where
  -- after i turns
  abbrev pub Moved : ℕ → List ℤ → Type 0
  Moved i list = list ≡ take i src ++ drop i old

  -- one turn more
  pub move_more : (list : List ℤ) (i : ℕ) {z : ℤ} → i < length src → i < length old → Moved i list → z ≡ get_or src i (pos 0) → Moved (i + 1) (set list i z)
  move_more list i h l e v = rw (e, v) (copy_more i src old (pos 0) h l)

  -- the last turn
  pub moved_all : (list : List ℤ) (i : ℕ) → i ≡ length src → Moved i list → list ≡ written_over src old
  moved_all list i n e = e ∙ rw (n, take-length src)
