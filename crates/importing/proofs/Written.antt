-- What the lent list holds once the imported lines stand behind the numbers in use, and u and the count of the T lines in the B record.
use Prim.Native.Nat.{ℕ, ◌+◌, ◌-◌, ◌≤◌}
use mathlib.Core.Path.{◌≡◌, sym, ap, ◌∙◌}
use mathlib.Core.List.{List, ◌++◌, append_assoc}
use native.Mathlib.Omega.{arith}
use lib.IntN.{ℤ}
use lib.ListN.{length, take, drop, set, length-append, length-set, take-append-drop}
use Rattle.laws.proofs.Fill.{over, over_long, over_more}
use Rattle.meaning.specs.Reply.{written_over}
use Rattle.revising.proofs.Books.{InUse, six, set_first}

module _ {book : List ℤ} {used : ℕ} (b : InUse book used) (u t : ℤ) (more : List ℤ) where
  -- the numbers then in use
  abbrev pub revised : List ℤ
  revised = set (set (take used book) 3 u) 5 t ++ more

  pub revised_long : length revised ≡ used + length more
  revised_long =
      let n = length-append (set (set (take used book) 3 u) 5 t) more in
      let k = length-set (set (take used book) 3 u) 5 t in
      let l = length-set (take used book) 3 u in
      omega (arith, b.long)

  module _ (part : List ℤ) (p : part ≡ over more (take (length book - used) (drop used book))) where
    -- the list, as code's `&mut book[used..]` leaves it
    put : take used book ++ (part ++ drop (length book - used) (drop used book)) ≡ over (take used book ++ more) book
    put = over_more (take used book) more book (sym (ap (λ (k : ℕ). take used book ++ drop k book) b.long ∙ take-append-drop used book)) (sym b.long) p

    pub put_room : used + length more ≤ length book → 6 ≤ length (take used book ++ (part ++ drop (length book - used) (drop used book)))
    put_room h = omega (arith, ap length put, over_long (take used book ++ more) book (omega (arith, length-append (take used book) more, b.long)), six b)

    -- and with both numbers
    pub put_all : set (set (take used book ++ (part ++ drop (length book - used) (drop used book))) 3 u) 5 t ≡ written_over revised book
    put_all =
        let rest = more ++ drop (length (take used book ++ more)) book in
        let n : length (take used book ++ more) ≡ length revised = length-append (take used book) more ∙ ap (λ (k : ℕ). k + length more) b.long ∙ sym revised_long in
        ap (λ (l : List ℤ). set (set l 3 u) 5 t) (put ∙ append_assoc (take used book) more (drop (length (take used book ++ more)) book))
        ∙ ap (λ (l : List ℤ). set l 5 t) (set_first (take used book) rest 3 u (omega (arith, b.long, six b)))
        ∙ set_first (set (take used book) 3 u) rest 5 t (omega (arith, b.long, six b, length-set (take used book) 3 u))
        ∙ sym (append_assoc (set (set (take used book) 3 u) 5 t) more (drop (length (take used book ++ more)) book))
        ∙ ap (λ (k : ℕ). revised ++ drop k book) n
