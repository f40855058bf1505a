-- What a caller may say of a store: that it is all zero.
use Rattle.std.specs.Prelude.{◌≡◌, Bool, true, false, List, ℤ, pos, length, replicate}

-- where that is said, it is so
abbrev pub Swept : Bool → List ℤ → Type 0
Swept true store = store ≡ replicate (length store) (pos 0)
Swept false store = Unit
