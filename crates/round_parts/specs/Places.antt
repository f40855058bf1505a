-- The places of direction k, counted from 0, in a list with `size` of them to a direction.
use Rattle.std.specs.Prelude.{ℕ, ◌*◌, ◌≡◌, List, ◌++◌, ℤ, take, drop}
use Rattle.decoder.specs.Decodes.{PlainDecodes}
use Rattle.answer.specs.declared.PlainReply.{PlainReply}

abbrev pub places_at : {A : Type 0} → ℕ → ℕ → List A → List A
places_at size k list = take size (drop (size * k) list)

-- the list with others in their place
abbrev pub put_at : {A : Type 0} → ℕ → ℕ → List A → List A → List A
put_at size k list places = take (size * k) list ++ (places ++ drop size (drop (size * k) list))

-- a decode on 32 step places and the 256 words of direction k
pub record DecodesAt (k : ℕ) (loaded : List ℤ) (direction : List ℕ) (width : ℤ) (words₀ words₁ : List ℕ) (store₀ store₁ : List ℤ) (r : PlainReply) : Type 0 where
  pub places : List ℕ
  pub decodes : PlainDecodes loaded direction width 32 (places_at 256 k words₀) places store₀ store₁ r
  pub words_are : words₁ ≡ put_at 256 k words₀ places
