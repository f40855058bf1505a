-- A decode whose book or direction is refused changes nothing.
use Prim.Native.Nat.{ℕ, zero, suc, ◌≤◌}
use native.Mathlib.Omega.{arith}
use mathlib.Core.Path.{◌≡◌, refl, sym, ◌∙◌, ap}
use mathlib.Core.List.{List}
use lib.IntN.{ℤ}
use lib.ListN.{length}
use Rattle.meaning.specs.Questions.{◌orelse◌, number}
use Rattle.meaning.specs.Book.{book_refusal, book_of}
use Rattle.meaning.specs.Direction.{direction_refusal}
use Rattle.meaning.specs.Reply.{refused, Lent, before_search, after_search, decode_refusal, decode, cleared_if, decoded_store}
use Rattle.meaning.specs.declared.Refusal.{Refusal}
use Rattle.meaning.proofs.Numbered.{number_from, refused_first, refused_before_all, refused_reply}
use Rattle.decoder.specs.Decodes.{refused_by, PlainDecodes}
use Rattle.answer.specs.declared.PlainReply.{PlainReply}
use Rattle.decoder.proofs.Replies.{refuses}

kept_store : (k : ℕ) (store : List ℤ) → 1 ≤ k → store ≡ cleared_if k store
kept_store zero store h = absurd (omega arith)
kept_store (suc k) store h = refl

module _ (loaded : List ℤ) (direction : List ℕ) (width : ℤ) (lent : Lent) (refusal : Refusal) (e : (book_refusal loaded orelse direction_refusal direction) ≡ number refusal) where
  before_is : before_search loaded direction width lent ≡ number refusal
  unfolding before_search
  before_is = refused_before_all refusal (book_refusal loaded) (direction_refusal direction) _ e

  decode_is : decode loaded direction width lent ≡ refused (number refusal)
  unfolding decode decode_refusal
  decode_is =
      sym (refused_reply refusal (before_search loaded direction width lent orelse after_search (book_of loaded) direction width lent) _
      (ap (λ (k : ℕ). k orelse after_search (book_of loaded) direction width lent) before_is ∙ refused_first (number refusal) _ (number_from refusal)))

  store_is : (store : List ℤ) → store ≡ decoded_store loaded direction width lent store
  unfolding decoded_store
  store_is store = kept_store (number refusal) store (number_from refusal) ∙ ap (λ (k : ℕ). cleared_if k store) (sym before_is)

refused_plain : (loaded : List ℤ) (direction : List ℕ) (width : ℤ) (room : ℕ) (words : List ℕ) (store : List ℤ) (refusal : Refusal)
    → (book_refusal loaded orelse direction_refusal direction) ≡ number refusal → {r : PlainReply} → r ≡ refused_by refusal → PlainDecodes loaded direction width room words words store store r
refused_plain loaded direction width room words store refusal e i =
    let lent : Lent = record { steps = room; words = length words; store = length store } in
    refuses loaded direction width room words store refusal (decode_is loaded direction width lent refusal e) refl (store_is loaded direction width lent refusal e store) i

-- by the book ..
pub refused_book : (loaded : List ℤ) (direction : List ℕ) (width : ℤ) (room : ℕ) (words : List ℕ) (store : List ℤ) (refusal : Refusal)
    → book_refusal loaded ≡ number refusal → {r : PlainReply} → r ≡ refused_by refusal → PlainDecodes loaded direction width room words words store store r
refused_book loaded direction width room words store refusal e =
    refused_plain loaded direction width room words store refusal (ap (λ (k : ℕ). k orelse direction_refusal direction) e ∙ refused_first (number refusal) _ (number_from refusal))

-- .. or by the direction, where the book is open
pub refused_direction : (loaded : List ℤ) (direction : List ℕ) (width : ℤ) (room : ℕ) (words : List ℕ) (store : List ℤ) (refusal : Refusal)
    → book_refusal loaded ≡ 0 → direction_refusal direction ≡ number refusal → {r : PlainReply} → r ≡ refused_by refusal → PlainDecodes loaded direction width room words words store store r
refused_direction loaded direction width room words store refusal b e =
    refused_plain loaded direction width room words store refusal (ap (λ (k : ℕ). k orelse direction_refusal direction) b ∙ e)
