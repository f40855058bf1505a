-- More numbers in use than places are 7; else what the book answers is the answer.
use Prim.Native.Nat.{ℕ, ◌≤◌}
use mathlib.Core.Path.{◌≡◌, ◌∙◌}
use mathlib.Core.List.{List}
use lib.IntN.{ℤ}
use lib.ListN.{length, take}
use Rattle.meaning.specs.Reply.{reply, check_book}
use Rattle.meaning.specs.Revision.{in_use_refusal}
use Rattle.meaning.specs.declared.Refusal.TheVariants.{ListTooShort}
use Rattle.meaning.proofs.Numbered.{refused_reply}
use Rattle.revising.proofs.Replies.{too_many, not_too_many}
use Rattle.revising.proofs.check_in_use.Goals as goal

-- the questions of the book are what is left to ask
asked : (list : List ℤ) (used : ℕ) → used ≤ length list → check_book (take used list) ≡ reply (in_use_refusal list used) tt
unfolding check_book
asked list used h = rw (not_too_many list used h)

pub returns-then-list-used : goal.returns-then-list-used
returns-then-list-used c = let a = c.args in refused_reply ListTooShort (in_use_refusal a.list.now a.used) tt (too_many a.list.now a.used c.if-list-used.true)

pub returns : goal.returns
returns c =
    let a = c.args in
    c.check_book.ensures ∙ asked a.list.now a.used c.if-list-used.false
