-- From the answer of a load to the reply of a check.
use Rattle.std.specs.declared.result.Result.TheVariants.{Ok, Err}
use Rattle.std.specs.declared.result.Result.{Result}
use Rattle.loading.specs.declared.load.Grams.{Grams}
use Prim.Native.Nat.{ℕ}
use native.Mathlib.Omega.{arith}
use mathlib.Core.Path.{◌≡◌, sym}
use mathlib.Core.List.{List}
use borrow.Author.Tests.{eq-eqb, ne_eqb}
use lib.Dec.{eqb}
use lib.IntN.{ℤ}
use Rattle.std.specs.Prelude.{is_ok}
use Rattle.meaning.specs.Questions.{number}
use Rattle.meaning.specs.Book.{Book, book_refusal}
use Rattle.meaning.specs.Reply.{reply, reply_of, check_book}
use Rattle.meaning.specs.declared.Refusal.{Refusal}
use Rattle.meaning.proofs.Chains.{reply_done, done_passes, refused_is}
use Rattle.loading.specs.Loaded.{Answered, refusal_of, replied}
use Rattle.meaning.proofs.Numbered.{number_from, refused_reply}

-- ════ the reply

pub answer_reply : (k : ℕ) (book : Book) (index : List ℕ) (r : Result Grams Refusal) → Answered k book index r → reply_of (replied r) ≡ reply k tt
answer_reply k book index (Ok s) a = sym (reply_done k tt a.passes)
answer_reply k book index (Err refusal) a = refused_reply refusal k tt a

-- a reply's number is the chain's
pub reply_number : (k : ℕ) (r : Result Unit Refusal) → reply_of r ≡ reply k tt → k ≡ refusal_of r
reply_number k (Ok tt) e = done_passes k tt tt (sym e)
reply_number k (Err refusal) e = refused_is k (number refusal) tt (sym e)

pub check_number : (loaded : List ℤ) (r : Result Unit Refusal) → reply_of r ≡ check_book loaded → book_refusal loaded ≡ refusal_of r
unfolding check_book
check_number loaded r e = reply_number (book_refusal loaded) r e

-- a check passes exactly where its number is 0
pub test_passes : (k : ℕ) (r : Result Unit Refusal) → k ≡ refusal_of r → is_ok r ≡ eqb k 0
test_passes k (Ok tt) e = sym (eq-eqb k 0 e)
test_passes k (Err refusal) e = let h = number_from refusal in sym (ne_eqb k 0 (λ z. omega arith))
