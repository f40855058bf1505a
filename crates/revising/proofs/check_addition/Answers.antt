-- The book's refusal is the addition's; where the book passes, the line's answer is.
use Rattle.std.proofs.lemmas.Result.{err_from_is_err_and}
use Prim.Native.Nat.{ℕ}
use mathlib.Core.Path.{◌≡◌, sym, ap, ◌∙◌}
use mathlib.Core.List.{List}
use lib.IntN.{ℤ}
use Rattle.meaning.specs.Questions.{number}
use Rattle.meaning.specs.Reply.{reply, reply_of}
use Rattle.meaning.specs.Revision.{in_use_refusal, line_refusal, add_refusal}
use Rattle.meaning.specs.declared.Refusal.{Refusal}
use Rattle.meaning.proofs.Chains.{refused_is}
use Rattle.meaning.proofs.Numbered.{refused_reply}
use Rattle.revising.proofs.Replies.{passes, refused_in_use}
use Rattle.revising.proofs.check_addition.Goals as goal

rest-asked : (list : List ℤ) (used : ℕ) (line : List ℤ) → in_use_refusal list used ≡ 0 → reply {A = Unit {0}} (line_refusal list used line) tt ≡ reply (add_refusal list used line) tt
unfolding add_refusal
rest-asked list used line e = rw e

book_refused : (list : List ℤ) (used : ℕ) (line : List ℤ) (refusal : Refusal) → in_use_refusal list used ≡ number refusal → add_refusal list used line ≡ number refusal
unfolding add_refusal
book_refused list used line refusal e = refused_in_use refusal (in_use_refusal list used) _ e

pub returns : goal.returns
returns c =
    let a = c.args in
    let passed = passes (in_use_refusal a.list.now a.used) (sym c.check_in_use.ensures ∙ ap reply_of c.in_ok-check_in_use.was) in
    c.check_line.ensures ∙ rest-asked a.list.now a.used a.line.now passed

pub returns-in_err-check_in_use : goal.returns-in_err-check_in_use
returns-in_err-check_in_use c =
    let a = c.args in
    let p = err_from_is_err_and c.from_residual.result c.from_residual.ensures.1 in rw (p.1, p.2)
    (refused_reply _ (add_refusal a.list.now a.used a.line.now) tt (book_refused a.list.now a.used a.line.now _
    (refused_is (in_use_refusal a.list.now a.used) (number _) tt (sym c.check_in_use.ensures ∙ ap reply_of c.in_err-check_in_use.was))))
