-- The reply of the check by its number.
use borrow.Author.Rules.{rules}
use mathlib.Core.Path.{◌≡◌, sym, ap, ◌∙◌}
use lib.IntN.{pos}
use mir.Syntax.{w32}
use mir.Val.{to_z, of_z}
use Rattle.loading.proofs.Replies.{check_number}
use Rattle.ffi.proofs.Codes.{code_is}
use Rattle.ffi.proofs.phrase_check_book.Goals as goal

pub returns : goal.returns
returns c = let r = c.check_book in
    let back : to_z w32 (of_z w32 c.zero_or_refusal.result) ≡ c.zero_or_refusal.result = search rules in
    back ∙ c.zero_or_refusal.ensures ∙ code_is r.result ∙ ap pos (sym (check_number c.args.book.now r.result r.ensures))
