-- Where 24 and 25 pass, the book is refused as its own questions refuse it.
use Prim.Native.Nat.{ℕ}
use mathlib.Core.Path.{sym, ap, ◌∙◌}
use native.Mathlib.Omega.{arith}
use Rattle.meaning.specs.Questions.{◌orelse◌, number}
use Rattle.revising.proofs.Replies.{refused_in_use}
use Rattle.longer.specs.Longer.{texts_refusal}
use Rattle.longer.proofs.Judging.{refusal_texts, room_none}
use Rattle.longer.proofs.refuse_book.Goals as goal

pub note_model-model-requires-clause-room : goal.note_model-model-requires-clause-room
note_model-model-requires-clause-room c = rw (c.fresh.ensures, c.new-tally.ensures) (room_none c.args.text.now c.args.cursor (omega arith))

pub returns-in-Ok : goal.returns-in-Ok
returns-in-Ok c =
    let z = c.in-Ok.ensures in
    sym (ap (λ (k : ℕ). k orelse number c.args.refusal) (sym (refusal_texts c.requires.opened c.note_model-model.ensures) ∙ sym z))

pub returns-in-Err : goal.returns-in-Err
returns-in-Err c =
    let q = c.in-Err.refusal in
    sym (refused_in_use q (texts_refusal c.args.text.now c.args.words.now.list.now) (number c.args.refusal) (sym (refusal_texts c.requires.opened c.note_model-model.ensures) ∙ sym c.in-Err.ensures))
