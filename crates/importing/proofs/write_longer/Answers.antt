-- Where there is room, the lines are put behind the numbers in use, and then u and the count of the T lines (Replies).
use mathlib.Core.Path.{ap, ◌∙◌}
use mathlib.Core.List.{List}
use native.Mathlib.Omega.{arith}
use lib.IntN.{ℤ}
use lib.ListN.{length, length-drop}
use Rattle.laws.specs.Lists.{concat}
use Rattle.laws.proofs.Lists.{part_rest}
use Rattle.meaning.specs.declared.Refusal.TheVariants.{ListTooShort}
use Rattle.longer.proofs.Judging.{lines_opened, scores_opened}
use Rattle.importing.proofs.Replies.{import_refused, too_short, import_done, six_room, import_list}
use Rattle.importing.proofs.write_longer.Goals as goal

pub returns-then-book-used : goal.returns-then-book-used
returns-then-book-used c =
    let a = c.args in
    let r = import_refused a.text.now a.words.now.list.now a.book.now a.used ListTooShort (too_short a.text.now a.words.now.list.now a.book.now a.used c.requires.used_in_bounds c.requires.opened.arpa a.longer c.requires.longer_is c.if-book-used.true) in
    record { result_value = r.0; book_after = r.1 }

pub write_model-requires-clause-cursor_in_bounds : goal.write_model-requires-clause-cursor_in_bounds
write_model-requires-clause-cursor_in_bounds c = let a = c.args in
    let f = c.requires.longer_is in
    let n = ap (λ (ls : List (List ℤ)). length (concat ls)) (lines_opened a.words.now.list.now c.requires.opened) in
    omega (arith, n, f.size_is, c.if-book-used.false, ap length (part_rest a.book.now a.used), length-drop a.used a.book.now)

pub write_model-requires-clause-cursor_value : goal.write_model-requires-clause-cursor_value
write_model-requires-clause-cursor_value c = let a = c.args in
    let f = c.requires.longer_is in
    let n = ap (λ (ls : List (List ℤ)). length (concat ls)) (lines_opened a.words.now.list.now c.requires.opened) in
    scores_opened a.words.now.list.now _ c.requires.opened f.passes

pub put_model-requires-clause-in_bounds : goal.put_model-requires-clause-in_bounds
put_model-requires-clause-in_bounds c = let a = c.args in
    let f = c.requires.longer_is in
    six_room a.text.now a.words.now.list.now a.book.now a.used c.requires.used_in_bounds c.requires.opened.arpa a.longer f (omega (arith, c.if-book-used.false)) c.write_model.new.out (rw (lines_opened a.words.now.list.now c.requires.opened) at c.write_model.ensures)

pub returns-clause-result_value : goal.returns-clause-result_value
returns-clause-result_value c = let a = c.args in
    let f = c.requires.longer_is in
    import_done a.text.now a.words.now.list.now a.book.now a.used c.requires.used_in_bounds c.requires.opened.arpa a.longer f (omega (arith, c.if-book-used.false))

pub returns-clause-book_after : goal.returns-clause-book_after
returns-clause-book_after c = let a = c.args in
    let f = c.requires.longer_is in
    c.put_model.ensures ∙ import_list a.text.now a.words.now.list.now a.book.now a.used c.requires.used_in_bounds c.requires.opened.arpa a.longer f (omega (arith, c.if-book-used.false)) c.write_model.new.out (rw (lines_opened a.words.now.list.now c.requires.opened) at c.write_model.ensures)
