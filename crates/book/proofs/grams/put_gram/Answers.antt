-- The record is put where there is a place for it.
use native.Mathlib.Omega.{arith}
use mathlib.Core.Path.{sym, ◌∙◌}
use Rattle.ngrams.proofs.Index.{place_room}
use Rattle.book.proofs.Gathered.{gram_not, gram_full, gram_put, not_gram, is_gram_lem}
use Rattle.book.proofs.grams.put_gram.Goals as goal
use Rattle.book.proofs.grams.put_gram.Goals.{else-order_of-gt0-via-then-order_of-gt0+else-has_place, else-order_of-gt0-via-else-order_of-gt0}

pub put_record-requires : goal.put_record-requires
put_record-requires c = (place_room c.args.index.now c.args.n (sym c.has_place.ensures ∙ c.if-has_place.true)).parts

pub returns-then-has_place : goal.returns-then-has_place
returns-then-has_place c =
    c.put_record.ensures
    ∙ gram_put c.args.index.now c.args.line.now c.args.n (is_gram_lem c.args.line.now (λ e. omega (arith, c.order_of.ensures.value, c.if-order_of-gt0.true))) (sym c.has_place.ensures ∙ c.if-has_place.true)

pub returns-else-order_of-gt0 : goal.returns-else-order_of-gt0
returns-else-order_of-gt0 c =
    elim c.else-order_of-gt0.branch [
      | else-order_of-gt0-via-then-order_of-gt0+else-has_place w ↦
          gram_full c.args.index.now c.args.line.now c.args.n (is_gram_lem c.args.line.now (λ e. omega (arith, c.order_of.ensures.value, w.if-order_of-gt0.true))) (sym w.has_place.ensures ∙ w.if-has_place.false)
      | else-order_of-gt0-via-else-order_of-gt0 w ↦ gram_not c.args.index.now c.args.line.now c.args.n (not_gram c.args.line.now (omega (arith, c.order_of.ensures.value, w.if-order_of-gt0.false)))
    ]
