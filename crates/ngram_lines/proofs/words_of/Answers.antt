-- Word k is field k, and each is found by itself.
use mathlib.Core.Path.{refl}
use native.Mathlib.Omega.{arith}
use Rattle.ngram_lines.proofs.Places.{words_are, word_noted}
use Rattle.ngram_lines.proofs.Numbers.{one_word, two_words, three_words}
use Rattle.ngram_lines.proofs.words_of.Goals as goal

pub field-requires : goal.field-requires
field-requires c = word_noted c.requires 1 (omega (arith, c.requires.order_from))

pub returns-then-order-eq1 : goal.returns-then-order-eq1
returns-then-order-eq1 c = λ fields top f g.
    rw (c.unwrap_or.ensures, c.is_some.ensures)
    (one_word c.args.words.now.list.now c.args.text.now c.args.places.now (words_are c.requires fields f) c.if-order-eq1.true
    c.find-first.result (rw c.field.ensures at c.find-first.ensures))

pub field-requires-2 : goal.field-requires-2
field-requires-2 c = word_noted c.requires 2 (omega (arith, c.requires.order_from))

pub returns-then-order-eq2 : goal.returns-then-order-eq2
returns-then-order-eq2 c = λ fields top f g.
    rw (c.unwrap_or-then-order-eq2.ensures, c.unwrap_or-then-order-eq2-2.ensures, c.is_some-then-order-eq2.ensures, c.is_some-then-order-eq2-2.ensures)
    (two_words c.args.words.now.list.now c.args.text.now c.args.places.now (words_are c.requires fields f) c.if-order-eq2.true
    c.find-first.result c.find-second.result _
    (rw c.field.ensures at c.find-first.ensures) (rw c.field-2.ensures at c.find-second.ensures) refl)

pub field-requires-3 : goal.field-requires-3
field-requires-3 c = word_noted c.requires 3 (omega (arith, c.requires.order_from))

pub returns : goal.returns
returns c = λ fields top f g.
    rw (c.unwrap_or-2.ensures, c.unwrap_or-3.ensures, c.unwrap_or-4.ensures, c.is_some-2.ensures, c.is_some-3.ensures, c.is_some-4.ensures)
    (three_words c.args.words.now.list.now c.args.text.now c.args.places.now (words_are c.requires fields f) (omega (arith, c.requires.order_from, c.requires.order_to))
    c.find-first.result c.find-second.result c.find-third.result _ _
    (rw c.field.ensures at c.find-first.ensures) (rw c.field-2.ensures at c.find-second.ensures) (rw c.field-3.ensures at c.find-third.ensures)
    refl refl)
