-- It asks what the definition asks, in the same order; a lone word is asked only whether it is `</s>`.
use mathlib.Core.Path.{sym, ◌∙◌}
use native.Mathlib.Omega.{arith}
use Rattle.arpa.specs.Words.{start_word}
use Rattle.tokens.specs.Scan.{field_at}
use Rattle.tokens.proofs.Bytes.{same_is}
use Rattle.ngram_lines.proofs.Places.{word_noted, stop_passed, short_kept, unknown_passed, last_passed}
use Rattle.ngram_lines.proofs.is_passed_over.Goals as goal

pub returns-then-has_word : goal.returns-then-has_word
returns-then-has_word c = λ fields top f h. sym (stop_passed c.requires fields f (sym (c.has_word.ensures fields f) ∙ c.if-has_word.true))

pub returns-then-order-lt2 : goal.returns-then-order-lt2
returns-then-order-lt2 c = λ fields top f h.
    sym (short_kept c.requires fields f (sym (c.has_word.ensures fields f) ∙ c.if-has_word.false) c.if-order-lt2.true)

pub returns-then-has_word-2 : goal.returns-then-has_word-2
returns-then-has_word-2 c = λ fields top f h.
    sym (unknown_passed c.requires fields f (sym (c.has_word.ensures fields f) ∙ c.if-has_word.false) (omega arith) (sym (c.has_word-2.ensures fields f) ∙ c.if-has_word-2.true))

pub field-requires : goal.field-requires
field-requires c = word_noted c.requires c.args.at.order (omega arith)

pub returns : goal.returns
returns c = λ fields top f h.
    c.eq.ensures ∙ rw (c.field.ensures, c.as_slice.ensures) (same_is (field_at c.args.text.now c.args.places.now c.args.at.order) start_word)
    ∙ sym (last_passed c.requires fields f (sym (c.has_word.ensures fields f) ∙ c.if-has_word.false) (omega arith) (sym (c.has_word-2.ensures fields f) ∙ c.if-has_word-2.false))
