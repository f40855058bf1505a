-- `<s>` is 0, and any other word has the number by which it was found.
use Rattle.std.proofs.Common.{sym, ◌∙◌}
use Rattle.arpa.specs.Words.{start_word}
use Rattle.tokens.proofs.Bytes.{same_is}
use Rattle.ngram_lines.proofs.Numbers.{start_is, spelled_is}
use Rattle.ngram_lines.proofs.find.Goals as goal

pub returns-then-eq : goal.returns-then-eq
returns-then-eq c =
    let w = c.args.word.now in
    start_is c.args.words.now.list.now w (sym (same_is w start_word) ∙ sym (rw c.as_slice.ensures at c.eq.ensures) ∙ c.if-eq.true)

pub returns : goal.returns
returns c =
    let w = c.args.word.now in
    spelled_is c.args.words.now.list.now w c.number_of.result (sym (same_is w start_word) ∙ sym (rw c.as_slice.ensures at c.eq.ensures) ∙ c.if-eq.false) c.number_of.ensures
