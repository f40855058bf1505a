-- The fields from k on hold the word where all do.
use Prim.Native.Nat.{ℕ, ◌+◌, ◌-◌}
use mathlib.Core.Path.{◌≡◌, sym, ap, ◌∙◌}
use mathlib.Core.List.{List}
use native.Mathlib.Omega.{arith}
use Rattle.arpa.specs.Lines.{eq_bytes}
use Rattle.tokens.proofs.Bytes.{same_is}
use Rattle.ngram_lines.proofs.Places.{holds_among, among_hit, among_next, word_noted}
use Rattle.ngram_lines.proofs.has_word.Goals as goal

pub field-requires : goal.field-requires
field-requires c = word_noted c.requires c.loop-k.k (omega arith)

pub returns-then-eq : goal.returns-then-eq
returns-then-eq c = λ fields f.
    let k = c.loop-k.k in
    let w = c.args.word.now in
    let t = sym (c.eq.ensures ∙ same_is c.field.result.now w ∙ ap (λ (v : List ℕ). eq_bytes v w) c.field.ensures) ∙ c.if-eq.true in
    sym (holds_among c.requires w fields f ∙ sym c.loop-k.invariant ∙ among_hit c.args.text.now c.args.places.now w k ((c.args.at.order + 1) - k) (omega arith) t)

pub loop-k-preserved : goal.loop-k-preserved
loop-k-preserved c =
    let k = c.loop-k.k in
    let w = c.args.word.now in
    let f = sym (c.eq.ensures ∙ same_is c.field.result.now w ∙ ap (λ (v : List ℕ). eq_bytes v w) c.field.ensures) ∙ c.if-eq.false in
    let z : (c.args.at.order + 1) - (k + 1) ≡ ((c.args.at.order + 1) - k) - 1 = omega arith in
    rw z (sym (among_next c.args.text.now c.args.places.now w k ((c.args.at.order + 1) - k) (omega arith) f) ∙ c.loop-k.invariant)

pub returns-else-eq : goal.returns-else-eq
returns-else-eq c = λ fields f.
    let k = c.loop-k.k in
    let w = c.args.word.now in
    let n = sym (c.eq.ensures ∙ same_is c.field.result.now w ∙ ap (λ (v : List ℕ). eq_bytes v w) c.field.ensures) ∙ c.if-eq.false in
    let z : ((c.args.at.order + 1) - k) - 1 ≡ 0 = omega arith in
    sym (holds_among c.requires w fields f ∙ rw z at (sym c.loop-k.invariant ∙ among_next c.args.text.now c.args.places.now w k ((c.args.at.order + 1) - k) (omega arith) n))
