-- The first line that is the word lies in the word's bucket, so the chain of that bucket meets it. The measure is the place: a link goes to an earlier line.
use Prim.Native.Nat.{ℕ}
use mathlib.Core.Path.{sym, ap, ◌∙◌}
use mathlib.Core.List.{List}
use Rattle.arpa.specs.Lines.{eq_bytes}
use Rattle.spelling.proofs.Index.{search_start, search_step, search_hit, search_less, search_out}
use Rattle.spelling.proofs.find.Goals as goal

pub loop-at-init : goal.loop-at-init
loop-at-init c = search_start c.requires.indexed c.args.word.now c.requires.h_value.0 c.requires.h_value.1 c.number_at-at.ensures.0

pub returns-then-same_bytes : goal.returns-then-same_bytes
returns-then-same_bytes c =
    let l = c.loop-at in (
      c.loop-at-test.true,
      search_hit c.requires.indexed c.args.word.now c.requires.h_value.0 c.requires.h_value.1 l.invariant c.loop-at-test.true
          (sym (c.same_bytes.ensures ∙ ap (λ (line : List ℕ). eq_bytes line c.args.word.now) c.line_at.ensures) ∙ c.if-same_bytes.true),
    )

pub loop-at-smaller : goal.loop-at-smaller
loop-at-smaller c =
    let l = c.loop-at in
    search_less c.requires.indexed c.args.word.now c.requires.h_value.0 c.requires.h_value.1 l.invariant c.loop-at-test.true c.number_at-at-in-loop-at.ensures.0

pub loop-at-preserved : goal.loop-at-preserved
loop-at-preserved c =
    let l = c.loop-at in
    search_step c.requires.indexed c.args.word.now c.requires.h_value.0 c.requires.h_value.1 l.invariant c.loop-at-test.true
    (sym (c.same_bytes.ensures ∙ ap (λ (line : List ℕ). eq_bytes line c.args.word.now) c.line_at.ensures) ∙ c.if-same_bytes.false) c.number_at-at-in-loop-at.ensures.0

pub returns : goal.returns
returns c = sym (search_out c.requires.indexed c.args.word.now c.loop-at.invariant c.loop-at-test.false)
